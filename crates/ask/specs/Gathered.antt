-- What is gathered of a table and a request for the decision, and what was decided, as an answer.
use Rattle.std.specs.Prelude.{Result, Option, None, Some, Ok, Err, ℕ, ◌+◌, ◌≤◌, ◌<◌, ◌≡◌, true, false, not, List, leb, length, set}
use Rattle.table.specs.declared.Refusal.{Refusal}
use Rattle.table.specs.Words.{Said}
use Rattle.line.specs.declared.Held.{Held}
use Rattle.line.specs.declared.Stream.{Stream}
use Rattle.line.specs.Slots.{both, at, is_waiting}
use Rattle.line.specs.Sound.{sound}
use Rattle.line.specs.Shares.{frame}
use Rattle.line.specs.Stretch.{barred}
use Rattle.table.specs.declared.Table.{Table}
use Rattle.table.specs.declared.Request.{Request}
use Rattle.table.specs.Words.{refusal, short_refusal}
use Rattle.table.specs.Grounds.{entry, asked}
use Rattle.table.specs.Ask.{refused_if, ask_in}
use Rattle.sums.specs.Lines.{along}
use Rattle.decide.specs.Decided.{Decision, Start, Refused, Short}
use Rattle.decide.specs.Lines.{Line, gathered_at, lines_in, gap_of}
use Rattle.ask.specs.declared.gather.Gathered.{Gathered}

-- the lines gathered: the first `count` of the arrays
abbrev pub gathered_lines : Gathered → List Line
gathered_lines g = along (gathered_at g.end g.remaining g.need g.period g.gap) 0 g.count

-- the arrays have room for them
abbrev pub Room : Gathered → Type 0
Room g =
    (g.count ≤ length g.end) × (g.count ≤ length g.remaining) × (g.count ≤ length g.need) × (g.count ≤ length g.period) × (g.count ≤ length g.gap)

-- sixteen places in each array
abbrev pub Sixteen : Gathered → Type 0
Sixteen g = (length g.end ≡ 16) × (length g.remaining ≡ 16) × (length g.need ≡ 16) × (length g.period ≡ 16) × (length g.gap ≡ 16)

-- R9: a line behind those before it, with its gap
abbrev pub pushed : Gathered → Stream → Gathered
pushed g y = record {
  count = g.count + 1;
  end = set g.end g.count y.end;
  remaining = set g.remaining g.count y.remaining;
  need = set g.need g.count y.need;
  period = set g.period g.count y.period;
  gap = set g.gap g.count (gap_of y);
}

-- R6, R42: what is gathered are the lines of the table, each at its T'; and the T' have sixteen bits (R3), so that each line can be fit
pub record Gathers (t : Table) (q : Request) (g : Gathered) : Type 0 where
  pub few : g.count ≤ 16
  pub room : Room g
  pub same : gathered_lines g ≡ lines_in (asked t q)
  pub wide : (k : ℕ) → entry q k ≤ 65535

-- R23 to R25: what is known of a slot, with p for its T', since none of these grounds held
abbrev pub Allowed : ℕ → Held → Type 0
Allowed p h = (is_waiting h ≡ false) × (sound h ≡ true) × (barred p h ≡ false)

-- the same of every slot, with its entry for its T'
abbrev pub AllAllowed : Table → Request → Type 0
AllAllowed t q = (i : ℕ) → i < length t.slots → Allowed (entry q i) (at t.slots i)

-- R18: past the grounds 1 to 5: R26, then R27 to R30 or R14
unfoldable pub past_five : Table → Request → Said ℕ
past_five t q =
    refused_if (not (both (leb 1 q.need) (leb q.need q.period))) 6
    (ask_in t.clock (frame (asked t q) q.period) (asked t q) q.need q.period)

-- R17, R41, R103: what was decided, as an answer: a start and a short tick are counted from the clock on, and these grounds have place 0
abbrev pub answer_from : (clock : ℕ) → Decision → Said ℕ
answer_from clock (Start d) = Ok (clock + d)
answer_from clock (Refused n) = Err (refusal n 0)
answer_from clock (Short x) = Err (short_refusal (clock + x.after) x.excess)

-- R17, R18: one test: refusal n at the slot found, if one was
abbrev pub unless_found : Option ℕ → ℕ → Result (Unit {0}) Refusal
unless_found None n = Ok tt
unless_found (Some k) n = Err (refusal n k)
