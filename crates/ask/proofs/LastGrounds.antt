-- What is decided of the lines gathered is the answer past the first five grounds.
use Rattle.std.specs.Prelude.{Result, Ok, Err, Option, None, Some}
use Rattle.table.specs.Words.{Said}
use Prim.Native.Nat.{ℕ, suc, ◌+◌, ◌-◌, ◌*◌, ◌/◌, ◌≤◌, ◌<◌}
use mathlib.Core.Path.{◌≡◌, refl, ap, sym, ◌∙◌}
use mathlib.Core.Bool.{Bool, true, false, not}
use mathlib.Core.List.{List, [], ◌∷◌, map}
use native.Mathlib.Omega.{arith}
use lib.Dec.{ltb, leb}
use lib.ListN.{length, take, length-map}
use borrow.Author.Tests.{ltb-false}
use Rattle.periods.specs.Multiples.{All}
use Rattle.periods.proofs.Lists.{all_appended}
use Rattle.line.specs.declared.Held.{Held}
use Rattle.line.specs.declared.Held.TheVariants.{Nothing, Running, Waiting}
use Rattle.line.specs.declared.Slot.{Slot}
use Rattle.line.specs.declared.Stream.{Stream}
use Rattle.line.specs.Slots.{pick, both, at, total, map_at}
use Rattle.line.specs.Streams.{stream, by_stream}
use Rattle.line.specs.Demand.{ticks_short}
use Rattle.line.specs.Shares.{frame, share, claim, full}
use Rattle.line.specs.Ends.{greatest, soonest_of, start, excess_at, first_short}
use Rattle.line.specs.Stretch.{stretch, stretched}
use Rattle.line.proofs.Search.{true_false}
use Rattle.line.proofs.After.{by_follows_lem}
use Rattle.line.proofs.Sound.{sound_says, barred_not, not_barred}
use Rattle.table.specs.declared.Table.{Table}
use Rattle.table.specs.declared.Request.{Request}
use Rattle.table.specs.Words.{short_refusal}
use Rattle.table.specs.Grounds.{entry, asked}
use Rattle.table.specs.Ask.{refused_if, refused_short, ask_in}
use Rattle.sums.specs.Lines.{longest, Fit}
use Rattle.sums.specs.Weighed.{fitting, weighed_fit, weighed}
use Rattle.sums.proofs.Along.{along_length}
use Rattle.sums.proofs.Weighing.{says_fitting, fitting_says, none_weighs}
use Rattle.pass.specs.declared.NoPass.{NoPass}
use Rattle.pass.specs.Pass.{demand_of, last_by, ends_by, short_by, bound_by, pass_by, pass_over, pass_in, pass_of}
use Rattle.pass.proofs.Passing.{pass_fit}
use Rattle.decide.specs.Lines.{Line, by_period, by_gap, gathered_at, line_of, lines_in}
use Rattle.decide.specs.Decided.{Decision, Start, Refused, Short, refused_by, decided_by, decided, decided_in, Near}
use Rattle.decide.proofs.Matching.{frame_lines, share_lines, claim_lines, full_lines, short_lines, over_lines, start_lines}
use Rattle.ask.specs.declared.gather.Gathered.{Gathered}
use Rattle.ask.specs.Asked.{Within}
use Rattle.ask.specs.Gathered.{gathered_lines, Room, Gathers, Allowed, AllAllowed, past_five, answer_from}
use Rattle.ask.proofs.Packing.{fronts_decided}

-- ---- each line is fit

-- by its period and by its gap
abbrev Fits : Line → Type 0
Fits x = Fit (by_period x) × Fit (by_gap x)

slot_fits : (p : ℕ) (h : Held) → Allowed p h → p ≤ 65535 → All Fits (by_stream [] (λ x. line_of x ∷ []) (stretch p h))
slot_fits p Nothing a w = tt
slot_fits p (Running r) a w =
    let v = sound_says (Running r) a.1 in
    let k = not_barred p r (λ b. barred_not p (Running r) b a.2) in
    let f : (g : ℕ) → p ≤ g → g ≤ longest → Fit (stream (p - r.age) r.remaining r.need g) = λ g b c.
    record { some = omega (arith, v, k); ends = omega arith; less = omega (arith, v, k); rest = v.2; wide = c } in
    let own = f p (omega arith) (omega arith) in
    ((own, by_follows_lem (λ (g : ℕ). Fit (stream (p - r.age) r.remaining r.need g)) p longest r.follows own (f longest (omega arith) (omega arith))), tt)
slot_fits p (Waiting x) a w = absurd (true_false refl a.0)

asked_fits : (l : List Slot) (p : ℕ → ℕ) → ((i : ℕ) → i < length l → Allowed (p i) (at l i)) → ((i : ℕ) → p i ≤ 65535) → All Fits (lines_in (stretched l p))
unfolding map_at lines_in
asked_fits [] p f w = tt
asked_fits (s ∷ l) p f w =
    all_appended Fits (by_stream [] (λ x. line_of x ∷ []) (stretch (p 0) s.held)) (lines_in (stretched l (λ k. p (suc k))))
    (slot_fits (p 0) s.held (f 0 (omega arith)) (w 0))
    (asked_fits l (λ k. p (suc k)) (λ i h. f (suc i) (omega arith)) (λ i. w (suc i)))

fit_by : (l : List Line) → All Fits l → All Fit (map by_period l) × All Fit (map by_gap l)
fit_by [] a = (tt, tt)
fit_by (x ∷ l) a = let r = fit_by l a.1 in ((a.0.0, r.0), (a.0.1, r.1))

-- ---- the ladder

-- the refusal with the number of the first ground, or what comes after
ladder : (a b c d : Bool) (rest : Said ℕ)
    → refused_if a 6 (refused_if b 7 (refused_if c 8 (refused_if d 9 rest)))
    ≡ refused_if (ltb 0 (pick a 6 (pick b 7 (pick c 8 (pick d 9 0))))) (pick a 6 (pick b 7 (pick c 8 (pick d 9 0)))) rest
ladder true b c d rest = refl
ladder false true c d rest = refl
ladder false false true d rest = refl
ladder false false false true rest = refl
ladder false false false false rest = refl

answer_refused : (clock : ℕ) (b : Bool) (n : ℕ) (d : Decision) → answer_from clock (refused_by b n d) ≡ refused_if b n (answer_from clock d)
answer_refused clock true n d = refl
answer_refused clock false n d = refl

answer_within : (clock : ℕ) (d : Decision) → Near d → Within clock (answer_from clock d)
answer_within clock (Start r) h = (omega arith, omega arith)
answer_within clock (Refused n) h = tt
answer_within clock (Short x) h = tt

-- what is decided of the slices of the arrays, as an answer: it is what is decided of the lines gathered, and as near
pub fronts_answer : (g : Gathered) (clock Cn Tn : ℕ) {d : Decision} {r : Said ℕ} → Room g
    → (d ≡ decided_in (take g.count g.end) (take g.count g.remaining) (take g.count g.need) (take g.count g.period) (take g.count g.gap) Cn Tn) × Near d
    → r ≡ answer_from clock d → (r ≡ answer_from clock (decided (gathered_lines g) Cn Tn)) × Within clock r
fronts_answer g clock Cn Tn {d} room e a = (a ∙ ap (answer_from clock) (e.0 ∙ fronts_decided g room Cn Tn), rw a (answer_within clock d e.1))

module _ (t : Table) (q : Request) (fp : fitting (map by_period (lines_in (asked t q))) ≡ true) (fg : fitting (map by_gap (lines_in (asked t q))) ≡ true) where
  abbrev l : List Slot
  l = asked t q

  abbrev F : ℕ
  F = frame l q.period

  abbrev misfit : Bool
  misfit = not (both (leb 1 q.need) (leb q.need q.period))

  abbrev over : Bool
  over = ltb F (total (share F) l + q.need * (F / q.period))

  abbrev behind : Bool
  behind = ltb (total (full F) l) (total (claim F) l)

  abbrev rest : Said ℕ
  rest = refused_short (first_short t.clock l) (λ d. ticks_short (excess_at t.clock l d)) (Ok (start t.clock l q.need q.period))

  -- what the sums say, and what the pass says
  abbrev first : ℕ
  first = weighed (map by_period (lines_in l)) q.need q.period

  abbrev pass : Result ℕ NoPass
  pass = pass_of (map by_gap (lines_in l)) q.need q.period

  first_is : first ≡ pick misfit 6 (pick (ltb 1000000 F) 7 (pick over 8 (pick behind 9 0)))
  unfolding weighed weighed_fit
  first_is = rw (fp, frame_lines l q.period, share_lines l F, claim_lines l F, full_lines l F)

  -- the first of the grounds 6 to 9 is the one that the sums find
  past_is : past_five t q ≡ refused_if (ltb 0 first) first rest
  unfolding past_five ask_in
  past_is = rw first_is (ladder misfit (ltb 1000000 F) over behind rest)

  -- past the sums the pass over the ends decides
  module _ (h : first ≤ 0) where
    need_some : 1 ≤ q.need
    need_some = (none_weighs (map by_period (lines_in l)) q.need q.period (omega arith)).0

    pass_is : pass ≡ pass_in (map by_gap (lines_in l)) q.need q.period
    pass_is = pass_fit (map by_gap (lines_in l)) q.need q.period fg need_some

    rest_is : answer_from t.clock (decided_by pass) ≡ rest
    unfolding pass_over
    rest_is = rw pass_is (go (soonest_of (short_by (demand_of spaced)) ends) refl)
      where
        spaced : List Stream
        spaced = map by_gap (lines_in l)

        ends : List ℕ
        ends = ends_by (last_by spaced) spaced

        bounds : ℕ → ℕ
        bounds = bound_by q.need q.period (last_by spaced) (demand_of spaced)

        go : (o : Option ℕ) → soonest_of (short_by (demand_of spaced)) ends ≡ o → answer_from t.clock (decided_by (pass_by (demand_of spaced) o (greatest bounds 0 ends))) ≡ rest
        go None e = rw (short_lines l (fitting_says _ fg) t.clock, e) (ap Ok (start_lines l (fitting_says _ fg) t.clock q.need q.period need_some))
        go (Some d) e =
            rw (short_lines l (fitting_says _ fg) t.clock, e)
            (ap (λ x. Err (short_refusal (t.clock + d) (ticks_short x))) (sym (over_lines l (fitting_says _ fg) t.clock d e)))

  lines_decide : answer_from t.clock (decided (lines_in l) q.need q.period) ≡ past_five t q
  unfolding decided
  lines_decide = answer_refused t.clock (ltb 0 first) first (decided_by pass) ∙ go (ltb 0 first) refl ∙ sym past_is
    where
      go : (b : Bool) → ltb 0 first ≡ b → refused_if (ltb 0 first) first (answer_from t.clock (decided_by pass)) ≡ refused_if (ltb 0 first) first rest
      go true e = rw e
      go false e = rw e (rest_is (ltb-false 0 first e))

-- R26 to R30, R14: what is decided of the lines gathered is the answer past the first five grounds
pub gathered_decide : (t : Table) (q : Request) (g : Gathered) {r : Said ℕ} → Gathers t q g → AllAllowed t q → r ≡ answer_from t.clock (decided (gathered_lines g) q.need q.period) → r ≡ past_five t q
gathered_decide t q g v a e =
    let l = lines_in (asked t q) in
    let f = fit_by l (asked_fits t.slots (entry q) a v.wide) in
    let n : length l ≤ 16 = rw (sym v.same, along_length (gathered_at g.end g.remaining g.need g.period g.gap) 0 g.count) v.few in
    let fits : (by : Line → Stream) → All Fit (map by l) → fitting (map by l) ≡ true = λ by k. says_fitting (map by l) (rw (length-map l by) n) k in
    e ∙ ap (λ (x : List Line). answer_from t.clock (decided x q.need q.period)) v.same ∙ lines_decide t q (fits by_period f.0) (fits by_gap f.1)
