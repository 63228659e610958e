-- The third demand, R73 to R77, is kept.
use Rattle.std.specs.Prelude.{Ok}
use mathlib.Core.Path.{◌≡◌, sym, ap, ◌∙◌}
use mathlib.Core.List.{List}
use Prim.Native.Nat.{ℕ, ◌+◌, ◌-◌, ◌^◌, ◌<◌}
use native.Mathlib.Omega.{arith}
use lib.ListN.{length}
use Rattle.table.specs.declared.Table.{Table}
use Rattle.table.specs.declared.Request.{Request}
use Rattle.table.specs.Words.{empty_table, refusal}
use Rattle.line.specs.Slots.{at}
use Rattle.table.specs.Ask.{ask_of}
use Rattle.table.specs.Admit.{new_line, admit_with}
use Rattle.table.specs.Step.{choose}
use Rattle.table.specs.Runs.{Act, admitting, run}
use Rattle.theory.proofs.Numbers.{split}
use Rattle.theory.proofs.Start.{least_by_last}
use Rattle.theory.proofs.Granted.{says_start, granted}
use Rattle.theory.proofs.Answers.{ask_answers}
use Rattle.theory.proofs.Unique.{answers_unique}
use Rattle.theory.proofs.Step.{sound_faultless}
use Rattle.promises.specs.Demand3.{Unfailing, NeverMissed, Admission, admitted_table, StartsByLastEnd, RunsFromStart, HasAllItsNeed, NoEarlierStart, NoEarlierThanAnswered}
use Rattle.promises.proofs.Good.{Good, good_reached, good_after, slot_empty}
use Rattle.promises.proofs.Kept.{admit_clock, admit_length, admitted_new, says_choice, says_last}
use Rattle.promises.proofs.Gets.{gets_need, at_start}
use Rattle.promises.proofs.Early.{no_earlier}

unfailing : (t : Table) → Good t → Unfailing t
unfailing t g = record {
  sound = g.fine.sound;
  no_fault = sound_faultless t g.fine.sound g.within;
  clock_in = g.clock_in;
  goes_on = λ h. (choose t, says_choice t g h);
  only_fifteen = λ x e.
      split (2 ^ 48) t.clock
      (λ h. let p = says_last t h in let z : x ≡ refusal 15 0 = cc in (z, omega (arith, g.clock_in)))
      (λ h. let p = says_choice t g h in cc);
  at_the_last = λ e. says_last t (omega arith);
}

-- R74: after any run every step goes on, up to the last tick
pub never_missed : NeverMissed
never_missed acts = unfailing (run acts empty_table) (good_reached acts)

-- R75: by the last end
pub starts_by_last_end : StartsByLastEnd
starts_by_last_end acts q r k a =
    let t = run acts empty_table in
    let g = granted t q r (says_start (ask_of t q) r a.granted) in
    (g.least.smooth.from_clock, least_by_last _ t.clock _ q.need q.period r g.cleared.given g.alone g.least)

-- the admitted table, slot k in it, and that it is good
module _ (acts : List Act) (q : Request) (r k : ℕ) (a : Admission acts q r k) where
  abbrev t : Table
  t = run acts empty_table

  good : Good (admitted_table acts q)
  good = good_after (admitting q) t (good_reached acts)

  inside : k < length (admitted_table acts q).slots
  inside = rw (admit_length t q) (slot_empty t q k a.slot).0

  stands : at (admitted_table acts q).slots k ≡ new_line q.need q.period (r - t.clock)
  stands = ap (λ x. at (admit_with t q x).table.slots k) (says_start (ask_of t q) r a.granted) ∙ admitted_new t q r k a.slot

  starts : (admitted_table acts q).clock + (r - t.clock) ≡ r
  starts = omega (arith, admit_clock t q, (starts_by_last_end acts q r k a).0)

-- R75: with all its need and its period before it
pub runs_from_start : RunsFromStart
runs_from_start acts q r k a more v h =
    rw (starts acts q r k a) at
    (at_start more (admitted_table acts q) k q.need q.period (r - (run acts empty_table).clock) (good acts q r k a) (inside acts q r k a) (stands acts q r k a)
    (rw (starts acts q r k a) v) (h ∙ sym (starts acts q r k a)))

-- R76: exactly its need in its first period
pub has_all_its_need : HasAllItsNeed
has_all_its_need acts q r k a more v u h =
    let g = granted (run acts empty_table) q r (says_start (ask_of (run acts empty_table) q) r a.granted) in
    let z : r + q.period ≡ (admitted_table acts q).clock + (r - (run acts empty_table).clock) + q.period = omega (arith, starts acts q r k a) in
    gets_need more (admitted_table acts q) k q.need q.period (r - (run acts empty_table).clock) (good acts q r k a) (inside acts q r k a)
    (omega (arith, g.cleared.given.new_some, g.cleared.given.new_fits)) (stands acts q r k a) (rw (starts acts q r k a) v) (rw z at u) (rw z at h)

-- R77: at any earlier start some period ends short before the last end
pub no_earlier_start : NoEarlierStart
no_earlier_start t q r r' six e late less = no_earlier t q r r' six e late less

-- R77, R41: in the words of ask's contract
pub no_earlier_than_answered : NoEarlierThanAnswered
no_earlier_than_answered t q r r' six right late less =
    no_earlier_start t q r r' six (answers_unique t q ((ask_of t q)) (Ok r) (ask_answers t q) right) late less
