-- What every act keeps: the table is fine for some common multiple, accounts for no more than its clock, and the clock is within its limit.
use Rattle.std.specs.Prelude.{Ok, Err, Option, Some}
use Rattle.table.specs.Words.{refused_act, Said}
use mathlib.Core.Path.{◌≡◌, refl, sym, ap, ◌∙◌, subst}
use mathlib.Core.List.{List, [], ◌∷◌}
use Prim.Native.Nat.{ℕ, ◌+◌, ◌-◌, ◌^◌, ◌≤◌, ◌<◌}
use native.Mathlib.Omega.{arith}
use borrow.Author.Tests.{le-leb}
use lib.ListN.{length}
use Rattle.line.specs.declared.Held.TheVariants.{Nothing}
use Rattle.table.specs.declared.Table.{Table}
use Rattle.table.specs.declared.Request.{Request}
use Rattle.table.specs.declared.Acted.{Acted}
use Rattle.table.specs.Words.{empty_table}
use Rattle.line.specs.Slots.{holding, at, is_nothing, lowest_of}
use Rattle.table.specs.Grounds.{entry, asked}
use Rattle.line.specs.Stretch.{stretch}
use Rattle.line.specs.Shares.{frame}
use Rattle.table.specs.Ask.{ask_of}
use Rattle.table.specs.Admit.{new_line, put_at, admitted_at, admit_with}
use Rattle.table.specs.Counts.{accounted}
use Rattle.table.specs.Step.{choose, step_of}
use Rattle.table.specs.Runs.{Act, asking, admitting, stepping, leaving, after, run}
use Rattle.line.proofs.Search.{lowest_is}
use Rattle.table.proofs.Counts.{booked_within, put_within}
use Rattle.table.proofs.LettingGo.{let_go_accounted, may_inside, left_is}
use Rattle.theory.specs.Fine.{Fine}
use Rattle.theory.specs.Given.{Granted}
use Rattle.theory.proofs.Numbers.{split}
use Rattle.theory.proofs.Tests.{nothing_says}
use Rattle.theory.proofs.Granted.{granted}
use Rattle.line.proofs.Stretched.{length_stretched, at_stretched}
use Rattle.theory.proofs.Admitted.{admitted_fine, empty_fine}
use Rattle.theory.proofs.Leave.{fine_let_go}
use Rattle.theory.proofs.Step.{fine_step, fine_stepped}

-- R73: what every table that a run reaches has: it is fine for some common multiple, accounts for no more than its clock, and this is no later than the last tick
pub record Good (t : Table) : Type 0 where
  pub multiple : ℕ
  pub fine : Fine multiple t.clock t.slots
  pub within : accounted t ≤ t.clock
  pub clock_in : t.clock ≤ 2 ^ 48

-- R4: the empty table is good
pub good_empty : Good empty_table
good_empty = record { multiple = 1; fine = empty_fine 0 16; within = omega arith; clock_in = omega arith }

-- ---- an admission

-- the slot that the new line gets is empty, also among the stretched lines
pub slot_empty : (t : Table) (q : Request) (k : ℕ) → lowest_of is_nothing t.slots ≡ Some k
    → (k < length t.slots) × (at t.slots k ≡ Nothing) × (k < length (asked t q)) × (at (asked t q) k ≡ Nothing)
slot_empty t q k e =
    let w = lowest_is (λ i. is_nothing (at t.slots i)) (length t.slots) e in
    let n = nothing_says (at t.slots k) w.here in
    (w.inside, n, rw (length_stretched t.slots (entry q)) w.inside, at_stretched t.slots (entry q) k ∙ ap (stretch (entry q k)) n)

-- R43: with an empty slot at k the new line stands there, beside the lines at their T'
pub admitted_slots : (t : Table) (q : Request) (r k : ℕ) → lowest_of is_nothing t.slots ≡ Some k
    → (admitted_at t q r).slots ≡ put_at (Some k) (holding (new_line q.need q.period (r - t.clock))) (asked t q)
admitted_slots t q r k e = ap (λ (o : Option ℕ). put_at o (holding (new_line q.need q.period (r - t.clock))) (asked t q)) e

-- R42: a granted request makes a good table
pub good_admitted : (t : Table) (q : Request) (r : ℕ) → Granted t q r → Good (admitted_at t q r)
good_admitted t q r g =
    let e = slot_empty t q g.cleared.slot g.cleared.lowest_empty in
    let d = g.cleared.given in
    record {
      multiple = frame (asked t q) q.period;
      fine = subst (Fine (frame (asked t q) q.period) t.clock) (sym (admitted_slots t q r g.cleared.slot g.cleared.lowest_empty))
          (admitted_fine (frame (asked t q) q.period) t.clock (asked t q) g.cleared.slot q.need q.period r d.sound
          d.some_frame d.divides d.new_divides d.eight d.new_some d.new_fits
          e.2 e.3 g.least.smooth);
      within = omega (arith, g.cleared.within, put_within (lowest_of is_nothing t.slots) t.had);
      clock_in = omega (arith, g.cleared.early);
    }

-- ---- each act

-- at the last tick a step is refused with 15
pub at_last : (t : Table) → 2 ^ 48 ≤ t.clock → step_of t ≡ refused_act t 15 0
unfolding step_of
at_last t h = rw (le-leb (2 ^ 48) t.clock h)

-- R73: every act keeps a table good
pub good_after : (a : Act) (t : Table) → Good t → Good (after a t)
good_after (asking q) t g = g
good_after (admitting q) t g = go (ask_of t q) refl
  where
    go : (a : Said ℕ) → ask_of t q ≡ a → Good (admit_with t q a).table
    go (Ok r) e = good_admitted t q r (granted t q r e)
    go (Err x) e = g
good_after stepping t g =
    split (2 ^ 48) t.clock (λ h. subst Good (sym (ap (λ (s : Acted (Option ℕ)). s.table) (at_last t h))) g)
    (λ h. let e = fine_step t g.fine g.within h in
    let c : (step_of t).table.clock ≡ t.clock + 1 = ap (λ (s : Acted (Option ℕ)). s.table.clock) e in
    let w : accounted (step_of t).table ≤ (step_of t).table.clock =
    subst (λ (s : Acted (Option ℕ)). accounted s.table ≤ s.table.clock) (sym e) (omega (arith, g.within, booked_within (choose t) t)) in
    record { multiple = g.multiple; fine = fine_stepped t g.fine g.within h; within = w; clock_in = omega arith })
good_after (leaving n) t g =
    left_is Good t n g
    (λ f m. record {
      multiple = g.multiple;
      fine = fine_let_go n (may_inside t.slots n m) g.fine;
      within = omega (arith, let_go_accounted n t, g.within);
      clock_in = g.clock_in;
    })

-- R73: and so does every run
pub good_run : (acts : List Act) (t : Table) → Good t → Good (run acts t)
good_run [] t g = g
good_run (a ∷ rest) t g = good_run rest (after a t) (good_after a t g)

-- R73: so every table that a run reaches from the empty one is good
pub good_reached : (acts : List Act) → Good (run acts empty_table)
good_reached acts = good_run acts empty_table good_empty
