-- What an act leaves of one slot: an admission leaves a line that it does not stretch, a step serves it or lets it wait, a leave keeps its numbers.
use Rattle.std.specs.Prelude.{Ok, Err, Option, None, Some}
use Rattle.table.specs.Words.{Said}
use mathlib.Core.Path.{◌≡◌, refl, sym, ap, ◌∙◌, subst}
use mathlib.Core.Bool.{Bool, true, false}
use mathlib.Core.List.{List}
use Prim.Native.Nat.{ℕ, suc, ◌+◌, ◌-◌, ◌^◌, ◌≤◌, ◌<◌}
use native.Mathlib.Decide.{ℕ_discrete}
use native.Mathlib.Omega.{arith}
use borrow.Author.Tests.{lt-ltb}
use lib.ListN.{length, set, length-set}
use lib.Seq.{get_or-set_same, get_or-set_other}
use Rattle.line.specs.declared.Follows.TheVariants.{Leaves}
use Rattle.line.specs.declared.Held.{Held}
use Rattle.line.specs.declared.Held.TheVariants.{Nothing, Running}
use Rattle.line.specs.declared.Slot.{Slot}
use Rattle.table.specs.declared.Table.{Table}
use Rattle.table.specs.declared.Request.{Request}
use Rattle.table.specs.declared.Acted.{Acted}
use Rattle.line.specs.Slots.{pick, with_follows, holding, empty, RunsAs, slot_at, at, is_nothing, lowest_of}
use Rattle.table.specs.Grounds.{entry, asked}
use Rattle.line.specs.Stretch.{stretch}
use Rattle.line.specs.Leave.{let_go, let_go_slot}
use Rattle.line.proofs.Sound.{not_barred}
use Rattle.table.specs.Counts.{settle}
use Rattle.table.proofs.LettingGo.{may_inside, left_is}
use Rattle.table.specs.Ask.{ask_of}
use Rattle.table.specs.Admit.{new_line, put_at, admitted_at, admit_with}
use Rattle.line.specs.Tick.{served}
use Rattle.table.specs.Words.{refusal}
use Rattle.table.specs.Step.{choose, serve, ticked, step_of}
use Rattle.table.specs.Runs.{Act, asking, admitting, stepping, leaving, after}
use Rattle.theory.specs.Fine.{May}
use Rattle.theory.specs.Given.{Granted}
use Rattle.theory.proofs.Numbers.{split}
use Rattle.theory.proofs.Granted.{granted}
use Rattle.line.proofs.Stretched.{length_stretched, at_stretched}
use Rattle.theory.proofs.Pump.{earliest_may}
use Rattle.theory.proofs.Step.{fine_step, choose_earliest}
use Rattle.theory.proofs.Trace.{at_served, at_others, is_stretched}
use Rattle.promises.specs.Demand3.{Stretches, Removes}
use Rattle.promises.proofs.Good.{Good, at_last, slot_empty, admitted_slots}

-- ---- an admission

-- the clock and the number of slots stay
pub admit_clock : (t : Table) (q : Request) → (after (admitting q) t).clock ≡ t.clock
admit_clock t q = go (ask_of t q)
  where
    go : (a : Said ℕ) → (admit_with t q a).table.clock ≡ t.clock
    go (Ok r) = refl
    go (Err x) = refl

length_put : {A : Type 0} (o : Option ℕ) (x : A) (l : List A) → length (put_at o x l) ≡ length l
length_put None x l = refl
length_put (Some k) x l = length-set l k x

-- an admission at any start leaves the number of slots as it was
pub length_admitted : (t : Table) (q : Request) (r : ℕ) → length (admitted_at t q r).slots ≡ length t.slots
length_admitted t q r = length_put (lowest_of is_nothing t.slots) (holding (new_line q.need q.period (r - t.clock))) (asked t q) ∙ length_stretched t.slots (entry q)

-- and so does a refused one
pub admit_length : (t : Table) (q : Request) → length (after (admitting q) t).slots ≡ length t.slots
admit_length t q = go (ask_of t q)
  where
    go : (a : Said ℕ) → length (admit_with t q a).table.slots ≡ length t.slots
    go (Ok r) = length_admitted t q r
    go (Err x) = refl

-- an admission leaves as many counts
pub admit_counts : (t : Table) (q : Request) → length (after (admitting q) t).had ≡ length t.had
admit_counts t q = go (ask_of t q)
  where
    go : (a : Said ℕ) → length (admit_with t q a).table.had ≡ length t.had
    go (Ok r) = length_put (lowest_of is_nothing t.slots) 0 t.had
    go (Err x) = refl

-- R105: who ran last still did
pub admit_last : (t : Table) (q : Request) → (after (admitting q) t).last ≡ t.last
admit_last t q = go (ask_of t q)
  where
    go : (a : Said ℕ) → (admit_with t q a).table.last ≡ t.last
    go (Ok r) = refl
    go (Err x) = refl

-- the new line stands in the slot it was given
pub admitted_new : (t : Table) (q : Request) (r k : ℕ) → lowest_of is_nothing t.slots ≡ Some k
    → at (admitted_at t q r).slots k ≡ new_line q.need q.period (r - t.clock)
admitted_new t q r k e =
    ap (λ (l : List Slot). at l k) (admitted_slots t q r k e)
    ∙ ap (λ (s : Slot). s.held) (get_or-set_same (asked t q) k (holding (new_line q.need q.period (r - t.clock))) empty (slot_empty t q k e).2)

-- a running line keeps its place, at its T'
pub admitted_stands : (t : Table) (q : Request) (r j C P a x : ℕ) → Granted t q r → RunsAs C P a x (at t.slots j)
    → at (admitted_at t q r).slots j ≡ stretch (entry q j) (at t.slots j)
admitted_stands t q r j C P a x g e =
    let k = g.cleared.slot in
    ap (λ (l : List Slot). at l j) (admitted_slots t q r k g.cleared.lowest_empty)
    ∙ ap (λ (s : Slot). s.held) (get_or-set_other (asked t q) k j (holding (new_line q.need q.period (r - t.clock))) empty (other k (slot_empty t q k g.cleared.lowest_empty).1))
    ∙ at_stretched t.slots (entry q) j
  where
    other : (k : ℕ) → at t.slots k ≡ Nothing → j ≡ k → ⊥
    other k n z =
        let m : Running e.0 ≡ Nothing = sym e.1 ∙ ap (at t.slots) z ∙ n in
        let y : ◌≡◌ {A = ℕ} 0 1 = cc in omega arith

admitted_old : (t : Table) (q : Request) (r j C P a x : ℕ) → Granted t q r → RunsAs C P a x (at t.slots j)
    → RunsAs C (entry q j) a x (at (admitted_at t q r).slots j)
admitted_old t q r j C P a x g e = rw (admitted_stands t q r j C P a x g e) (is_stretched (entry q j) (at t.slots j) e)

-- whatever the answer, it runs with a period that is not shorter, and where it was not stretched with its own
pub admit_running : (t : Table) (q : Request) (j C P a x : ℕ) → RunsAs C P a x (at t.slots j) → j < length t.slots
    → (T : ℕ) × RunsAs C T a x (at (after (admitting q) t).slots j) × (P ≤ T) × ((Stretches j (admitting q) t → ⊥) → T ≡ P)
admit_running t q j C P a x e b = go (ask_of t q) refl
  where
    go : (d : Said ℕ) → ask_of t q ≡ d
        → (T : ℕ) × RunsAs C T a x (at (admit_with t q d).table.slots j) × (P ≤ T) × ((Stretches j (admitting q) t → ⊥) → T ≡ P)
    go (Ok r) h =
        let g = granted t q r h in
        let up : P ≤ entry q j = omega (arith, not_barred (entry q j) e.0 (λ v. g.cleared.unbarred j b (rw e.1 v)), e.3) in (
          entry q j,
          admitted_old t q r j C P a x g e,
          up,
          λ n. split (entry q j) P (λ y. omega arith) (λ y. absurd (n ((r, h), rw e.1 (omega (arith, y, e.3))))),
        )
    go (Err y) h = (P, e, omega arith, λ n. refl)

-- not stretched: as it was
pub admit_kept : (t : Table) (q : Request) (j C P a x : ℕ) → RunsAs C P a x (at t.slots j) → j < length t.slots
    → (Stretches j (admitting q) t → ⊥) → RunsAs C P a x (at (after (admitting q) t).slots j)
admit_kept t q j C P a x e b n = let w = admit_running t q j C P a x e b in subst (λ (T : ℕ). RunsAs C T a x (at (after (admitting q) t).slots j)) (w.3 n) w.1

-- while a line waits no admission is granted, and nothing changes
pub admit_waiting : (t : Table) (q : Request) (j C P w : ℕ) → at t.slots j ≡ new_line C P (suc w) → j < length t.slots → after (admitting q) t ≡ t
admit_waiting t q j C P w e b = go (ask_of t q) refl
  where
    go : (b : Said ℕ) → ask_of t q ≡ b → (admit_with t q b).table ≡ t
    go (Ok r) h = absurd ((granted t q r h).cleared.none_waits j b (rw (e, lt-ltb 0 (suc w) (omega arith)) refl))
    go (Err y) h = refl

-- ---- a leave

-- the clock stays
pub leave_clock : (t : Table) (n : ℕ) → (after (leaving n) t).clock ≡ t.clock
leave_clock t n = left_is (λ u. u.clock ≡ t.clock) t n refl (λ f m. refl)

-- and the number of slots
pub leave_length : (t : Table) (n : ℕ) → length (after (leaving n) t).slots ≡ length t.slots
leave_length t n = left_is (λ u. length u.slots ≡ length t.slots) t n refl (λ f m. length-set t.slots n (let_go_slot (slot_at t.slots n)))

-- and that of the counts
pub leave_counts : (t : Table) (n : ℕ) → length (after (leaving n) t).had ≡ length t.had
leave_counts t n = left_is (λ u. length u.had ≡ length t.had) t n refl (λ f m. go (is_nothing (let_go (at t.slots n))))
  where
    go : (b : Bool) → length (pick b (settle n t) t).had ≡ length t.had
    go true = length-set t.had n 0
    go false = refl

-- another slot is as it was, and the one named is let go
pub let_go_at_lem : (Q : Held → Type 0) (l : List Slot) (n j : ℕ) → n < length l → Q (at l j) → (j ≡ n → Q (let_go (at l j))) → Q (at (set l n (let_go_slot (slot_at l n))) j)
let_go_at_lem Q l n j b q f =
    elim (ℕ_discrete j n) [
      | yes z ↦ subst Q (ap let_go (ap (at l) z) ∙ sym (ap (λ (s : Slot). s.held) (get_or-set_same l n (let_go_slot (slot_at l n)) empty b)) ∙ ap (at (set l n (let_go_slot (slot_at l n)))) (sym z)) (f z)
      | no z ↦ subst Q (sym (ap (λ (s : Slot). s.held) (get_or-set_other l n j (let_go_slot (slot_at l n)) empty z))) q
    ]

-- what holds of slot j, and of it let go where it is the one named, holds after the leave
pub leave_at_lem : (Q : Held → Type 0) (t : Table) (n j : ℕ) → Q (at t.slots j) → (j ≡ n → Q (let_go (at t.slots j))) → Q (at (after (leaving n) t).slots j)
leave_at_lem Q t n j q f = left_is (λ u. Q (at u.slots j)) t n q (λ g m. let_go_at_lem Q t.slots n j (may_inside t.slots n m) q f)

-- R100: a running line let go has the same numbers
pub is_let_go : {C P a x : ℕ} (h : Held) → RunsAs C P a x h → RunsAs C P a x (let_go h)
is_let_go h v = (with_follows v.0 Leaves, ap let_go v.1, v.2, v.3, v.4, v.5)

-- R100: and so has any running line after a leave
pub leave_running : (t : Table) (n j C P a x : ℕ) → RunsAs C P a x (at t.slots j) → RunsAs C P a x (at (after (leaving n) t).slots j)
leave_running t n j C P a x e = leave_at_lem (RunsAs C P a x) t n j e (λ z. is_let_go (at t.slots j) e)

-- R100: a waiting line that is not removed waits on
pub leave_waiting : (t : Table) (n j C P w : ℕ) → at t.slots j ≡ new_line C P (suc w) → (Removes j (leaving n) t → ⊥) → at (after (leaving n) t).slots j ≡ new_line C P (suc w)
leave_waiting t n j C P w e r =
    leave_at_lem (λ h. h ≡ new_line C P (suc w)) t n j e (λ z. absurd (r (sym z, rw (e, lt-ltb 0 (suc w) (omega arith)) refl)))

-- ---- a step

-- before the last tick it is the tick of the step's own choice
pub step_table : (t : Table) → Good t → t.clock < 2 ^ 48 → step_of t ≡ ticked (choose t) t
step_table t g h = fine_step t g.fine g.within h

-- and says whom it chose
pub says_choice : (t : Table) → Good t → t.clock < 2 ^ 48 → (step_of t).answer ≡ Ok (choose t)
says_choice t g h = ap (λ (s : Acted (Option ℕ)). s.answer) (step_table t g h)

-- at the last tick it says 15
pub says_last : (t : Table) → 2 ^ 48 ≤ t.clock → (step_of t).answer ≡ Err (refusal 15 0)
says_last t h = ap (λ (s : Acted (Option ℕ)). s.answer) (at_last t h)

-- the choice serves nobody who is not owed
pub choice_may : (t : Table) → May (choose t) t.slots
choice_may t = earliest_may (choose t) t.slots (choose_earliest t)

-- what serving does not change of a line stays in every slot
pub serve_keeps : {A : Type 0} (f : Held → A) → ((h : Held) → f (served h) ≡ f h) → (o : Option ℕ) (l : List Slot) (k : ℕ) → May o l → f (at (serve o l) k) ≡ f (at l k)
serve_keeps f e None l k m = refl
serve_keeps f e (Some j) l k m =
    elim (ℕ_discrete j k) [
      | yes z ↦ rw (← z) (ap f (at_served l j m.0) ∙ e (at l j))
      | no n ↦ ap f (at_others l j k n)
    ]

-- an act never sets the clock back
pub clock_after : (a : Act) (t : Table) → Good t → t.clock ≤ (after a t).clock
clock_after (asking q) t g = omega arith
clock_after (admitting q) t g = omega (arith, admit_clock t q)
clock_after stepping t g =
    split (2 ^ 48) t.clock
    (λ h. let e : (step_of t).table.clock ≡ t.clock = ap (λ (s : Acted (Option ℕ)). s.table.clock) (at_last t h) in omega arith)
    (λ h. let e : (step_of t).table.clock ≡ t.clock + 1 = ap (λ (s : Acted (Option ℕ)). s.table.clock) (step_table t g h) in omega arith)
clock_after (leaving n) t g = omega (arith, leave_clock t n)
