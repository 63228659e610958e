-- What a line that leaves gets, R80: it stays up to its end, has what was left of its need by then, and is gone with that tick.
use Rattle.std.specs.Prelude.{Option}
use Rattle.std.specs.Prelude.{Ok, Err}
use Rattle.table.specs.Words.{Said}
use mathlib.Core.Path.{◌≡◌, refl, sym, ap, ◌∙◌, subst}
use mathlib.Core.Bool.{true}
use mathlib.Core.List.{List, [], ◌∷◌}
use Prim.Native.Nat.{ℕ, ◌+◌, ◌-◌, ◌^◌, ◌≤◌, ◌<◌}
use native.Mathlib.Omega.{arith}
use borrow.Author.Tests.{lt-ltb, le-ltb}
use lib.ListN.{length}
use lib.Seq.{get_or-set_same}
use Rattle.line.specs.declared.Follows.{Follows}
use Rattle.line.specs.declared.Follows.TheVariants.{Renews, Leaves}
use Rattle.line.specs.declared.Held.{Held}
use Rattle.line.specs.declared.Held.TheVariants.{Nothing, Running, Waiting}
use Rattle.line.specs.declared.Slot.{Slot}
use Rattle.line.specs.Slots.{by_follows, is_leaving, with_age, following, empty, RunsAs, slot_at, at, Waits}
use Rattle.line.specs.Sound.{Sound}
use Rattle.line.specs.Stretch.{stretch, Barred}
use Rattle.line.specs.Tick.{served, passed}
use Rattle.line.specs.Leave.{is_parting, let_go, let_go_slot, ticks_left}
use Rattle.line.proofs.Search.{true_false}
use Rattle.table.specs.declared.Table.{Table}
use Rattle.table.specs.declared.Request.{Request}
use Rattle.table.specs.declared.Acted.{Acted}
use Rattle.table.specs.Words.{empty_table}
use Rattle.table.specs.Grounds.{entry}
use Rattle.table.specs.Ask.{ask_of}
use Rattle.table.specs.Admit.{admit_with}
use Rattle.table.specs.Step.{choose, serve, step_of}
use Rattle.table.specs.Leave.{let_go_at}
use Rattle.table.specs.Runs.{Act, asking, admitting, stepping, leaving, after, run}
use Rattle.table.proofs.LettingGo.{may_inside, left_granted}
use Rattle.theory.proofs.Numbers.{split}
use Rattle.theory.proofs.Granted.{says_start, granted}
use Rattle.theory.proofs.Trace.{at_pass, length_tick, owed_or_got}
use Rattle.promises.specs.Demand3.{Lengthened, Stretches, Unstretched, Parts, LeavesAtItsEnd, LeavesAtOnce}
use Rattle.promises.proofs.Good.{Good, at_last, good_after, good_run, good_reached}
use Rattle.promises.proofs.Kept.{admit_clock, admit_length, admitted_stands, admit_kept, leave_clock, leave_length, leave_at_lem, is_let_go, step_table, choice_may, serve_keeps, clock_after}
use Rattle.promises.proofs.Gets.{clock_run, next, good_next, one_tick, gets_rest}

-- ---- one line

-- a line of these numbers that leaves, whatever is left of its need
abbrev Parting : (C P a : ℕ) → Held → Type 0
Parting C P a h = (x : ℕ) × RunsAs C P a x h × (is_parting h ≡ true)

leaves_then : {G : Type 0} (f : Follows) → is_leaving f ≡ true → (f ≡ Leaves → G) → G
leaves_then Renews e g = absurd (true_false e refl)
leaves_then Leaves e g = g refl

parting_served : (h : Held) → is_parting (served h) ≡ is_parting h
parting_served Nothing = refl
parting_served (Running r) = refl
parting_served (Waiting w) = refl

parting_stretched : (p : ℕ) (h : Held) → is_parting (stretch p h) ≡ is_parting h
parting_stretched p Nothing = refl
parting_stretched p (Running r) = refl
parting_stretched p (Waiting w) = refl

-- R100: being asked again changes nothing of it
parting_let_go : {C P a : ℕ} (h : Held) → Parting C P a h → Parting C P a (let_go h)
parting_let_go h v = (v.0, is_let_go h v.1, rw v.1.1)

-- R45: a tick older it leaves still
parting_passed : {C P a x : ℕ} (h : Held) → RunsAs C P a x h → a + 1 < P → is_parting (passed h) ≡ is_parting h
parting_passed h v b =
    let r = v.0 in
    let e : passed (Running r) ≡ Running (with_age r (r.age + 1)) = rw (lt-ltb (r.age + 1) r.period (omega (arith, v.3, v.4))) in
    rw v.1 (ap is_parting e)

-- R46, R99: with the tick that ends its period it is gone
parting_gone : {C P a : ℕ} (h : Held) → Parting C P a h → P ≤ a + 1 → passed h ≡ Nothing
parting_gone h v b =
    let w = v.1 in
    let r = w.0 in
    let e : passed (Running r) ≡ following r.follows r.need r.period = rw (le-ltb (r.age + 1) r.period (omega (arith, w.3, w.4))) in
    leaves_then r.follows (sym (ap is_parting w.1) ∙ v.2) (λ z. ap passed w.1 ∙ e ∙ ap (λ (f : Follows). following f r.need r.period) z)

-- R25: no longer period is allowed it
parting_barred : (p : ℕ) (h : Held) → is_parting h ≡ true → Lengthened p h → Barred p h
parting_barred p Nothing e l = l
parting_barred p (Running r) e l = go r.follows e
  where
    go : (f : Follows) → is_leaving f ≡ true → by_follows (p < r.period) (p ≡ r.period → ⊥) f
    go Renews e = absurd (true_false e refl)
    go Leaves e = λ z. omega arith
parting_barred p (Waiting w) e l = l

-- ---- one act

-- R25, R80: so nothing stretches it
parting_unstretched : (a : Act) (t : Table) (k : ℕ) → k < length t.slots → is_parting (at t.slots k) ≡ true → Stretches k a t → ⊥
parting_unstretched (asking q) t k b e s = s
parting_unstretched (admitting q) t k b e s =
    (granted t q s.0.0 (says_start (ask_of t q) s.0.0 s.0.1)).cleared.unbarred k b (parting_barred (entry q k) (at t.slots k) e s.1)
parting_unstretched stepping t k b e s = s
parting_unstretched (leaving n) t k b e s = s

parting_admitted : (t : Table) (q : Request) (k C P a : ℕ) → k < length t.slots → Parting C P a (at t.slots k) → Parting C P a (at (after (admitting q) t).slots k)
parting_admitted t q k C P a b v =
    (v.0, admit_kept t q k C P a v.0 v.1 b (parting_unstretched (admitting q) t k b v.2), go (ask_of t q) refl)
  where
    go : (d : Said ℕ) → ask_of t q ≡ d → is_parting (at (admit_with t q d).table.slots k) ≡ true
    go (Ok r) e = rw (admitted_stands t q r k C P a v.0 (granted t q r e) v.1) (parting_stretched (entry q k) (at t.slots k) ∙ v.2)
    go (Err x) e = v.2

parting_ticked : (t : Table) (k C P a : ℕ) → Good t → k < length t.slots → a + 1 < P → Parting C P a (at t.slots k) → Parting C P (a + 1) (at (next t).slots k)
parting_ticked t k C P a g b h v =
    let o = choose t in
    let s = one_tick t k C P a v.0 g b v.1 (omega arith) in
    let w = owed_or_got o t.slots k C P a v.0 (choice_may t) v.1 in (
      s.0,
      s.3 h,
      ap is_parting (at_pass (serve o t.slots) k) ∙ parting_passed (at (serve o t.slots) k) w.1 h ∙ serve_keeps is_parting parting_served o t.slots k (choice_may t) ∙ v.2,
    )

-- ---- a run

-- in the run `more` from t, if it does not come to its end: slot k, whose age was a at the tick `from`, is older by the time gone by
abbrev StaysIn : (k C P a from : ℕ) → List Act → Table → Type 0
StaysIn k C P a from more t = (run more t).clock < from + (P - a) → Parting C P (a + ((run more t).clock - from)) (at (run more t).slots k)

-- a tick older, and a tick later
older : (rest : List Act) (u : Table) (k C P a from : ℕ) → from + 1 ≤ (run rest u).clock → StaysIn k C P (a + 1) (from + 1) rest u → StaysIn k C P a from rest u
older rest u k C P a from d f h =
    let z : a + 1 + ((run rest u).clock - (from + 1)) ≡ a + ((run rest u).clock - from) = omega arith in
    subst (λ (n : ℕ). Parting C P n (at (run rest u).slots k)) z (f (omega arith))

-- R80: up to its end it is there
stays_from : (more : List Act) (t : Table) (k C P a : ℕ) → Good t → k < length t.slots → Parting C P a (at t.slots k) → StaysIn k C P a t.clock more t
stays_from [] t k C P a g b v = λ h. let z : a ≡ a + (t.clock - t.clock) = omega arith in subst (λ (n : ℕ). Parting C P n (at t.slots k)) z v
stays_from (asking q ∷ rest) t k C P a g b v = stays_from rest t k C P a g b v
stays_from (admitting q ∷ rest) t k C P a g b v =
    subst (λ (m : ℕ). StaysIn k C P a m rest (after (admitting q) t)) (admit_clock t q)
    (stays_from rest (after (admitting q) t) k C P a (good_after (admitting q) t g) (rw (admit_length t q) b) (parting_admitted t q k C P a b v))
stays_from (stepping ∷ rest) t k C P a g b v =
    split (2 ^ 48) t.clock
    (λ l. subst (λ (s : Acted (Option ℕ)). StaysIn k C P a t.clock rest s.table) (sym (at_last t l)) (stays_from rest t k C P a g b v))
    (λ l. let d = clock_run rest (next t) (good_next t g l) in
    subst (λ (s : Acted (Option ℕ)). StaysIn k C P a t.clock rest s.table) (sym (step_table t g l))
    (λ h. older rest (next t) k C P a t.clock d
    (stays_from rest (next t) k C P (a + 1) (good_next t g l) (rw (length_tick (choose t) t.slots) b) (parting_ticked t k C P a g b (omega (arith, d)) v)) h))
stays_from (leaving n ∷ rest) t k C P a g b v =
    subst (λ (m : ℕ). StaysIn k C P a m rest (after (leaving n) t)) (leave_clock t n)
    (stays_from rest (after (leaving n) t) k C P a (good_after (leaving n) t g) (rw (leave_length t n) b)
    (leave_at_lem (Parting C P a) t n k v (λ z. parting_let_go (at t.slots k) v)))

-- what is stretched at or after `until` does not count
late_unstretched : (more : List Act) (t : Table) (k until : ℕ) → Good t → until ≤ t.clock → Unstretched k until more t
late_unstretched [] t k until g h = tt
late_unstretched (a ∷ rest) t k until g h = ((λ l s. omega arith), late_unstretched rest (after a t) k until (good_after a t g) (omega (arith, clock_after a t g)))

-- R80: and nothing stretches it before
unstretched_from : (more : List Act) (t : Table) (k C P a : ℕ) → Good t → k < length t.slots → Parting C P a (at t.slots k) → Unstretched k (t.clock + (P - a)) more t
unstretched_from [] t k C P a g b v = tt
unstretched_from (asking q ∷ rest) t k C P a g b v = ((λ l s. s), unstretched_from rest t k C P a g b v)
unstretched_from (admitting q ∷ rest) t k C P a g b v = (
  (λ l. parting_unstretched (admitting q) t k b v.2),
  subst (λ (m : ℕ). Unstretched k (m + (P - a)) rest (after (admitting q) t)) (admit_clock t q)
      (unstretched_from rest (after (admitting q) t) k C P a (good_after (admitting q) t g) (rw (admit_length t q) b) (parting_admitted t q k C P a b v)),
)
unstretched_from (stepping ∷ rest) t k C P a g b v = (
  (λ l s. s),
  split (2 ^ 48) t.clock
      (λ l. subst (λ (s : Acted (Option ℕ)). Unstretched k (t.clock + (P - a)) rest s.table) (sym (at_last t l)) (unstretched_from rest t k C P a g b v))
      (λ l. subst (λ (s : Acted (Option ℕ)). Unstretched k (t.clock + (P - a)) rest s.table) (sym (step_table t g l))
      (split P (a + 1)
      (λ h. late_unstretched rest (next t) k (t.clock + (P - a)) (good_next t g l) (omega arith))
      (λ h. let z : t.clock + 1 + (P - (a + 1)) ≡ t.clock + (P - a) = omega arith in
      rw z at (unstretched_from rest (next t) k C P (a + 1) (good_next t g l) (rw (length_tick (choose t) t.slots) b) (parting_ticked t k C P a g b h v))))),
)
unstretched_from (leaving n ∷ rest) t k C P a g b v = (
  (λ l s. s),
  subst (λ (m : ℕ). Unstretched k (m + (P - a)) rest (after (leaving n) t)) (leave_clock t n)
      (unstretched_from rest (after (leaving n) t) k C P a (good_after (leaving n) t g) (rw (leave_length t n) b)
      (leave_at_lem (Parting C P a) t n k v (λ z. parting_let_go (at t.slots k) v))),
)

-- R46, R80: the step that ends its period leaves nothing there
freed : (t : Table) (k C P a : ℕ) → Good t → t.clock < 2 ^ 48 → Parting C P a (at t.slots k) → P ≤ a + 1 → at (step_of t).table.slots k ≡ Nothing
freed t k C P a g l v h =
    let o = choose t in
    let w = owed_or_got o t.slots k C P a v.0 (choice_may t) v.1 in
    let s : Parting C P a (at (serve o t.slots) k) = (w.0, w.1, serve_keeps is_parting parting_served o t.slots k (choice_may t) ∙ v.2) in
    ap (λ (x : Acted (Option ℕ)). at x.table.slots k) (step_table t g l) ∙ at_pass (serve o t.slots) k ∙ parting_gone (at (serve o t.slots) k) s h

parts_from : (t : Table) (k C P a c : ℕ) → Good t → k < length t.slots → a < P → RunsAs C P a c (at t.slots k) → is_parting (at t.slots k) ≡ true → Parts t k C P a c
parts_from t k C P a c g b h e p = record {
  stays = λ more l. stays_from more t k C P a g b (c, e, p) l;
  gets = λ more l. gets_rest more t k C P a c g b e h (unstretched_from more t k C P a g b (c, e, p)) l;
  frees = λ more z l.
      freed (run more t) k C P (a + ((run more t).clock - t.clock)) (good_run more t g) l (stays_from more t k C P a g b (c, e, p) (omega arith)) (omega (arith, clock_run more t g));
}

-- ---- what is promised

let_go_there : (t : Table) (k : ℕ) → k < length t.slots → at (let_go_at k t).slots k ≡ let_go (at t.slots k)
let_go_there t k b = ap (λ (s : Slot). s.held) (get_or-set_same t.slots k (let_go_slot (slot_at t.slots k)) empty b)

-- R80: a running line that is asked to leave
pub leaves_at_its_end : LeavesAtItsEnd
leaves_at_its_end acts k n C P a c e v =
    let t = run acts empty_table in
    let w = left_granted t k n e in
    let b = may_inside t.slots k w.0 in
    let g = good_reached acts in
    let there : at (after (leaving k) t).slots k ≡ let_go (at t.slots k) = ap (λ (u : Table). at u.slots k) w.2 ∙ let_go_there t k b in
    let s : Sound (Running v.0) = subst Sound v.1 (g.fine.sound k b) in (
      w.1 ∙ rw v.1 (omega (arith, v.3, v.4)),
      parts_from (after (leaving k) t) k C P a c (good_after (leaving k) t g) (rw (leave_length t k) b) (omega (arith, s, v.3, v.4)) (rw there (is_let_go (at t.slots k) v))
          (rw (there, v.1)),
    )

waiting_gone : (h : Held) → Waits h → (ticks_left h ≡ 0) × (let_go h ≡ Nothing)
waiting_gone Nothing e = absurd (true_false e refl)
waiting_gone (Running r) e = absurd (true_false e refl)
waiting_gone (Waiting w) e = (refl, refl)

-- R100: a waiting line that is asked to leave
pub leaves_at_once : LeavesAtOnce
leaves_at_once acts k n e h =
    let t = run acts empty_table in
    let w = left_granted t k n e in
    let z = waiting_gone (at t.slots k) h in
    (w.1 ∙ z.0, ap (λ (u : Table). at u.slots k) w.2 ∙ let_go_there t k (may_inside t.slots k w.0) ∙ z.1)
