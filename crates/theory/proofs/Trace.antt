-- What one line gets over a run.
use mathlib.Core.Path.{◌≡◌, refl, sym, ap, ◌∙◌, subst}
use Rattle.std.specs.Prelude.{Option, None, Some}
use mathlib.Core.List.{List}
use Prim.Native.Nat.{ℕ, suc, ◌+◌, ◌-◌, ◌<◌}
use native.Mathlib.Decide.{ℕ_discrete}
use native.Mathlib.Omega.{arith}
use borrow.Author.Tests.{lt-ltb, le-ltb, eq-eqb, ne_eqb}
use lib.ListN.{length, length-map, get_or-map}
use lib.Seq.{get_or-set_same, get_or-set_other}
use Rattle.line.specs.declared.Held.{Held}
use Rattle.line.specs.declared.Held.TheVariants.{Running, Waiting}
use Rattle.line.specs.declared.Slot.{Slot}
use Rattle.line.specs.Slots.{with_period, with_age, with_remaining, wait_with, empty, RunsAs, slot_at, at}
use Rattle.line.specs.Stretch.{stretch}
use Rattle.table.specs.Admit.{new_line}
use Rattle.line.specs.Tick.{Owed, served, passed, served_slot, passed_slot}
use Rattle.table.specs.Step.{serve, pass}
use Rattle.table.specs.Runs.{is_slot}
use Rattle.table.proofs.Step.{length_serve}
use Rattle.theory.specs.Fine.{May}
use Rattle.theory.proofs.Numbers.{split}

-- R45 to R47: what slot i holds a tick later
pub at_pass : (l : List Slot) (i : ℕ) → at (pass l) i ≡ passed (at l i)
at_pass l i = ap (λ (s : Slot). s.held) (get_or-map passed_slot l i empty)

-- a tick leaves the number of slots as it was
pub length_tick : (o : Option ℕ) (l : List Slot) → length (pass (serve o l)) ≡ length l
length_tick o l = length-map (serve o l) passed_slot ∙ length_serve o l

-- R45: the slot named is served
pub at_served : (l : List Slot) (j : ℕ) → j < length l → at (serve (Some j) l) j ≡ served (at l j)
at_served l j h = ap (λ (s : Slot). s.held) (get_or-set_same l j (served_slot (slot_at l j)) empty h)

-- R45: and no other is touched
pub at_others : (l : List Slot) (k j : ℕ) → (k ≡ j → ⊥) → at (serve (Some k) l) j ≡ at l j
at_others l k j n = ap (λ (s : Slot). s.held) (get_or-set_other l k j (served_slot (slot_at l k)) empty (λ z. n (sym z)))

-- R45: a line of these numbers, served
is_served : {C P a c : ℕ} (h : Held) → RunsAs C P a c h → RunsAs C P a (c - 1) (served h)
is_served h v = (with_remaining v.0 (v.0.remaining - 1), ap served v.1, v.2, v.3, v.4, ap (λ (n : ℕ). n - 1) v.5)

-- R44: and what it is owed
is_owed_lem : {C P a c : ℕ} (h : Held) → RunsAs C P a c h → Owed h → 0 < c
is_owed_lem h v o = let z : Owed (Running v.0) = subst Owed v.1 o in omega (arith, z, v.5)

-- R45: and a tick older, where its period goes on
pub is_passed : {C P a c : ℕ} (h : Held) → RunsAs C P a c h → a + 1 < P → RunsAs C P (a + 1) c (passed h)
is_passed h v b =
    let r = v.0 in
    let e : passed (Running r) ≡ Running (with_age r (r.age + 1)) = rw (lt-ltb (r.age + 1) r.period (omega (arith, v.3, v.4))) in
    (with_age r (r.age + 1), ap passed v.1 ∙ e, v.2, v.3, ap (λ (n : ℕ). n + 1) v.4, v.5)

-- R42: and at another period
pub is_stretched : {C P a c : ℕ} (p : ℕ) (h : Held) → RunsAs C P a c h → RunsAs C p a c (stretch p h)
is_stretched p h v = (with_period v.0 p, ap (stretch p) v.1, v.2, refl, v.4, v.5)

-- after a serving what the line is owed and the tick it got add up
pub owed_or_got : (o : Option ℕ) (l : List Slot) (j C P a c : ℕ) → May o l → RunsAs C P a c (at l j) → (x : ℕ) × RunsAs C P a x (at (serve o l) j) × (x + is_slot j o ≡ c)
owed_or_got None l j C P a c m e = (c, e, omega arith)
owed_or_got (Some k) l j C P a c m e = by (ℕ_discrete k j)
  where
    by : Dec (k ≡ j) → (x : ℕ) × RunsAs C P a x (at (serve (Some k) l) j) × (x + is_slot j (Some k) ≡ c)
    by (yes q) =
        let v : Owed (at l j) = subst (λ (n : ℕ). Owed (at l n)) q m.1 in
        let f : at (serve (Some k) l) j ≡ served (at l j) = subst (λ (n : ℕ). at (serve (Some k) l) n ≡ served (at l n)) q (at_served l k m.0) in
        (c - 1, rw f (is_served (at l j) e), rw (eq-eqb k j q) (omega (arith, is_owed_lem (at l j) e v)))
    by (no n) = (c, rw (at_others l k j n) e, rw (ne_eqb k j n) (omega arith))

-- a line that is owed nothing is not served
pub not_served : (o : Option ℕ) (l : List Slot) (j : ℕ) → May o l → (Owed (at l j) → ⊥) → (at (serve o l) j ≡ at l j) × (is_slot j o ≡ 0)
not_served None l j m v = (refl, refl)
not_served (Some k) l j m v = by (ℕ_discrete k j)
  where
    by : Dec (k ≡ j) → (at (serve (Some k) l) j ≡ at l j) × (is_slot j (Some k) ≡ 0)
    by (yes q) = absurd (v (subst (λ (n : ℕ). Owed (at l n)) q m.1))
    by (no n) = (at_others l k j n, rw (ne_eqb k j n))

waiting : (C P w : ℕ) → new_line C P (suc w) ≡ Waiting (wait_with C P (suc w))
waiting C P w = rw (lt-ltb 0 (suc w) (omega arith))

-- a tick later the start of a waiting line is a tick nearer, or there
pub nearer : (C P w : ℕ) → passed (new_line C P (suc w)) ≡ new_line C P w
nearer C P w =
    rw waiting
    (split w 0
    (λ g. rw (le-ltb 1 (suc w) (omega arith), le-ltb 0 w g))
    (λ g. let e : suc w - 1 ≡ w = omega arith in
    rw (lt-ltb 1 (suc w) (omega arith), lt-ltb 0 w g, e)))

-- R43: a line that waits is owed nothing
pub not_yet : (C P w : ℕ) → Owed (new_line C P (suc w)) → ⊥
not_yet C P w v = let z : Owed (Waiting (wait_with C P (suc w))) = rw waiting at v in absurd (omega (arith, z))
