-- Bytes that open with a mark.
use mathlib.Core.Path.{◌≡◌, refl, sym, ap, ap₂, ◌∙◌}
use mathlib.Core.List.{List, [], ◌∷◌, ◌++◌}
use mathlib.Core.Bool.{Bool, true, false, ◌&&◌}
use Prim.Native.Nat.{ℕ, ◌≤◌, ◌<◌}
use native.Mathlib.Omega.{arith}
use native.Mathlib.Nat.{le_of_suc-le-suc}
use lib.ListN.{length, drop, get_or}
use lib.Dec.{eqb}
use borrow.Author.Tests.{eqb-true, eqb-false, eq-eqb, ne_eqb}
use Rattle.std.specs.List.{starts_with}
use Rattle.line.specs.Slots.{both}
use Rattle.line.proofs.Search.{true_false}
use Rattle.line.proofs.Sound.{both_says, both_false}
use Rattle.card.specs.Bytes.{marked}

-- a mark opens what begins with it
pub marked_here : (m l : List ℕ) → marked m (m ++ l) ≡ true
unfolding marked
marked_here [] l = refl
marked_here (a ∷ m) l = ap₂ both (eq-eqb a a refl) (marked_here m l)

-- R52: what a mark opens begins with its bytes
pub marked_is : (m l : List ℕ) → marked m l ≡ true → l ≡ m ++ drop (length m) l
unfolding marked
marked_is [] l h = refl
marked_is (a ∷ m) [] h = absurd (true_false h refl)
marked_is (a ∷ m) (b ∷ l) h =
    let t = both_says (eqb b a) (marked m l) h in
    ap₂ (λ (x : ℕ) (y : List ℕ). x ∷ y) (eqb-true b a t.0) (marked_is m l t.1)

-- what a mark opens is no shorter than the mark
pub marked_long : (m l : List ℕ) → marked m l ≡ true → length m ≤ length l
unfolding marked
marked_long [] l h = omega arith
marked_long (a ∷ m) [] h = absurd (true_false h refl)
marked_long (a ∷ m) (b ∷ l) h = let q = marked_long m l (both_says (eqb b a) (marked m l) h).1 in omega arith

-- R57: no mark opens fewer bytes than its own
pub marked_short : (m l : List ℕ) → length l < length m → marked m l ≡ false
unfolding marked
marked_short [] l h = absurd (omega arith)
marked_short (a ∷ m) [] h = refl
marked_short (a ∷ m) (b ∷ l) h = ap (both (eqb b a)) (marked_short m l (le_of_suc-le-suc h)) ∙ both_false (eqb b a)

-- R52: another first byte is no such mark
pub marked_not : (m l : List ℕ) → 0 < length m → (get_or l 0 0 ≡ get_or m 0 0 → ⊥) → marked m l ≡ false
unfolding marked
marked_not [] l h n = absurd (omega arith)
marked_not (a ∷ m) [] h n = refl
marked_not (a ∷ m) (b ∷ l) h n = ap (λ (t : Bool). both t (marked m l)) (ne_eqb b a n)

-- where the first of two bytes is right, the second decides
pub marked_first : (a b : ℕ) (l : List ℕ) → 2 ≤ length l → get_or l 0 0 ≡ a → marked (a ∷ b ∷ []) l ≡ eqb (get_or l 1 0) b
unfolding marked
marked_first a b [] h n = absurd (omega arith)
marked_first a b (x ∷ []) h n = absurd (omega arith)
marked_first a b (x ∷ y ∷ l) h n = rw (eq-eqb x a n) (grind arith)

same_test : (a b : ℕ) → eqb a b ≡ eqb b a
same_test a b = go (eqb b a) refl
  where
    go : (t : Bool) → eqb b a ≡ t → eqb a b ≡ t
    go true e = eq-eqb a b (sym (eqb-true b a e))
    go false e = ne_eqb a b (λ z. eqb-false b a e (sym z))

both_and : (s t u : Bool) → s ≡ t → (s && u) ≡ both t u
both_and s true u e = ap (λ (x : Bool). x && u) e
both_and s false u e = ap (λ (x : Bool). x && u) e

-- R52: the code's test
pub starts_marked : (m l : List ℕ) → starts_with eqb l m ≡ marked m l
unfolding marked
starts_marked [] l = refl
starts_marked (a ∷ m) [] = refl
starts_marked (a ∷ m) (b ∷ l) = ap (λ (t : Bool). eqb a b && t) (starts_marked m l) ∙ both_and (eqb a b) (eqb b a) (marked m l) (same_test a b)

-- no bytes open with two marks
pub marked_other : (m o l : List ℕ) → marked m l ≡ true → marked o (m ++ drop (length m) l) ≡ false → marked o l ≡ false
marked_other m o l h e = ap (marked o) (marked_is m l h) ∙ e
