-- Sums and facts over the slots, by induction on the list, once.
use mathlib.Core.Path.{◌≡◌, refl}
use mathlib.Core.List.{List, [], ◌∷◌}
use Prim.Native.Nat.{ℕ, zero, suc, ◌+◌, ◌*◌, ◌≤◌, ◌<◌}
use native.Mathlib.Nat.{not-suc-le-zero}
use native.Mathlib.Omega.{arith}
use lib.ListN.{length, set, replicate}
use Rattle.line.specs.declared.Held.{Held}
use Rattle.line.specs.declared.Held.TheVariants.{Nothing}
use Rattle.line.specs.declared.Slot.{Slot}
use Rattle.line.specs.Slots.{empty, at, Each, total}
use Rattle.line.specs.Tick.{passed}
use Rattle.table.specs.Step.{pass}

-- a sum is no greater where no term is
pub total_le : (f g : Held → ℕ) (l : List Slot) → Each (λ h. f h ≤ g h) l → total f l ≤ total g l
unfolding total
total_le f g [] a = omega arith
total_le f g (s ∷ l) a = omega (arith, a 0 (omega arith), total_le f g l (λ i b. a (suc i) (omega arith)))

-- a sum is the same where every term is
pub total_eq : (f g : Held → ℕ) (l : List Slot) → Each (λ h. f h ≡ g h) l → total f l ≡ total g l
unfolding total
total_eq f g [] a = refl
total_eq f g (s ∷ l) a = omega (arith, a 0 (omega arith), total_eq f g l (λ i b. a (suc i) (omega arith)))

-- a sum of nothings is 0
pub total_zero : (f : Held → ℕ) (l : List Slot) → Each (λ h. f h ≡ 0) l → total f l ≡ 0
unfolding total
total_zero f [] a = refl
total_zero f (s ∷ l) a = omega (arith, a 0 (omega arith), total_zero f l (λ i b. a (suc i) (omega arith)))

-- the sum of two terms is the sum of both sums
pub total_add : (f g : Held → ℕ) (l : List Slot) → total (λ h. f h + g h) l ≡ total f l + total g l
unfolding total
total_add f g [] = omega arith
total_add f g (s ∷ l) = omega (arith, total_add f g l)

-- a factor on the left may be taken out
pub total_mul : (M : ℕ) (f : Held → ℕ) (l : List Slot) → total (λ h. M * f h) l ≡ M * total f l
unfolding total
total_mul M f [] = omega arith
total_mul M f (s ∷ l) = omega (arith, total_mul M f l)

-- a factor on the right may be taken out
pub total_mulr : (x : ℕ) (f : Held → ℕ) (l : List Slot) → total (λ h. f h * x) l ≡ total f l * x
unfolding total
total_mulr x f [] = omega arith
total_mulr x f (s ∷ l) = omega (arith, total_mulr x f l)

-- another slot for slot j
pub total_set : (f : Held → ℕ) (l : List Slot) (j : ℕ) (v : Slot) → j < length l → total f (set l j v) + f (at l j) ≡ total f l + f v.held
unfolding total
total_set f [] j v h = absurd (not-suc-le-zero h)
total_set f (s ∷ l) zero v h = omega arith
total_set f (s ∷ l) (suc j) v h = omega (arith, total_set f l j v (omega arith))

-- a sum over the slots a tick later
pub total_pass : (f : Held → ℕ) (l : List Slot) → total f (pass l) ≡ total (λ h. f (passed h)) l
unfolding total
total_pass f [] = refl
total_pass f (s ∷ l) = omega (arith, total_pass f l)

-- two tables, slot by slot
pub total_le_two : (f g : Held → ℕ) (l m : List Slot) → length l ≡ length m → ((i : ℕ) → i < length l → f (at l i) ≤ g (at m i)) → total f l ≤ total g m
unfolding total
total_le_two f g [] m e a = omega arith
total_le_two f g (s ∷ l) [] e a = absurd (omega arith)
total_le_two f g (s ∷ l) (t ∷ m) e a = omega (arith, a 0 (omega arith), total_le_two f g l m (omega arith) (λ i b. a (suc i) (omega arith)))

-- one term is no greater than the sum
pub one_le : (f : Held → ℕ) (l : List Slot) (i : ℕ) → i < length l → f (at l i) ≤ total f l
unfolding total
one_le f [] i h = absurd (not-suc-le-zero h)
one_le f (s ∷ l) zero h = omega arith
one_le f (s ∷ l) (suc i) h = omega (arith, one_le f l i (omega arith))

-- what holds of each line a tick later holds of the slots a tick later
pub each_pass : (Q : Held → Type 0) (l : List Slot) → Each (λ h. Q (passed h)) l → Each Q (pass l)
each_pass Q [] a i h = absurd (not-suc-le-zero h)
each_pass Q (s ∷ l) a zero h = a 0 (omega arith)
each_pass Q (s ∷ l) a (suc i) h = each_pass Q l (λ k b. a (suc k) (omega arith)) i (omega arith)

-- what holds of every slot and of v holds when v is put into one
pub each_set : (Q : Held → Type 0) (l : List Slot) (j : ℕ) (v : Slot) → Each Q l → Q v.held → Each Q (set l j v)
each_set Q [] j v a q i h = absurd (not-suc-le-zero h)
each_set Q (s ∷ l) zero v a q zero h = q
each_set Q (s ∷ l) zero v a q (suc i) h = a (suc i) h
each_set Q (s ∷ l) (suc j) v a q zero h = a 0 (omega arith)
each_set Q (s ∷ l) (suc j) v a q (suc i) h = each_set Q l j v (λ k b. a (suc k) (omega arith)) q i (omega arith)

-- what holds of an empty slot holds of each slot of an empty table
pub each_empty : (Q : Held → Type 0) (n : ℕ) → Q Nothing → Each Q (replicate n empty)
each_empty Q zero q i h = absurd (not-suc-le-zero h)
each_empty Q (suc n) q zero h = q
each_empty Q (suc n) q (suc i) h = each_empty Q n q i (omega arith)
