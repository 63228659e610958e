-- A word of bits, one for each test of a list; and the word of a card (R58).
use Rattle.std.specs.Prelude.{Ok}
use mathlib.Core.Path.{◌≡◌, refl, sym, ap, ◌∙◌}
use mathlib.Core.Bool.{Bool, true, false}
use mathlib.Core.List.{List, [], ◌∷◌, map}
use Prim.Native.Nat.{ℕ, zero, suc, ◌+◌, ◌*◌, ◌/◌, ◌%◌, ◌^◌, ◌<◌}
use native.Mathlib.Omega.{arith}
use native.Mathlib.Nat.{pow-succ', div-div-eq-div-mul}
use lib.ListN.{length, drop, set, get_or}
use lib.Pow.{pow_pos}
use Rattle.line.specs.Slots.{pick}
use Rattle.table.specs.Words.{Said}
use Rattle.card.specs.Marked.{Records}
use Rattle.card.specs.Reading.{records_with}
use Rattle.card.specs.Twin.{word_of, is_old, turned_in, turned_with}

-- no bit is set where none of the tests holds
pub word_none : (b : Bool) (bs : List Bool) → word_of (b ∷ bs) ≡ 0 → (b ≡ false) × (word_of bs ≡ 0)
word_none true bs e = absurd (omega arith)
word_none false bs e = (refl, omega arith)

-- where none holds from i on, the word is below bit i
pub word_small : (i : ℕ) (bs : List Bool) → word_of (drop i bs) ≡ 0 → word_of bs < 2 ^ i
word_small zero bs e = omega arith
word_small (suc i) [] e = pow_pos (suc i)
word_small (suc i) (true ∷ bs) e = omega (arith, word_small i bs e, pow-succ' 2 i)
word_small (suc i) (false ∷ bs) e = omega (arith, word_small i bs e, pow-succ' 2 i)

-- then test i adds bit i
pub word_set : (b : Bool) (i : ℕ) (bs : List Bool) → i < length bs → word_of (drop i bs) ≡ 0 → word_of (set bs i b) ≡ pick b 1 0 * 2 ^ i + word_of bs
word_set b i [] h e = absurd (omega arith)
word_set true zero (x ∷ bs) h e = omega (arith, word_none x bs e)
word_set false zero (x ∷ bs) h e = omega (arith, word_none x bs e)
word_set true (suc i) (x ∷ bs) h e = omega (arith, word_set true i bs (omega arith) e, pow-succ' 2 i)
word_set false (suc i) (x ∷ bs) h e = omega (arith, word_set false i bs (omega arith) e)

-- what is above the lowest bit
above : (w v k : ℕ) → w / 2 ≡ v → w / 2 ^ suc k % 2 ≡ v / 2 ^ k % 2
above w v k e = ap (λ (x : ℕ). w / x % 2) (pow-succ' 2 k) ∙ ap (λ (x : ℕ). x % 2) (sym (div-div-eq-div-mul w 2 (2 ^ k)) ∙ ap (λ (x : ℕ). x / 2 ^ k) e)

-- R58: bit k is test k
pub word_bit : (bs : List Bool) (k : ℕ) → word_of bs / 2 ^ k % 2 ≡ pick (get_or bs k false) 1 0
word_bit [] zero = omega arith
word_bit [] (suc k) = above 0 0 k (omega arith) ∙ word_bit [] k
word_bit (true ∷ bs) zero = omega arith
word_bit (false ∷ bs) zero = omega arith
word_bit (true ∷ bs) (suc k) = above (1 + 2 * word_of bs) (word_of bs) k (omega arith) ∙ word_bit bs k
word_bit (false ∷ bs) (suc k) = above (0 + 2 * word_of bs) (word_of bs) k (omega arith) ∙ word_bit bs k

-- R58: bit k of a card's word is whether the record of slot k is TA
pub turned_bit : (n : ℕ) (l : List ℕ) (m : Records) → records_with n l ≡ Ok m → (k : ℕ)
    → turned_with n l / 2 ^ k % 2 ≡ pick (get_or (map is_old m.slots) k false) 1 0
unfolding turned_with
turned_bit n l m e k = ap (λ (s : Said Records). turned_in s / 2 ^ k % 2) e ∙ word_bit (map is_old m.slots) k
