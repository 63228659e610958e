-- A list given by its numbers: step by step, its members, and other lists that it equals.
use Prim.Native.Nat.{ℕ, zero, suc, ◌+◌, ◌-◌, ◌≤◌, ◌<◌}
use mathlib.Core.Path.{◌≡◌, refl, ap, sym, ◌∙◌}
use mathlib.Core.List.{List, [], ◌∷◌, ◌++◌, map}
use native.Mathlib.Numerals.{add-one}
use native.Mathlib.Omega.{arith}
use lib.ListN.{length, get_or}
use Rattle.periods.specs.Multiples.{All}
use Rattle.sums.specs.Lines.{along}

module _ {A : Type 0} (f : ℕ → A) where
  -- what is left from i on begins with f i
  pub along_step : (i n : ℕ) → i < n → along f i (n - i) ≡ f i ∷ along f (i + 1) (n - (i + 1))
  unfolding along
  along_step i n h =
      let z : n - i ≡ suc (n - (i + 1)) = omega arith in
      ap (along f i) z ∙ ap (λ (k : ℕ). f i ∷ along f k (n - (i + 1))) (sym (add-one i))

  -- nothing is left from n on
  pub along_end : (i n : ℕ) → n ≤ i → along f i (n - i) ≡ []
  unfolding along
  along_end i n h = let z : n - i ≡ 0 = omega arith in ap (along f i) z

  -- all of it is left at the beginning
  pub along_all : (n : ℕ) → along f 0 (n - 0) ≡ along f 0 n
  along_all n = let z : n - 0 ≡ n = omega arith in ap (along f 0) z

  -- it has n members
  pub along_length : (i n : ℕ) → length (along f i n) ≡ n
  unfolding along
  along_length i zero = refl
  along_length i (suc n) = ap suc (along_length (suc i) n)

  -- one member more stands behind the others
  pub along_more : (i n : ℕ) → along f i (suc n) ≡ along f i n ++ (f (i + n) ∷ [])
  unfolding along
  along_more i zero = let z : i ≡ i + 0 = omega arith in ap {B = List A} (λ k. f k ∷ []) z
  along_more i (suc n) =
      let z : suc i + n ≡ i + suc n = omega arith in
      ap {B = List A} (λ l. f i ∷ l) (along_more (suc i) n ∙ ap (λ (k : ℕ). along f (suc i) n ++ (f k ∷ [])) z)

  -- the same, counted from one later
  pub along_later : (i n : ℕ) → along f (suc i) n ≡ along (λ k. f (suc k)) i n
  unfolding along
  along_later i zero = refl
  along_later i (suc n) = ap {B = List A} (λ l. f (suc i) ∷ l) (along_later (suc i) n)

  -- equal members make equal lists
  pub along_same : (g : ℕ → A) (i n : ℕ) → ((k : ℕ) → i ≤ k → k < i + n → f k ≡ g k) → along f i n ≡ along g i n
  unfolding along
  along_same g i zero e = refl
  along_same g i (suc n) e = rw (e i (omega arith) (omega arith), along_same g (suc i) n (λ k h l. e k (omega arith) (omega arith)))

  -- what holds of each member
  pub along_every : (P : A → Type 0) (i n : ℕ) → ((k : ℕ) → i ≤ k → k < i + n → P (f k)) → All P (along f i n)
  unfolding along
  along_every P i zero e = tt
  along_every P i (suc n) e = (e i (omega arith) (omega arith), along_every P (suc i) n (λ k h l. e k (omega arith) (omega arith)))

  -- h of each member
  pub along_map : {B : Type 0} (h : A → B) (i n : ℕ) → map h (along f i n) ≡ along (λ k. h (f k)) i n
  unfolding along
  along_map h i zero = refl
  along_map {B} h i (suc n) = ap {B = List B} (λ l. h (f i) ∷ l) (along_map h (suc i) n)

-- a list is given by its members
pub along_list : (l : List ℕ) → along (λ k. get_or l k 0) 0 (length l) ≡ l
unfolding along
along_list [] = refl
along_list (x ∷ l) = ap {B = List ℕ} (λ r. x ∷ r) (along_later (λ k. get_or (x ∷ l) k 0) 0 (length l) ∙ along_list l)
