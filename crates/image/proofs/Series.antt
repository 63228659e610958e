-- A series: one after the other, each in so many bytes, whatever they are: slots in nine, counts in eight. How long it is, and one more at its end; what was
-- put is what is found, and what is found stands there.
use mathlib.Core.Path.{◌≡◌, refl, sym, ap, ◌∙◌}
use mathlib.Core.List.{List, [], ◌∷◌, ◌++◌, append_assoc, append-nil}
use Prim.Native.Nat.{ℕ, zero, suc, ◌+◌, ◌*◌, ◌<◌}
use native.Mathlib.Omega.{arith}
use native.Mathlib.Numerals.{add-one}
use native.Mathlib.Nat.{mul-zero}
use lib.ListN.{length, take, drop, get_or, length-append}
use lib.Seq.{take-suc, drop-drop}
use Rattle.periods.specs.Multiples.{All}
use Rattle.card.specs.Bytes.{Bytes}
use Rattle.image.specs.Image.{series}
use Rattle.image.specs.Loading.{series_in}

-- what is behind the one in front
pub next_drop : (w k : ℕ) (l : List ℕ) → drop (w * k) (drop w l) ≡ drop (w * suc k) l
next_drop w k l = let e : w + w * k ≡ w * suc k = omega arith in drop-drop (w * k) w l ∙ ap (λ (d : ℕ). drop d l) e

module _ {A : Type 0} (g : A → List ℕ) where
  series_append : (p q : List A) → series g (p ++ q) ≡ series g p ++ series g q
  series_append [] q = refl
  series_append (x ∷ p) q = ap (λ (y : List ℕ). g x ++ y) (series_append p q) ∙ sym (append_assoc (g x) (series g p) (series g q))

  -- one more at the end
  pub series_next : (xs : List A) (k : ℕ) (d : A) → k < length xs → series g (take (k + 1) xs) ≡ series g (take k xs) ++ g (get_or xs k d)
  series_next xs k d h =
      ap (λ (j : ℕ). series g (take j xs)) (add-one k) ∙ ap (series g) (take-suc xs k d h)
      ∙ series_append (take k xs) (get_or xs k d ∷ []) ∙ ap (λ (y : List ℕ). series g (take k xs) ++ y) (append-nil (g (get_or xs k d)))

  -- a series in front of bytes
  pub bytes_series : ((x : A) (y : List ℕ) → Bytes y → Bytes (g x ++ y)) → (xs : List A) (y : List ℕ) → Bytes y → Bytes (series g xs ++ y)
  bytes_series h [] y b = b
  bytes_series h (x ∷ xs) y b = rw (append_assoc (g x) (series g xs) y) (h x (series g xs ++ y) (bytes_series h xs y b))

  -- so many times as long as one
  pub length_series : (w : ℕ) → ((x : A) → length (g x) ≡ w) → (xs : List A) → length (series g xs) ≡ w * length xs
  length_series w h [] = sym (mul-zero w)
  length_series w h (x ∷ xs) = let i = length_series w h xs in omega (arith, length-append (g x) (series g xs), h x)

module _ {A : Type 0} (w : ℕ) (f : List ℕ → A) where
  -- so many are found
  pub length_found : (n : ℕ) (l : List ℕ) → length (series_in w f n l) ≡ n
  length_found zero l = refl
  length_found (suc n) l = ap suc (length_found n (drop w l))

  -- one more found at the end
  pub found_next : (k : ℕ) (l : List ℕ) → series_in w f (suc k) l ≡ series_in w f k l ++ (f (drop (w * k) l) ∷ [])
  found_next zero l = ap (λ (j : ℕ). f (drop j l) ∷ []) (sym (mul-zero w))
  found_next (suc k) l =
      ap {B = List A} (λ (s : List A). f l ∷ s) (found_next k (drop w l)
      ∙ ap (λ (y : List ℕ). series_in w f k (drop w l) ++ (f y ∷ [])) (next_drop w k l))

  module _ (g : A → List ℕ) (P : A → Type 0) where
    -- what was put is found, and what follows it is not looked at
    pub series_back : ((x : A) (y : List ℕ) → P x → (f (g x ++ y) ≡ x) × (drop w (g x ++ y) ≡ y))
        → (xs : List A) (y : List ℕ) → All P xs → series_in w f (length xs) (series g xs ++ y) ≡ xs
    series_back h [] y a = refl
    series_back h (x ∷ xs) y a =
        let e = h x (series g xs ++ y) a.0 in
        let i = series_back h xs y a.1 in
        rw (append_assoc (g x) (series g xs) y, e.0, e.1, i)

    -- what is found stands there, where that is so of each
    pub series_stand : (n : ℕ) (l : List ℕ)
        → ((i : ℕ) → i < n → (drop (w * i) l ≡ g (f (drop (w * i) l)) ++ drop w (drop (w * i) l)) × P (f (drop (w * i) l)))
        → (series g (series_in w f n l) ++ drop (w * n) l ≡ l) × All P (series_in w f n l)
    series_stand zero l h = (ap (λ (j : ℕ). drop j l) (mul-zero w), tt)
    series_stand (suc n) l h =
        let z : drop (w * 0) l ≡ l = ap (λ (j : ℕ). drop j l) (mul-zero w) in
        let v = rw z at (h 0 (omega arith)) in
        let i = series_stand n (drop w l) (λ j k. rw (next_drop w j l) (h (suc j) (omega arith))) in (
          append_assoc (g (f l)) (series g (series_in w f n (drop w l))) (drop (w * suc n) l)
              ∙ ap (λ (y : List ℕ). g (f l) ++ y) (ap (λ (y : List ℕ). series g (series_in w f n (drop w l)) ++ y) (sym (next_drop w n l)) ∙ i.0)
              ∙ sym v.0,
          (v.1, i.1),
        )
