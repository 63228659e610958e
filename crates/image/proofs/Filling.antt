-- The loops over the slots and over the counts: what is read from an image one by one, and what is put into one; and a byte put behind the rest.
use Rattle.std.specs.Prelude.{Ok, Err}
use Rattle.std.specs.Array.{IsFromFnResultFrom, IsFromFnResult}
use Rattle.std.specs.Fn.{Mut, Called}
use mathlib.Core.Path.{◌≡◌, refl, sym, ap, ap₂, ◌∙◌}
use mathlib.Core.List.{List, [], ◌∷◌, ◌++◌}
use Prim.Native.Nat.{ℕ, zero, suc, ◌+◌, ◌*◌, ◌-◌, ◌≤◌, ◌<◌}
use native.Mathlib.Omega.{arith}
use native.Mathlib.Numerals.{add-one}
use native.Mathlib.Nat.{mul-zero}
use borrow.Rule.Slice.PartMut.{put_mid, same_len_mid}
use lib.ListN.{length, take, drop, set, get_or, length-append, length-drop, length-set}
use lib.Seq.{take_all, take-suc-set, length-take-le, take_at, drop_at, drop-drop, sets-eq}
use Rattle.table.specs.declared.Table.{Table}
use Rattle.table.specs.declared.Refusal.{Refusal}
use Rattle.table.specs.Words.{refusal}
use Rattle.card.proofs.Parts.{put_at_lem}
use Rattle.image.specs.Image.{series, image_of}
use Rattle.image.specs.Loading.{series_in}
use Rattle.image.specs.Answers.{store_of, stored_in}
use Rattle.image.proofs.Series.{next_drop, series_next, length_series, found_next}
use Rattle.image.proofs.Stored.{has_room, no_room, stored_is, stored_not}

-- the first k of n, each found in w bytes, the first at offset o
module _ {A : Type 0} (w : ℕ) (f : List ℕ → A) (o n : ℕ) (l : List ℕ) (xs : List A) (k : ℕ) (long : length xs ≡ n) (same : take k xs ≡ series_in w f k (drop o l)) where
  -- R81: the one at its offset is one more
  pub fill_on : k < n → {x : A} → x ≡ f (drop (o + w * k) l) → (length (set xs k x) ≡ n) × (take (k + 1) (set xs k x) ≡ series_in w f (k + 1) (drop o l))
  fill_on h {x} e = (
    length-set xs k x ∙ long,
    ap (λ (j : ℕ). take j (set xs k x)) (add-one k) ∙ take-suc-set xs k x (omega arith)
        ∙ ap₂ (λ (p : List A) (z : A). p ++ (z ∷ [])) same (e ∙ ap f (sym (drop-drop (w * k) o l)))
        ∙ sym (found_next w f k (drop o l)) ∙ ap (λ (j : ℕ). series_in w f j (drop o l)) (sym (add-one k)),
  )

  -- R81: all are read
  pub fill_end : k ≤ n → n ≤ k → xs ≡ series_in w f n (drop o l)
  fill_end few h =
      let e : k ≡ n = omega arith in
      sym (take_all k xs (omega arith)) ∙ same ∙ ap (λ (j : ℕ). series_in w f j (drop o l)) e

-- R81: n that are each found at their offset are the series that stands there
pub filled : {A : Type 0} (w n : ℕ) (f : List ℕ → A) (l : List ℕ) (xs : List A) → length xs ≡ n
    → ((i : ℕ) (d : A) → i < n → get_or xs i d ≡ f (drop (w * i) l)) → xs ≡ series_in w f n l
filled {A} w zero f l [] e h = refl
filled {A} w zero f l (x ∷ xs) e h = absurd (omega arith)
filled {A} w (suc n) f l [] e h = absurd (omega arith)
filled {A} w (suc n) f l (x ∷ xs) e h =
    let z : drop (w * 0) l ≡ l = ap (λ (j : ℕ). drop j l) (mul-zero w) in
    ap₂ (λ (y : A) (ys : List A). y ∷ ys) (h 0 x (omega arith) ∙ ap f z)
    (filled w n f (drop w l) xs (omega arith) (λ i d k. h (suc i) d (omega arith) ∙ ap f (sym (next_drop w i l))))

module _ {F S A : Type 0} (g : Mut F (ℕ × Unit {0}) A) (seen : F → S) (value : S → ℕ → A) where
  -- the calls leave what they see as it was, and give its value at their index
  abbrev Reads : Type 0
  Reads = (p q : F) (k : ℕ) (y : A) → Called g p (k, tt) y q → (seen q ≡ seen p) × (y ≡ value (seen p) k)

  made_from : (xs : List A) (i n : ℕ) (p : F) → IsFromFnResultFrom g p xs i n → Reads → (j k : ℕ) (d : A) → j < n → k ≡ i + j → get_or xs k d ≡ value (seen p) k
  made_from xs i zero p e step j k d h q = absurd (omega arith)
  made_from xs i (suc n) p e step zero k d h q =
      let z : i ≡ k = omega arith in
      rw z at (e.2.1 d ∙ (step p e.0 i e.1 e.3).1)
  made_from xs i (suc n) p e step (suc j) k d h q =
      made_from xs (i + 1) n e.0 e.4 step j k d (omega arith) (omega arith) ∙ ap (λ (s : S). value s k) (step p e.0 i e.1 e.3).0

-- so the element at each index is that value
pub made : {F S A : Type 0} {g : Mut F (ℕ × Unit {0}) A} {xs : List A} {p : F} {n : ℕ} → IsFromFnResult g p xs n → (seen : F → S) (value : S → ℕ → A) → Reads g seen value
    → (k : ℕ) (d : A) → k < n → get_or xs k d ≡ value (seen p) k
made {F} {S} {A} {g} {xs} {p} {n} e seen value step k d h = made_from g seen value xs 0 n p e.each step k k d h (omega arith)

-- k of n are put at the start of a buffer, each in w bytes
pub record Put {A : Type 0} (w : ℕ) (g : A → List ℕ) (n : ℕ) (l₀ : List ℕ) (xs : List A) (l : List ℕ) (k : ℕ) : Type 0 where
  pub few : k ≤ n
  pub many : length xs ≡ n
  pub room : w * n ≤ length l₀
  pub long : length l ≡ length l₀
  pub same : l ≡ series g (take k xs) ++ drop (w * k) l₀

module _ {A : Type 0} {w : ℕ} {g : A → List ℕ} {n : ℕ} where
  -- before the first none is put
  pub put_start : (l : List ℕ) {xs : List A} → length xs ≡ n → w * n ≤ length l → Put w g n l xs l 0
  put_start l e h = record { few = omega arith; many = e; room = h; long = refl; same = ap (λ (j : ℕ). drop j l) (sym (mul-zero w)) }

  module _ {l₀ : List ℕ} {xs : List A} {l : List ℕ} {k : ℕ} (v : Put w g n l₀ xs l k) where
    -- R81: one that is put at its offset is one more
    pub put_on : k < n → (d : A) → ((x : A) → length (g x) ≡ w) → {at : ℕ} → at ≡ w * k → {ys : List ℕ} → ys ≡ g (get_or xs k d) ++ drop w (take (length l - at) (drop at l))
        → length ys ≡ length (take (length l - at) (drop at l)) → Put w g n l₀ xs (put_mid at (length l - at) l ys) (k + 1)
    put_on h d wide {at} ea {ys} e el =
        let q : length (take k xs) ≡ k = length-take-le k xs (omega (arith, v.many)) in
        let j : at + w ≡ w * (k + 1) = omega arith in
        record {
          few = omega arith;
          many = v.many;
          room = v.room;
          long = same_len_mid at (length l - at) l ys el ∙ v.long;
          same =
              put_at_lem l₀ l (series g (take k xs)) (g (get_or xs k d)) ys at w (v.same ∙ ap (λ (i : ℕ). series g (take k xs) ++ drop i l₀) (sym ea))
              (length_series g w wide (take k xs) ∙ ap (λ (i : ℕ). w * i) q ∙ sym ea) (wide (get_or xs k d)) e
              ∙ ap₂ (λ (x : List ℕ) (i : ℕ). x ++ drop i l₀) (sym (series_next g xs k d (omega (arith, v.many)))) j;
        }

    -- R81: all are put
    pub put_end : n ≤ k → l ≡ series g xs ++ drop (w * n) l₀
    put_end h =
        let e : k ≡ n = omega (arith, v.few) in
        v.same ∙ ap₂ (λ (x : List A) (j : ℕ). series g x ++ drop (w * j) l₀) (take_all k xs (omega (arith, v.many))) e

-- R81: a byte is stored at a, behind p, which stands written before
pub put_byte : (l₀ p : List ℕ) {l : List ℕ} (b a : ℕ) → l ≡ p ++ drop a l₀ → length p ≡ a → a < length l₀ → set l a b ≡ (p ++ (b ∷ [])) ++ drop (a + 1) l₀
put_byte l₀ p {l} b a e ep h =
    let n : length l ≡ length l₀ = ap length e ∙ omega (arith, length-append p (drop a l₀), length-drop a l₀) in
    let t : take a l ≡ p = ap (take a) e ∙ take_at p (drop a l₀) a ep in
    let d : drop a l ≡ drop a l₀ = ap (drop a) e ∙ drop_at p (drop a l₀) a ep in
    sets-eq (b ∷ []) l a (omega arith)
    ∙ ap₂ (λ (x y : List ℕ). x ++ (b ∷ []) ++ y) t (sym (drop-drop 1 a l) ∙ ap (drop 1) d ∙ drop-drop 1 a l₀)

module _ (t : Table) (l : List ℕ) where
  -- R33, R84: a buffer that is too short stays as it is
  pub store_short : (x : Refusal) → x ≡ refusal 13 0 → length l < 298 → (Err x ≡ store_of (length l)) × (l ≡ stored_in t l)
  store_short x e h = (ap Err e ∙ sym (no_room (length l) h), sym (stored_not t l h))

  -- R84: the image stands in front, and the bytes after it stay
  pub store_whole : (m : List ℕ) → 298 ≤ length l → m ≡ image_of t ++ drop 298 l → (Ok 298 ≡ store_of (length l)) × (m ≡ stored_in t l)
  store_whole m h e = (sym (has_room (length l) h), e ∙ sym (stored_is t l h))
