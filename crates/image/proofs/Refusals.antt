-- R83 in its own words: the offset refused is the lowest at which something is wrong, and nothing behind it is looked at.
use Rattle.std.specs.Prelude.{Ok, Err, Option, None, Some}
use mathlib.Core.Path.{◌≡◌, refl, sym, ap, ◌∙◌}
use mathlib.Core.List.{List}
use mathlib.Core.Bool.{Bool, true, false}
use mathlib.Core.Logic.{◌⊎◌, inl, inr, ⊎_elim}
use Prim.Native.Nat.{ℕ, zero, suc, ◌+◌, ◌*◌, ◌≤◌, ◌<◌, min}
use native.Mathlib.Omega.{arith}
use native.Mathlib.Decide.{dec_lt, ℕ_discrete}
use lib.ListN.{length, take, drop, length-take, get_or-eq_default}
use lib.Seq.{drop-drop, get_or-drop, get_or-take}
use lib.Dec.{eqb, ltb}
use borrow.Author.Tests.{ltb-true, ltb-false, leb-true, eqb-true, eqb-false, lt-ltb, le-leb}
use Rattle.line.specs.Slots.{pick, or_else}
use Rattle.line.proofs.Search.{Found, true_false, lowest_says}
use Rattle.line.proofs.Sound.{both_says}
use Rattle.table.specs.declared.Table.{Table}
use Rattle.table.specs.declared.Refusal.{Refusal}
use Rattle.table.specs.Words.{refusal}
use Rattle.image.specs.Image.{size}
use Rattle.image.specs.Loading.{byte, blank_from, is_wrong, slot_wrong, on_by, slots_wrong, version_wrong, length_wrong, wrong_in, table_in, unless_wrong, load_with}
use Rattle.image.proofs.Series.{next_drop}
use Rattle.image.proofs.WritesBack.{loads_says}
use Rattle.image.proofs.Judging.{blank_other}

-- R83: byte i of the slot in front is wrong: a kind above 3, one of the last eight of a slot that holds nothing, one of the last two of a waiting line
pub data WrongByte (l : List ℕ) (i : ℕ) : Type 0 where
  kind : i ≡ 0 → 3 < byte l 0 → WrongByte l i
  free : byte l 0 ≡ 0 → 1 ≤ i → i < 9 → 0 < byte l i → WrongByte l i
  waits : byte l 0 ≡ 2 → 7 ≤ i → i < 9 → 0 < byte l i → WrongByte l i

-- R83: something is wrong at offset p: the first byte, a byte of a slot, the length
pub data Wrong (n : ℕ) (l : List ℕ) (p : ℕ) : Type 0 where
  version : p ≡ 0 → (byte l 0 ≡ 4 → ⊥) → Wrong n l p
  slot : (k i : ℕ) → k < n → p ≡ 9 + 9 * k + i → WrongByte (drop (9 + 9 * k) l) i → Wrong n l p
  ending : (length l ≡ size n → ⊥) → p ≡ min (length l) (size n) → Wrong n l p

-- what a search for the lowest offset with P says when it gives o
abbrev pub Least : (ℕ → Type 0) → Option ℕ → Type 0
Least P None = (q : ℕ) → P q → ⊥
Least P (Some p) = P p × ((q : ℕ) → P q → p ≤ q)

-- the same search under another name
least_same : (P Q : ℕ → Type 0) (o : Option ℕ) → ((q : ℕ) → P q → Q q) → ((q : ℕ) → Q q → P q) → Least P o → Least Q o
least_same P Q None f g v = λ q h. v q (g q h)
least_same P Q (Some p) f g v = (f p v.0, λ q h. v.1 q (g q h))

-- two searches, of which the first one's offsets are the lower ones
least_or : (P Q : ℕ → Type 0) (o u : Option ℕ) → ((p q : ℕ) → P p → Q q → p ≤ q) → Least P o → Least Q u → Least (λ q. P q ⊎ Q q) (or_else o u)
least_or P Q None None h v w = λ q x. ⊎_elim (v q) (w q) x
least_or P Q None (Some p) h v w = (inr w.0, λ q x. ⊎_elim (λ a. absurd (v q a)) (w.1 q) x)
least_or P Q (Some p) u h v w = (inl v.0, λ q x. ⊎_elim (v.1 q) (h p q v.0) x)

-- a search so many bytes further on
least_on : (P : ℕ → Type 0) (k : ℕ) (o : Option ℕ) → Least P o → Least (λ q. (i : ℕ) × (q ≡ k + i) × P i) (on_by k o)
least_on P k None v = λ q x. v x.0 x.2
least_on P k (Some i) v = ((i, refl, v.0), λ q x. omega (arith, v.1 x.0 x.2, x.1))

-- R83: of a kind above 3 every byte should be 0, the kind itself too
blank_above : (k : ℕ) → 3 < k → blank_from k ≡ 0
blank_above k h = sym (blank_other k h).0

module _ (l : List ℕ) where
  is_wrong_lem : (i : ℕ) → blank_from (byte l 0) ≤ i → 0 < byte l i → is_wrong l i ≡ true
  is_wrong_lem i h b = rw (le-leb (blank_from (byte l 0)) i h, lt-ltb 0 (byte l i) b)

  -- a wrong byte is one of the nine, and the test finds it
  tested : (i : ℕ) → WrongByte l i → (i < 9) × (is_wrong l i ≡ true)
  unfolding blank_from
  tested i (kind e b) = (omega arith, is_wrong_lem i (omega (arith, blank_above (byte l 0) b)) (rw e (omega arith)))
  tested i (free e a h b) = (h, is_wrong_lem i (rw e a) b)
  tested i (waits e a h b) = (h, is_wrong_lem i (rw e a) b)

  -- the lowest byte that the test finds is a wrong one; of a kind above 3 it is the first, as that one is found
  lowest_wrong : (i : ℕ) → i < 9 → is_wrong l i ≡ true → ((j : ℕ) → j < i → is_wrong l j ≡ false) → WrongByte l i
  unfolding blank_from
  lowest_wrong i h t below =
      let v = both_says _ _ t in
      let a : blank_from (byte l 0) ≤ i = leb-true _ _ v.0 in
      let b : 0 < byte l i = ltb-true _ _ v.1 in
      elim (ℕ_discrete (byte l 0) 0) [
        | yes e ↦ free e (rw e at a) h b
        | no x ↦ elim (ℕ_discrete (byte l 0) 2) [
          | yes e ↦ waits e (rw e at a) h b
          | no y ↦ elim (ℕ_discrete (byte l 0) 1) [
            | yes e ↦ let z : 9 ≤ i = rw e at a in absurd (omega arith)
            | no z ↦ elim (ℕ_discrete (byte l 0) 3) [
              | yes e ↦ let u : 9 ≤ i = rw e at a in absurd (omega arith)
              | no u ↦ elim (dec_lt 0 i) [
                | yes p ↦ absurd (true_false (is_wrong_lem 0 (omega (arith, blank_above (byte l 0) (omega arith))) (omega arith)) (below 0 p))
                | no q ↦ kind (omega arith) (omega arith)
              ]
            ]
          ]
        ]
      ]

  -- R83: the lowest wrong byte of the slot in front
  slot_least : Least (WrongByte l) (slot_wrong l)
  slot_least = go (slot_wrong l) (lowest_says (is_wrong l) 9 refl)
    where
      go : (o : Option ℕ) → Found (is_wrong l) 9 o → Least (WrongByte l) o
      go None v = λ q w. true_false (tested q w).1 (v q (tested q w).0)
      go (Some i) v = (
        lowest_wrong i v.0 v.1 v.2,
        λ q w. elim (dec_lt q i) [ yes p ↦ absurd (true_false (tested q w).1 (v.2 q p)) | no x ↦ omega arith ],
      )

-- a wrong byte of one of n slots, the first of them in front and at an offset
abbrev InSlots : (n at : ℕ) → List ℕ → ℕ → Type 0
InSlots n at l q = (k i : ℕ) × (k < n) × (q ≡ at + 9 * k + i) × WrongByte (drop (9 * k) l) i

-- the slot in front, or one of those behind it
first_or : (n at : ℕ) (l : List ℕ) (q : ℕ)
    → ((i : ℕ) × (q ≡ at + i) × WrongByte l i) ⊎ InSlots n (at + 9) (drop 9 l) q → InSlots (suc n) at l q
first_or n at l q (inl x) = (0, x.0, omega arith, omega (arith, x.1), x.2)
first_or n at l q (inr x) =
    (suc x.0, x.1, omega (arith, x.2), omega (arith, x.3), rw (next_drop 9 x.0 l) at x.4)

or_first : (n at : ℕ) (l : List ℕ) (q k i : ℕ) → k < suc n → q ≡ at + 9 * k + i → WrongByte (drop (9 * k) l) i
    → ((j : ℕ) × (q ≡ at + j) × WrongByte l j) ⊎ InSlots n (at + 9) (drop 9 l) q
or_first n at l q zero i h e w = inl (i, omega arith, w)
or_first n at l q (suc k) i h e w =
    inr (k, i, omega arith, omega arith, rw (next_drop 9 k l) w)

-- R83: the lowest wrong byte of n slots
slots_least : (n at : ℕ) (l : List ℕ) → Least (InSlots n at l) (slots_wrong n at l)
unfolding slots_wrong
slots_least zero at l = λ q x. omega (arith, x.2)
slots_least (suc n) at l =
    least_same _ _ (slots_wrong (suc n) at l) (first_or n at l) (λ q x. or_first n at l q x.0 x.1 x.2 x.3 x.4)
    (least_or _ _ (on_by at (slot_wrong l)) (slots_wrong n (at + 9) (drop 9 l))
    (λ p q x y. omega (arith, x.1, y.3, (tested l x.0 x.2).0))
    (least_on (WrongByte l) at (slot_wrong l) (slot_least l))
    (slots_least n (at + 9) (drop 9 l)))

-- R81: a byte above 0 is there
there : (l : List ℕ) (p : ℕ) → 0 < byte l p → p < length l
there l p h = elim (dec_lt p (length l)) [ yes a ↦ a | no b ↦ omega (arith, get_or-eq_default l 0 {n = p} (omega arith)) ]

-- R83: and so is a wrong one
wrong_there : (l : List ℕ) (i : ℕ) → WrongByte l i → 0 < byte l i
wrong_there l i (kind e b) = rw e (omega arith)
wrong_there l i (free e a h b) = b
wrong_there l i (waits e a h b) = b

module _ (n : ℕ) (l : List ℕ) where
  -- R83: a wrong byte stands before the end of the bytes and before the image's
  wrong_inside : (k i : ℕ) → k < n → WrongByte (drop (9 + 9 * k) l) i → (9 + 9 * k + i < length l) × (9 + 9 * k + i < size n)
  wrong_inside k i h w =
      let b : 0 < byte l (9 + 9 * k + i) = rw (get_or-drop (9 + 9 * k) l i 0) at (wrong_there (drop (9 + 9 * k) l) i w) in
      (there l (9 + 9 * k + i) b, omega (arith, (tested (drop (9 + 9 * k) l) i w).0))

  -- R83: whatever is wrong is found within the bytes and within an image, or at their end
  pub wrong_within : (p : ℕ) → Wrong n l p → (p ≤ length l) × (p ≤ size n)
  wrong_within p (version e h) = (omega arith, omega arith)
  wrong_within p (slot k i h e w) = let v = wrong_inside k i h w in (omega (arith, v.0), omega (arith, v.1))
  wrong_within p (ending h e) = (omega arith, omega arith)

  -- the three grounds, each by itself
  abbrev OfVersion : ℕ → Type 0
  OfVersion q = (q ≡ 0) × (byte l 0 ≡ 4 → ⊥)

  abbrev OfLength : ℕ → Type 0
  OfLength q = (length l ≡ size n → ⊥) × (q ≡ min (length l) (size n))

  version_least : Least OfVersion (version_wrong l)
  version_least = go (eqb (byte l 0) 4) refl
    where
      go : (o : Bool) → eqb (byte l 0) 4 ≡ o → Least OfVersion (pick o None (Some 0))
      go true e = λ q x. x.1 (eqb-true (byte l 0) 4 e)
      go false e = ((refl, eqb-false (byte l 0) 4 e), λ q x. omega arith)

  length_least : Least OfLength (length_wrong (size n) (length l))
  unfolding length_wrong
  length_least = go (eqb (length l) (size n)) (ltb (length l) (size n)) refl refl
    where
      go : (o u : Bool) → eqb (length l) (size n) ≡ o → ltb (length l) (size n) ≡ u
          → Least OfLength (pick o None (Some (pick u (length l) (size n))))
      go true u d e = λ q x. x.0 (eqb-true (length l) (size n) d)
      go false true d e =
          let m : length l ≡ min (length l) (size n) = omega (arith, ltb-true (length l) (size n) e) in
          ((eqb-false (length l) (size n) d, m), λ q x. omega (arith, x.1))
      go false false d e =
          let m : size n ≡ min (length l) (size n) = omega (arith, ltb-false (length l) (size n) e) in
          ((eqb-false (length l) (size n) d, m), λ q x. omega (arith, x.1))

  -- the slots' bytes, counted from the first one of the image
  slot_is : (q : ℕ) → InSlots n 9 (drop 9 l) q → Wrong n l q
  slot_is q x = slot x.0 x.1 x.2 x.3 (rw (drop-drop (9 * x.0) 9 l) at x.4)

  is_slot_lem : (q k i : ℕ) → k < n → q ≡ 9 + 9 * k + i → WrongByte (drop (9 + 9 * k) l) i → InSlots n 9 (drop 9 l) q
  is_slot_lem q k i h e w = (k, i, h, e, rw (drop-drop (9 * k) 9 l) w)

  -- R83: the lowest offset at which something is wrong is what is computed
  pub wrong_least : Least (Wrong n l) (wrong_in n l)
  unfolding wrong_in
  wrong_least =
      least_same _ _ (wrong_in n l) to from
      (least_or OfVersion _ (version_wrong l) _ (λ p q x y. omega (arith, x.0)) version_least
      (least_or (InSlots n 9 (drop 9 l)) OfLength (slots_wrong n 9 (drop 9 l)) _ order (slots_least n 9 (drop 9 l)) length_least))
    where
      to : (q : ℕ) → OfVersion q ⊎ (InSlots n 9 (drop 9 l) q ⊎ OfLength q) → Wrong n l q
      to q (inl x) = version x.0 x.1
      to q (inr (inl x)) = slot_is q x
      to q (inr (inr x)) = ending x.0 x.1

      from : (q : ℕ) → Wrong n l q → OfVersion q ⊎ (InSlots n 9 (drop 9 l) q ⊎ OfLength q)
      from q (version e h) = inl (e, h)
      from q (slot k i h e w) = inr (inl (is_slot_lem q k i h e w))
      from q (ending h e) = inr (inr (h, e))

      order : (p q : ℕ) → InSlots n 9 (drop 9 l) p → OfLength q → p ≤ q
      order p q x y = let v = wrong_within p (slot_is p x) in omega (arith, v.0, v.1, y.1)

  -- R83: bytes that load have nothing wrong at any offset
  pub loaded_right : (t : Table) → load_with n l ≡ Ok t → (q : ℕ) → Wrong n l q → ⊥
  loaded_right t e = rw (loads_says n l t e).0 at wrong_least

  -- R83: and bytes that have nothing wrong load
  pub right_loaded : ((q : ℕ) → Wrong n l q → ⊥) → load_with n l ≡ Ok (table_in n l)
  unfolding load_with
  right_loaded h = go (wrong_in n l) wrong_least
    where
      go : (o : Option ℕ) → Least (Wrong n l) o → unless_wrong o (table_in n l) ≡ Ok (table_in n l)
      go None v = refl
      go (Some p) v = absurd (h p v.0)

  -- R31, R83: a refusal has the number 11 and the lowest offset at which something is wrong
  pub refused_lowest : (x : Refusal) → load_with n l ≡ Err x → (p : ℕ) × (x ≡ refusal 11 p) × Wrong n l p × ((q : ℕ) → Wrong n l q → p ≤ q)
  unfolding load_with
  refused_lowest x e = go (wrong_in n l) wrong_least e
    where
      go : (o : Option ℕ) → Least (Wrong n l) o → unless_wrong o (table_in n l) ≡ Err x
          → (p : ℕ) × (x ≡ refusal 11 p) × Wrong n l p × ((q : ℕ) → Wrong n l q → p ≤ q)
      go None v e = cc
      go (Some p) v e = (p, cc, v.0, v.1)

  -- R83: and that offset is the one refused
  pub lowest_refused : (p : ℕ) → Wrong n l p → ((q : ℕ) → Wrong n l q → p ≤ q) → load_with n l ≡ Err (refusal 11 p)
  unfolding load_with
  lowest_refused p w h = go (wrong_in n l) wrong_least
    where
      go : (o : Option ℕ) → Least (Wrong n l) o → unless_wrong o (table_in n l) ≡ Err (refusal 11 p)
      go None v = absurd (v p w)
      go (Some q) v = let e : q ≡ p = omega (arith, v.1 p w, h q v.0) in rw e

  -- R83: bytes refused at an offset are wrong there, and nowhere before it
  pub refused_at_lem : (p : ℕ) → load_with n l ≡ Err (refusal 11 p) → Wrong n l p × ((q : ℕ) → Wrong n l q → p ≤ q)
  refused_at_lem p e =
      let v = refused_lowest (refusal 11 p) e in
      let z : p ≡ v.0 = ap (λ (x : Refusal). x.place) v.1 in
      rw z (v.2, v.3)

  -- R83: an offset refused is within the bytes and within an image, or at their end
  pub refused_within : (p : ℕ) → load_with n l ≡ Err (refusal 11 p) → (p ≤ length l) × (p ≤ size n)
  refused_within p e = wrong_within p (refused_at_lem p e).0

-- bytes that agree up to offset p
module _ (n : ℕ) (l m : List ℕ) (p : ℕ) (same : (j : ℕ) → j ≤ p → byte l j ≡ byte m j) where
  -- a byte of a slot that begins at o, seen in both
  same_in : (o i : ℕ) → o + i ≤ p → byte (drop o l) i ≡ byte (drop o m) i
  same_in o i h = get_or-drop o l i 0 ∙ same (o + i) h ∙ sym (get_or-drop o m i 0)

  -- R83: a wrong byte of the one is a wrong byte of the other
  same_wrong : (o i : ℕ) → o + i ≤ p → WrongByte (drop o l) i → WrongByte (drop o m) i
  same_wrong o i h (kind e b) = kind e (rw (same_in o 0 (omega arith)) at b)
  same_wrong o i h (free e a c b) = free (sym (same_in o 0 (omega arith)) ∙ e) a c (rw (same_in o i h) at b)
  same_wrong o i h (waits e a c b) = waits (sym (same_in o 0 (omega arith)) ∙ e) a c (rw (same_in o i h) at b)

  -- R83: so what is wrong with the one up to p, before its end and an image's, is wrong with the other
  wrong_too : (q : ℕ) → q ≤ p → q < length l → q < size n → Wrong n l q → Wrong n m q
  wrong_too q h a b (version e v) = version e (λ x. v (same 0 (omega arith) ∙ x))
  wrong_too q h a b (slot k i c e w) = slot k i c e (same_wrong (9 + 9 * k) i (omega arith) w)
  wrong_too q h a b (ending c e) = absurd (omega arith)

-- R83: a wrong byte is refused whatever stands behind it: bytes that agree up to it are refused there too
pub refused_before : (n : ℕ) (l m : List ℕ) (p : ℕ) → take (p + 1) l ≡ take (p + 1) m → p < length l → p < size n
    → load_with n l ≡ Err (refusal 11 p) → load_with n m ≡ Err (refusal 11 p)
refused_before n l m p e a b r =
    let same : (j : ℕ) → j ≤ p → byte l j ≡ byte m j =
    λ j h. sym (get_or-take (p + 1) l j 0 (omega arith)) ∙ ap (λ (x : List ℕ). byte x j) e ∙ get_or-take (p + 1) m j 0 (omega arith) in
    let c : p < length m = omega (arith, length-take (p + 1) l, length-take (p + 1) m, ap length e) in
    let v = refused_at_lem n l p r in
    lowest_refused n m p (wrong_too n l m p same p (omega arith) a b v.0)
    (λ q w. elim (dec_lt q p) [
      | yes h ↦ v.1 q (wrong_too n m l p (λ j k. sym (same j k)) q (omega arith) (omega arith) (omega arith) w)
      | no h ↦ omega arith
    ])
