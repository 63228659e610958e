-- Which byte is wrong (R83): of one slot, of the slots, and of the whole image.
use Rattle.std.specs.Prelude.{Ok, Err, Option, None, Some, MatchOption, slice_get}
use Rattle.std.specs.Bool.{MatchBool, then_some}
use Rattle.std.specs.List.{AllWithin, range_with_len}
use Rattle.std.proofs.lemmas.List.FromFn.{length-range_with_len, get_or-range_with_len}
use mathlib.Core.Path.{◌≡◌, refl, sym, ap, ap₂, ◌∙◌}
use mathlib.Core.List.{List, [], ◌∷◌}
use mathlib.Core.Bool.{Bool, true, false, not}
use Prim.Native.Nat.{ℕ, zero, suc, ◌+◌, ◌*◌, ◌-◌, ◌≤◌, ◌<◌, min}
use native.Mathlib.Omega.{arith}
use native.Mathlib.Decide.{dec_lt, ℕ_discrete}
use native.Mathlib.Nat.{sub-zero}
use lib.ListN.{length, take, drop, get_or, drop_of_length-le}
use lib.Seq.{drop-drop}
use lib.Dec.{eqb, leb, ltb}
use borrow.Author.Tests.{ltb-true, eqb-true, not-true, not-false, eq-eqb, ne_eqb, le-leb, lt-leb, lt-ltb, le-ltb}
use Rattle.line.specs.declared.Follows.{Follows}
use Rattle.line.specs.Slots.{or_else}
use Rattle.line.proofs.Sound.{both_false}
use Rattle.line.proofs.Search.{Looking, look_stop, look_end, lowest_found, lowest_below, none_found}
use Rattle.table.specs.declared.Table.{Table}
use Rattle.table.specs.declared.Refusal.{Refusal}
use Rattle.table.specs.Words.{refusal}
use Rattle.image.proofs.RunKinds.{run_blank}
use Rattle.image.proofs.Eight.{fourth}
use Rattle.image.proofs.Series.{next_drop}
use Rattle.image.proofs.WritesBack.{nothing_wrong}
use Rattle.image.specs.Image.{version, size, run_kind}
use Rattle.card.specs.Bytes.{Bytes, value}
use Rattle.card.proofs.Parts.{part_all}
use Rattle.image.specs.Loading.{byte, blank_from, is_wrong, slot_wrong, on_by, slots_wrong, version_wrong, length_wrong, wrong_in, table_in, unless_wrong, load_with}

module _ (k : ℕ) where
  -- R83: after kind 0 nothing stands
  pub blank_nothing : k ≡ 0 → (1 ≡ blank_from k) × (1 ≤ 9)
  unfolding blank_from
  blank_nothing e = (rw e, omega arith)

  -- R83: after kind 1 or 3 every byte is a line's
  pub blank_running : (f : Follows) → k ≡ run_kind f → (9 ≡ blank_from k) × (9 ≤ 9)
  blank_running f e = (sym (ap blank_from e ∙ run_blank f), omega arith)

  -- R83: after kind 2 six are
  pub blank_waiting : k ≡ 2 → (7 ≡ blank_from k) × (7 ≤ 9)
  unfolding blank_from
  blank_waiting e = (rw e, omega arith)

  -- R83: there is no other kind
  pub blank_other : 4 ≤ k → (0 ≡ blank_from k) × (0 ≤ 9)
  unfolding blank_from
  blank_other h =
      (rw (ne_eqb k 0 (λ e. omega arith), ne_eqb k 1 (λ e. omega arith), ne_eqb k 2 (λ e. omega arith), ne_eqb k 3 (λ e. omega arith)), omega arith)

past : (l : List ℕ) (i : ℕ) → length l ≤ i → get_or l i 0 ≡ 0
past [] i h = refl
past (x ∷ l) zero h = absurd (omega arith)
past (x ∷ l) (suc i) h = past l i (omega arith)

-- a byte that is 0, or not there, is not wrong
zero_right : (l : List ℕ) (i : ℕ) → byte l i ≡ 0 → is_wrong l i ≡ false
zero_right l i e = rw (le-ltb 0 (byte l i) (omega arith), both_false (leb (blank_from (byte l 0)) i))

-- the byte in front, as the code looks at it
pub no_first : (l : List ℕ) → None ≡ slice_get l 0 → length l ≤ 0
no_first [] e = omega arith
no_first (x ∷ l) e = cc

pub first_is : (l : List ℕ) {b : ℕ} → Some b ≡ slice_get l 0 → b ≡ byte l 0
first_is [] e = cc
first_is (x ∷ l) e = cc

-- R83: where no byte is there, none is wrong
pub none_there : (l : List ℕ) → length l ≤ 0 → None ≡ slot_wrong l
none_there l h = sym (none_found (is_wrong l) 9 (λ k p. zero_right l k (past l k (omega arith))))

-- R83: before the first byte that must be 0 none is wrong
pub pass_start : (l : List ℕ) {i : ℕ} → i ≡ blank_from (byte l 0) → i ≤ 9 → (blank_from (byte l 0) ≤ i) × Looking (is_wrong l) 9 i
pass_start l e h = (omega arith, record { upto = h; passed = λ k p. rw (lt-leb (blank_from (byte l 0)) k (omega arith)) })

-- a search among the bytes of the slot in front that has passed those below i
module _ (l : List ℕ) {i : ℕ} (from : blank_from (byte l 0) ≤ i) (looking : Looking (is_wrong l) 9 i) where
  -- R83: the first that is not 0 is the lowest wrong one
  pub pass_stop : i < 9 → (byte l i ≡ 0 → ⊥) → Some i ≡ slot_wrong l
  pass_stop h e = sym (look_stop looking h (rw (le-leb (blank_from (byte l 0)) i from, lt-ltb 0 (byte l i) (omega arith))))

  -- R83: after the nine bytes none is wrong
  pub pass_end : 9 ≤ i → None ≡ slot_wrong l
  pass_end h = sym (look_end looking h)

  -- R83: nor where the image ends
  pub pass_cut : length l ≤ i → None ≡ slot_wrong l
  pass_cut h =
      sym (none_found (is_wrong l) 9 (λ k p. elim (dec_lt k i) [
        | yes q ↦ looking.passed k q
        | no q ↦ zero_right l k (past l k (omega arith))
      ]))

-- R83: a search from the first byte that must be 0 to the last that is there finds the lowest wrong one
pub searched : (l : List ℕ) {a b : ℕ} (r : Option ℕ) → a ≡ blank_from (byte l 0) → b ≡ min (length l) 9
    → MatchOption r ((k : ℕ) → a ≤ k → k < b → byte l k ≡ 0) (λ i. (a ≤ i) × (i < b) × (byte l i ≡ 0 → ⊥) × ((k : ℕ) → a ≤ k → k < i → byte l k ≡ 0)) → r ≡ slot_wrong l
searched l {a} {b} r ea eb m = go r m
  where
    passed : (k : ℕ) → (a ≤ k → k < length l → byte l k ≡ 0) → is_wrong l k ≡ false
    passed k z =
        elim (dec_lt k a) [
          | yes q ↦ rw (lt-leb (blank_from (byte l 0)) k (omega arith))
          | no q ↦ elim (dec_lt k (length l)) [ yes h ↦ zero_right l k (z (omega arith) h) | no h ↦ zero_right l k (past l k (omega arith)) ]
        ]

    go : (o : Option ℕ) → MatchOption o ((k : ℕ) → a ≤ k → k < b → byte l k ≡ 0) (λ i. (a ≤ i) × (i < b) × (byte l i ≡ 0 → ⊥) × ((k : ℕ) → a ≤ k → k < i → byte l k ≡ 0))
        → o ≡ slot_wrong l
    go None z = sym (none_found (is_wrong l) 9 (λ k p. passed k (λ f h. z k f (omega arith))))
    go (Some i) v =
        let n : 0 < byte l i = elim (dec_lt 0 (byte l i)) [ yes h ↦ h | no h ↦ absurd (v.2 (omega arith)) ] in
        sym (lowest_found (is_wrong l) 9 (omega (arith, v.1)) (rw (le-leb (blank_from (byte l 0)) i (omega (arith, v.0)), lt-ltb 0 (byte l i) n))
        (λ k p. passed k (λ f h. v.3 k f p)))

-- ---- a slot at one look

value_zero : (n : ℕ) (l : List ℕ) (at : ℕ) → value n l at ≡ 0 → (k : ℕ) → k < n → get_or l (at + k) 0 ≡ 0
value_zero zero l at e k h = absurd (omega arith)
value_zero (suc n) l at e zero h = let z : at + 0 ≡ at = omega arith in rw z (omega arith)
value_zero (suc n) l at e (suc k) h =
    let z : at + suc k ≡ suc at + k = omega arith in
    rw z (value_zero n l (suc at) (omega arith) k (omega arith))

-- zeros from where they must be on
zeros_right : (l : List ℕ) → ((i : ℕ) → blank_from (byte l 0) ≤ i → i < 9 → byte l i ≡ 0) → slot_wrong l ≡ None
zeros_right l z =
    none_found (is_wrong l) 9 (λ k p. elim (dec_lt k (blank_from (byte l 0))) [
      | yes q ↦ rw (lt-leb (blank_from (byte l 0)) k q)
      | no q ↦ zero_right l k (z k (omega arith) p)
    ])

module _ (l : List ℕ) where
  -- R83: nothing stands after kind 0
  pub right_nothing : byte l 0 ≡ 0 → {v : ℕ} → v ≡ value 8 l 1 → {b : Bool} → b ≡ eqb v 0 → b ≡ true → slot_wrong l ≡ None
  right_nothing k {v} e f t =
      zeros_right l (λ i h p.
      let f0 = blank_nothing (byte l 0) k in
      let z : get_or l (1 + (i - 1)) 0 ≡ 0 = value_zero 8 l 1 (sym e ∙ eqb-true v 0 (sym f ∙ t)) (i - 1) (omega arith) in
      let j : i ≡ 1 + (i - 1) = omega (arith, f0.0) in
      rw j z)

  -- R83: after kind 2 six bytes are a line's, and the last two are none's
  pub right_waiting : byte l 0 ≡ 2 → Bytes l → {v : ℕ} → v ≡ value 8 l 1 → {b : Bool} → b ≡ ltb v 281474976710656 → b ≡ true → slot_wrong l ≡ None
  right_waiting k bs {v} e f t =
      zeros_right l (λ i h p.
      let f0 = blank_waiting (byte l 0) k in
      let w : value 2 l 7 ≡ 0 = omega (arith, fourth l bs e, ltb-true v 281474976710656 (sym f ∙ t)) in
      let z : get_or l (7 + (i - 7)) 0 ≡ 0 = value_zero 2 l 7 w (i - 7) (omega (arith, f0.0)) in
      let j : i ≡ 7 + (i - 7) = omega (arith, f0.0) in
      rw j z)

-- no slot of an image that has ended is wrong
ended : (n at : ℕ) → slots_wrong n at [] ≡ None
unfolding slots_wrong
ended zero at = refl
ended (suc n) at = rw (sym (none_there [] (omega arith))) (ended n (at + 9))

-- the slots below k are right, and what is wrong with the others is what is wrong with all
pub record Judged (n : ℕ) (l : List ℕ) (k : ℕ) : Type 0 where
  pub few : k ≤ n
  pub left : slots_wrong (n - k) (9 + 9 * k) (drop (9 + 9 * k) l) ≡ slots_wrong n 9 (drop 9 l)

-- before the first slot none is judged
pub judge_start : (n : ℕ) (l : List ℕ) → Judged n l 0
judge_start n l = record { few = omega arith; left = ap (λ (m : ℕ). slots_wrong m 9 (drop 9 l)) (sub-zero n) }

module _ {n : ℕ} {l : List ℕ} {k : ℕ} (v : Judged n l k) (h : k < n) where
  one : (m at : ℕ) (x : List ℕ) → m ≡ suc (n - (k + 1)) → slots_wrong m at x ≡ or_else (on_by at (slot_wrong x)) (slots_wrong (n - (k + 1)) (at + 9) (drop 9 x))
  unfolding slots_wrong
  one m at x e = rw e

  next : or_else (on_by (9 + 9 * k) (slot_wrong (drop (9 + 9 * k) l))) (slots_wrong (n - (k + 1)) (9 + 9 * k + 9) (drop 9 (drop (9 + 9 * k) l)))
      ≡ slots_wrong n 9 (drop 9 l)
  next = sym (one (n - k) (9 + 9 * k) (drop (9 + 9 * k) l) (omega arith)) ∙ v.left

  -- a slot that is right is passed
  pub judge_past : slot_wrong (drop (9 + 9 * k) l) ≡ None → Judged n l (k + 1)
  judge_past e =
      let d : 9 + 9 * k + 9 ≡ 9 + 9 * (k + 1) = omega arith in
      record {
        few = omega arith;
        left =
            ap₂ (slots_wrong (n - (k + 1))) (sym d) (sym (drop-drop 9 (9 + 9 * k) l ∙ ap (λ (j : ℕ). drop j l) d))
            ∙ ap (λ (o : Option ℕ). or_else (on_by (9 + 9 * k) o) (slots_wrong (n - (k + 1)) (9 + 9 * k + 9) (drop 9 (drop (9 + 9 * k) l)))) (sym e)
            ∙ next;
      }

  -- a wrong byte of a slot is one of its nine
  pub judge_below : (w : Option ℕ) (i : ℕ) → w ≡ slot_wrong (drop (9 + 9 * k) l) → w ≡ Some i → i < 9
  judge_below w i e q = lowest_below (is_wrong (drop (9 + 9 * k) l)) 9 (sym e ∙ q)

  -- R83: the first that is wrong has the lowest wrong byte
  pub judge_stop : (w : Option ℕ) (i : ℕ) → w ≡ slot_wrong (drop (9 + 9 * k) l) → w ≡ Some i → Some (9 + 9 * k + i) ≡ slots_wrong n 9 (drop 9 l)
  judge_stop w i e q =
      ap (λ (o : Option ℕ). or_else (on_by (9 + 9 * k) o) (slots_wrong (n - (k + 1)) (9 + 9 * k + 9) (drop 9 (drop (9 + 9 * k) l)))) (sym q ∙ e) ∙ next

  -- R83: where the image has ended no further byte is
  pub judge_cut : length l ≤ 9 + 9 * k → None ≡ slots_wrong n 9 (drop 9 l)
  judge_cut q =
      sym (ended (n - k) (9 + 9 * k)) ∙ ap (slots_wrong (n - k) (9 + 9 * k)) (sym (drop_of_length-le l {i = 9 + 9 * k} q)) ∙ v.left

-- R83: all slots are right
pub judge_end : {n : ℕ} {l : List ℕ} {k : ℕ} → Judged n l k → n ≤ k → None ≡ slots_wrong n 9 (drop 9 l)
unfolding slots_wrong
judge_end {n} {l} {k} v h =
    let z : n - k ≡ 0 = omega arith in
    sym (ap (λ (m : ℕ). slots_wrong m (9 + 9 * k) (drop (9 + 9 * k) l)) z) ∙ v.left

-- a slot's part of an image is what `drop` leaves
pub part_wrong : (l : List ℕ) (at : ℕ) → slot_wrong (take (length l - at) (drop at l)) ≡ slot_wrong (drop at l)
part_wrong l at = ap slot_wrong (part_all l at)

right_each : (n at : ℕ) (l : List ℕ) → ((i : ℕ) → i < n → slot_wrong (drop (9 * i) l) ≡ None) → slots_wrong n at l ≡ None
unfolding slots_wrong
right_each zero at l h = refl
right_each (suc n) at l h = rw (h 0 (omega arith)) (right_each n (at + 9) (drop 9 l) (λ i k. rw (next_drop 9 i l) (h (suc i) (omega arith))))

-- R83: all slots are right where each of them is, looked at by its number
pub all_right : (n : ℕ) (l : List ℕ) {r : Bool} (X : Type 0) → r ≡ true
    → MatchBool r (AllWithin (λ (k : ℕ). slot_wrong (drop (9 + 9 * k) l) ≡ None) (range_with_len 0 n) 0 (length (range_with_len 0 n))) X → slots_wrong n 9 (drop 9 l) ≡ None
all_right n l X e m =
    let v = rw e at m in
    right_each n 9 (drop 9 l) (λ i h.
    let j : get_or (range_with_len 0 n) i 0 ≡ i = omega (arith, get_or-range_with_len 0 n i 0 h) in
    rw (drop-drop (9 * i) 9 l) (rw j at (v i 0 (omega arith) (omega (arith, length-range_with_len 0 n)))))

module _ (m n : ℕ) where
  -- R83: the length that is wanted
  pub length_right : n ≡ m → None ≡ length_wrong m n
  unfolding length_wrong
  length_right e = rw (eq-eqb n m e)

  -- R83: less than that
  pub length_short : (n ≡ m → ⊥) → n < m → Some n ≡ length_wrong m n
  unfolding length_wrong
  length_short d h = rw (ne_eqb n m d, lt-ltb n m h)

  -- R83: more than that
  pub length_long : (n ≡ m → ⊥) → m ≤ n → Some m ≡ length_wrong m n
  unfolding length_wrong
  length_long d h = rw (ne_eqb n m d, le-ltb n m h)

-- R83: any other length than the one that is wanted, at the lesser of the two
pub length_tested : (m n : ℕ) → then_some (not (eqb n m)) (min n m) ≡ length_wrong m n
unfolding length_wrong
length_tested m n =
    elim (ℕ_discrete n m) [
      | yes e ↦ rw (eq-eqb n m e)
      | no d ↦ elim (dec_lt n m) [
        | yes h ↦ let e : min n m ≡ n = omega arith in rw (ne_eqb n m d, lt-ltb n m h, e)
        | no h ↦ let e : min n m ≡ m = omega arith in rw (ne_eqb n m d, le-ltb n m (omega arith), e)
      ]
    ]

-- R83: an image without a byte has no version
pub no_version : (l : List ℕ) → length l < 1 → true ≡ not (eqb (byte l 0) version)
no_version l h = rw (past l 0 (omega arith))

-- what stands where nothing was found is looked for
pub or_found : (o p : Option ℕ) {r : Option ℕ} (X : Type 0) → MatchOption o X (λ k. r ≡ Some k) → (X → r ≡ p) → r ≡ or_else o p
or_found None p X m f = f m
or_found (Some k) p X m f = m

or_assoc : (o p q : Option ℕ) → or_else (or_else o p) q ≡ or_else o (or_else p q)
or_assoc None p q = refl
or_assoc (Some k) p q = refl

module _ (n : ℕ) (l : List ℕ) where
  -- R83: the version is looked at first, then the slots, and last the length
  pub in_turn : {v w o : Option ℕ} → v ≡ version_wrong l → w ≡ or_else v (slots_wrong n 9 (drop 9 l)) → o ≡ or_else w (length_wrong (size n) (length l)) → o ≡ wrong_in n l
  unfolding wrong_in
  in_turn a b c =
      c ∙ ap (λ (x : Option ℕ). or_else x (length_wrong (size n) (length l))) (b ∙ ap (λ (x : Option ℕ). or_else x (slots_wrong n 9 (drop 9 l))) a)
      ∙ or_assoc (version_wrong l) (slots_wrong n 9 (drop 9 l)) (length_wrong (size n) (length l))

  -- the version was tested
  module _ {b : Bool} (v : b ≡ not (eqb (byte l 0) version)) where
    -- R83: the version is looked at first
    pub version_first : b ≡ true → Some 0 ≡ wrong_in n l
    unfolding wrong_in
    version_first h = rw (not-true (eqb (byte l 0) version) (sym v ∙ h))

    module _ (h : b ≡ false) {w : Option ℕ} (e : w ≡ slots_wrong n 9 (drop 9 l)) where
      -- R83: then the slots
      pub slots_then : (p : ℕ) → w ≡ Some p → w ≡ wrong_in n l
      unfolding wrong_in
      slots_then p q = rw (not-false (eqb (byte l 0) version) (sym v ∙ h), sym e, q)

      -- R83: and last the length
      pub length_last : w ≡ None → {o : Option ℕ} → o ≡ length_wrong (size n) (length l) → o ≡ wrong_in n l
      unfolding wrong_in
      length_last q k = k ∙ rw (not-false (eqb (byte l 0) version) (sym v ∙ h), sym e, q)

  -- R31, R83: what is wrong is refused at its offset
  pub load_broken : {w : Option ℕ} → w ≡ wrong_in n l → (p : ℕ) (r : Refusal) → w ≡ Some p → r ≡ refusal 11 p → Err r ≡ load_with n l
  unfolding load_with
  load_broken e p r q b = ap Err b ∙ ap (λ (o : Option ℕ). unless_wrong o (table_in n l)) (sym q ∙ e)

  module _ (e : wrong_in n l ≡ None) where
    -- R83: an image that is not wrong has its length
    pub has_length : length l ≡ size n
    has_length = (nothing_wrong n l e).2

    -- R83: and it is a table
    pub load_right : (t : Table) → t ≡ table_in n l → Ok t ≡ load_with n l
    unfolding load_with
    load_right t b = ap Ok b ∙ ap (λ (o : Option ℕ). unless_wrong o (table_in n l)) (sym e)
