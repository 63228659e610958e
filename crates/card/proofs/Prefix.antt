-- A unit with n slots settles its verdict on the bytes of its longest card and one more.
use Rattle.std.specs.Prelude.{Option, None, Some, Ok}
use mathlib.Core.Path.{◌≡◌, refl, sym, ap, ap₂, ◌∙◌}
use mathlib.Core.List.{List, [], ◌∷◌}
use mathlib.Core.Bool.{Bool, true, false}
use Prim.Native.Nat.{ℕ, zero, suc, ◌+◌, ◌*◌, ◌-◌, ◌≤◌, ◌<◌}
use native.Mathlib.Omega.{arith}
use native.Mathlib.Nat.{le_of_suc-le-suc, zero-add, suc-add}
use lib.ListN.{length, take, drop, length-take}
use lib.Seq.{get_or-take, take-nil}
use lib.Dec.{leb, eqb}
use borrow.Author.Tests.{leb-true, leb-false, le-leb, lt-leb, eqb-true, eqb-false, eq-eqb, ne_eqb}
use Rattle.line.specs.Slots.{pick, both}
use Rattle.card.specs.declared.Mark.{Mark}
use Rattle.card.specs.declared.Record.{Record}
use Rattle.card.specs.declared.Record.TheVariants.{Slot, Last}
use Rattle.card.specs.Bytes.{value, marked}
use Rattle.card.specs.Layout.{CK, TB, TL, TF, TA, RQ, is_free, clock_at, need_at, period_at, stretched_at, fourth_at, fifth_at, clock_length, line_length, last_length, record_length}
use Rattle.card.specs.Marked.{Records}
use Rattle.card.specs.Reading.{line_record_of, last_of, slot_record_of, record_of, put_in_front, ending, closing, broken, step, records_of, records_with, meaning, read_with, read_of}
use Rattle.card.specs.Twin.{turned_in, turned_with, turned_of}
use Rattle.card.proofs.Length.{mark_length_lem}

-- a mark is seen in what is cut behind it
pub marked_take : (m : List ℕ) (n : ℕ) (l : List ℕ) → length m ≤ n → marked m (take n l) ≡ marked m l
unfolding marked
marked_take [] n l h = refl
marked_take (a ∷ m) zero l h = absurd (omega arith)
marked_take (a ∷ m) (suc n) [] h = refl
marked_take (a ∷ m) (suc n) (b ∷ l) h = ap (both (eqb b a)) (marked_take m n l (le_of_suc-le-suc h))

-- and so is a number
pub value_take : (w n : ℕ) (l : List ℕ) (at : ℕ) → at + w ≤ n → value w (take n l) at ≡ value w l at
value_take zero n l at h = refl
value_take (suc w) n l at h = ap₂ (λ (x y : ℕ). x + 256 * y) (get_or-take n l at 0 (omega arith)) (value_take w n l (suc at) (omega arith))

-- a test of the length below the cut
long_take : (k n : ℕ) (l : List ℕ) → k ≤ n → leb k (length (take n l)) ≡ leb k (length l)
long_take k n l h = go (leb k (length l)) refl
  where
    go : (b : Bool) → leb k (length l) ≡ b → leb k (length (take n l)) ≡ b
    go true e = le-leb k (length (take n l)) (omega (arith, length-take n l, leb-true k (length l) e))
    go false e = lt-leb k (length (take n l)) (omega (arith, length-take n l, leb-false k (length l) e))

same_take : (k n : ℕ) (l : List ℕ) → k < n → eqb (length (take n l)) k ≡ eqb (length l) k
same_take k n l h = go (eqb (length l) k) refl
  where
    go : (b : Bool) → eqb (length l) k ≡ b → eqb (length (take n l)) k ≡ b
    go true e = eq-eqb (length (take n l)) k (omega (arith, length-take n l, eqb-true (length l) k e))
    go false e =
        ne_eqb (length (take n l)) k
        (λ z. eqb-false (length l) k e (omega (arith, length-take n l)))

module _ (n : ℕ) (l : List ℕ) where
  line_take : (m : Mark) → line_length ≤ n → line_record_of m (take n l) ≡ line_record_of m l
  line_take m h =
      simp (
        long_take line_length n l h,
        value_take 2 n l need_at (omega arith),
        value_take 2 n l period_at (omega arith),
        value_take 2 n l stretched_at (omega arith),
        value_take 2 n l fourth_at (omega arith),
        value_take 2 n l fifth_at (omega arith),
      )

  last_take : last_length ≤ n → last_of (take n l) ≡ last_of l
  last_take h = simp (long_take last_length n l h, value_take 2 n l need_at (omega arith), value_take 2 n l period_at (omega arith))

  slot_take : line_length ≤ n → slot_record_of (take n l) ≡ slot_record_of l
  slot_take h =
      rw (
        line_take Mark.TB h,
        line_take Mark.TL h,
        line_take Mark.TA h,
        marked_take TB n l (omega arith),
        marked_take TL n l (omega arith),
        marked_take TF n l (omega arith),
        marked_take TA n l (omega arith),
      )

  full_take : last_length ≤ n → record_of 0 (take n l) ≡ record_of 0 l
  unfolding record_of
  full_take h = rw (last_take h, marked_take RQ n l (omega arith))

  record_take : (left : ℕ) → line_length ≤ n → record_of left (take n l) ≡ record_of left l
  unfolding record_of
  record_take left h = rw (last_take (omega arith), slot_take h, marked_take RQ n l (omega arith))

drop_take : (m n : ℕ) (l : List ℕ) → drop m (take (m + n) l) ≡ take n (drop m l)
drop_take zero n l = rw zero-add
drop_take (suc m) n [] = rw suc-add (sym (take-nil n))
drop_take (suc m) n (x ∷ l) = rw suc-add (drop_take m n l)

-- what is left behind a record is cut at what is left
behind : (w m : ℕ) (l : List ℕ) → w ≤ m → drop w (take m l) ≡ take (m - w) (drop w l)
behind w m l h =
    let e : m ≡ w + (m - w) = omega arith in
    ap (λ (k : ℕ). drop w (take k l)) e ∙ drop_take w (m - w) l

closing_take : (gap : Bool) (at n : ℕ) (l : List ℕ) (m : Records) → last_length < n → closing gap at (length (take n l)) m ≡ closing gap at (length l) m
closing_take gap at n l m h =
    ap (λ (o : Bool). pick gap (broken at) (pick o (Ok m) (broken (at + last_length)))) (same_take last_length n l (omega arith))

records_take : (k n : ℕ) (gap : Bool) (at : ℕ) (l : List ℕ) (m : ℕ) → 1 + last_length + line_length * n ≤ m
    → records_of k n gap at (take m l) ≡ records_of k n gap at l
unfolding records_of
records_take k zero gap at l m h =
    ap (step k 0 gap at (take m l) (λ g a x. broken at)) (full_take m l (omega arith)) ∙ go (record_of 0 l)
  where
    go : (r : Option Record) → step k 0 gap at (take m l) (λ g a x. broken at) r ≡ step k 0 gap at l (λ g a x. broken at) r
    go (Some (Slot r)) = refl
    go (Some (Last c t)) = closing_take gap at m l (ending k 0 c t) (omega arith)
    go None = refl
records_take k (suc n) gap at l m h =
    ap (step k (suc n) gap at (take m l) (records_of k n)) (record_take m l (suc n) (omega arith))
    ∙ go (record_of (suc n) l)
    (λ g w a u. ap (records_of k n g a) (behind w m l (omega arith)) ∙ records_take k n g a (drop w l) (m - w) (omega arith))
  where
    go : (r : Option Record) → ((g : Bool) (w a : ℕ) → w ≤ line_length → records_of k n g a (drop w (take m l)) ≡ records_of k n g a (drop w l))
        → step k (suc n) gap at (take m l) (records_of k n) r ≡ step k (suc n) gap at l (records_of k n) r
    go (Some (Slot r)) x = ap (put_in_front (r ∷ [])) (x (is_free r.mark) (record_length r.mark) (at + record_length r.mark) (mark_length_lem r.mark))
    go (Some (Last c t)) x = closing_take gap at m l (ending k (suc n) c t) (omega arith)
    go None x = refl

-- the bytes of the longest card of n slots, and one more
abbrev pub deciding : ℕ → ℕ
deciding n = clock_length + (1 + last_length + line_length * n)

-- the records are those of the first bytes, one more than the longest card has
records_by_prefix : (n : ℕ) (l : List ℕ) → records_with n (take (deciding n) l) ≡ records_with n l
records_by_prefix n l =
    let m = deciding n in
    rw (
      long_take clock_length m l (omega arith),
      marked_take CK m l (omega arith),
      value_take 8 m l clock_at (omega arith),
      behind clock_length m l (omega arith),
      records_take (value 8 l clock_at) n false clock_length (drop clock_length l) (m - clock_length) (omega arith),
    )

-- R57, R58: so is the verdict, and so are the slots whose records are TA
pub verdict_by_prefix : (n : ℕ) (l : List ℕ) → (read_with n (take (deciding n) l) ≡ read_with n l) × (turned_with n (take (deciding n) l) ≡ turned_with n l)
unfolding read_with turned_with
verdict_by_prefix n l = (ap meaning (records_by_prefix n l), ap turned_in (records_by_prefix n l))

-- R57, R58: so inputs that agree on 209 bytes get the same verdict, with the same slots
pub verdict_by_209 : (l m : List ℕ) → take 209 l ≡ take 209 m → (read_of l ≡ read_of m) × (turned_of l ≡ turned_of m)
verdict_by_209 l m e =
    let a = verdict_by_prefix 16 l in
    let b = verdict_by_prefix 16 m in
    (sym a.0 ∙ ap read_of e ∙ b.0, sym a.1 ∙ ap turned_of e ∙ b.1)
