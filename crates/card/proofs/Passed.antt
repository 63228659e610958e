-- Whole records are passed, whatever their marks, and what follows is read from there on (R54).
use Rattle.std.specs.Prelude.{Ok}
use mathlib.Core.Path.{◌≡◌, refl, sym, ap, ◌∙◌}
use mathlib.Core.List.{List, [], ◌∷◌, ◌++◌, append_assoc}
use mathlib.Core.Bool.{Bool, true, false}
use Prim.Native.Nat.{ℕ, suc, ◌+◌, ◌<◌}
use native.Mathlib.Omega.{arith}
use native.Mathlib.Nat.{zero-add, add-zero, suc-add}
use lib.ListN.{length, length-append}
use lib.Seq.{drop_at}
use Rattle.card.specs.declared.SlotRecord.{SlotRecord}
use Rattle.card.specs.Bytes.{le}
use Rattle.card.specs.Layout.{CK, is_free, clock_length, record_length}
use Rattle.card.specs.Marked.{record_bytes, Fitting}
use Rattle.card.specs.Card.{clock_record, request_record}
use Rattle.card.specs.Reading.{put_in_front, ending, records_of, records_with}
use Rattle.card.proofs.Numbers.{value_le}
use Rattle.card.proofs.Marks.{marked_here}
use Rattle.card.proofs.Records.{sees_record, sees_last, bytes_length}
use Rattle.card.proofs.Steps.{reads_clock, records_slot, records_last, in_front_twice, in_front_nothing}

-- a card that opens with the clock's record
pub after_clock : (n k : ℕ) (x : List ℕ) → k < 18446744073709551616 → records_with n (clock_record k ++ x) ≡ records_of k n false clock_length x
after_clock n k x h =
    reads_clock n (clock_record k ++ x) (omega arith) (marked_here CK (le 8 k ++ x))
    ∙ ap (λ (v : ℕ). records_of v n false clock_length x) (value_le 8 k x h)

-- R53: a slot's record is one slot more
pub reads_record : (k n : ℕ) (gap : Bool) (at : ℕ) (r : SlotRecord) (x : List ℕ) → Fitting r
    → records_of k (suc n) gap at (record_bytes r ++ x)
    ≡ put_in_front (r ∷ []) (records_of k n (is_free r.mark) (at + record_length r.mark) x)
reads_record k n gap at r x f =
    records_slot k n gap at (record_bytes r ++ x) r (sees_record (suc n) r x (omega arith) f)
    ∙ ap (λ (y : List ℕ). put_in_front (r ∷ []) (records_of k n (is_free r.mark) (at + record_length r.mark) y))
    (drop_at (record_bytes r) x (record_length r.mark) (bytes_length r))

-- R54, R55: RQ where no TF stands before it ends the card
pub reads_last : (k c n : ℕ) → c < 65536 → n < 65536 → (left : ℕ) (gap : Bool) (at : ℕ) → (gap ≡ true → ⊥)
    → records_of k left gap at (request_record c n) ≡ Ok (ending k left c n)
reads_last k c n hc hn left true at g = absurd (g refl)
reads_last k c n hc hn left false at g = records_last k left false at (request_record c n) c n (sees_last left c n [] hc hn)

-- the last record before was TF
abbrev pub after_free : Bool → List SlotRecord → Bool
after_free gap [] = gap
after_free gap (r ∷ rs) = after_free (is_free r.mark) rs

-- the bytes of all these records
abbrev pub all_bytes : List SlotRecord → List ℕ
all_bytes [] = []
all_bytes (r ∷ rs) = record_bytes r ++ all_bytes rs

-- the numbers of all of them fit
abbrev pub AllFitting : List SlotRecord → Type 0
AllFitting [] = Unit {0}
AllFitting (r ∷ rs) = Fitting r × AllFitting rs

-- R54: whole records are passed
pub passed : (k left : ℕ) (x : List ℕ) (rs : List SlotRecord) (gap : Bool) (at : ℕ) → AllFitting rs
    → records_of k (length rs + left) gap at (all_bytes rs ++ x)
    ≡ put_in_front rs (records_of k left (after_free gap rs) (at + length (all_bytes rs)) x)
passed k left x [] gap at f = rw (zero-add, add-zero) (sym (in_front_nothing (records_of k left gap at x)))
passed k left x (r ∷ rs) gap at f =
    let g = after_free (is_free r.mark) rs in
    let e : at + record_length r.mark + length (all_bytes rs) ≡ at + length (record_bytes r ++ all_bytes rs) =
    omega (arith, bytes_length r, length-append (record_bytes r) (all_bytes rs)) in
    rw suc-add
    (ap (records_of k (suc (length rs + left)) gap at) (append_assoc (record_bytes r) (all_bytes rs) x)
    ∙ reads_record k (length rs + left) gap at r (all_bytes rs ++ x) f.0
    ∙ ap (put_in_front (r ∷ [])) (passed k left x rs (is_free r.mark) (at + record_length r.mark) f.1)
    ∙ in_front_twice (r ∷ []) rs (records_of k left g (at + record_length r.mark + length (all_bytes rs)) x)
    ∙ ap (λ (a : ℕ). put_in_front (r ∷ rs) (records_of k left g a x)) e)
