-- One record further: the reading of the records by what stands in front.
use Rattle.std.specs.Prelude.{None, Some, Ok, Err}
use mathlib.Core.Path.{◌≡◌, refl, sym, ap, ap₂, ◌∙◌}
use mathlib.Core.List.{List, [], ◌∷◌, ◌++◌, append_assoc}
use mathlib.Core.Bool.{Bool, true, false}
use Prim.Native.Nat.{ℕ, zero, suc, ◌+◌, ◌≤◌, ◌<◌}
use lib.ListN.{length, drop}
use lib.Dec.{leb}
use borrow.Author.Tests.{le-leb, lt-leb}
use Rattle.line.specs.Slots.{pick, both}
use Rattle.line.proofs.Sound.{both_false}
use Rattle.table.specs.Words.{Said}
use Rattle.card.specs.declared.SlotRecord.{SlotRecord}
use Rattle.card.specs.declared.Record.TheVariants.{Slot, Last}
use Rattle.card.specs.Bytes.{value, marked}
use Rattle.card.specs.Layout.{CK, is_free, clock_at, clock_length, record_length}
use Rattle.card.specs.Marked.{Records, saying}
use Rattle.card.specs.Reading.{put_in_front, ending, closing, broken, step, record_of, records_of, records_with}

-- R54: CK opens the card, and the records follow it
pub reads_clock : (n : ℕ) (l : List ℕ) → clock_length ≤ length l → marked CK l ≡ true
    → records_with n l ≡ records_of (value 8 l clock_at) n false clock_length (drop clock_length l)
reads_clock n l h e =
    ap₂ (λ (o u : Bool). pick (both o u) (records_of (value 8 l clock_at) n false clock_length (drop clock_length l)) (broken 0))
    (le-leb clock_length (length l) h) e

-- R31, R57: another mark than CK opens the card
pub clock_missing : (n : ℕ) (l : List ℕ) → marked CK l ≡ false → records_with n l ≡ broken 0
clock_missing n l h =
    ap (λ (u : Bool). pick u (records_of (value 8 l clock_at) n false clock_length (drop clock_length l)) (broken 0))
    (ap (both (leb clock_length (length l))) h ∙ both_false (leb clock_length (length l)))

-- R57: too few bytes for the clock's record
pub clock_cut : (n : ℕ) (l : List ℕ) → length l < clock_length → records_with n l ≡ broken 0
clock_cut n l h =
    ap (λ (o : Bool). pick (both o (marked CK l)) (records_of (value 8 l clock_at) n false clock_length (drop clock_length l)) (broken 0))
    (lt-leb clock_length (length l) h)

-- R53: a slot's record
pub records_slot : (k n : ℕ) (gap : Bool) (at : ℕ) (l : List ℕ) (r : SlotRecord) → record_of (suc n) l ≡ Some (Slot r)
    → records_of k (suc n) gap at l
    ≡ put_in_front (r ∷ []) (records_of k n (is_free r.mark) (at + record_length r.mark) (drop (record_length r.mark) l))
unfolding records_of
records_slot k n gap at l r e = ap (step k (suc n) gap at l (records_of k n)) e

-- R54: RQ
pub records_last : (k n : ℕ) (gap : Bool) (at : ℕ) (l : List ℕ) (c t : ℕ) → record_of n l ≡ Some (Last c t)
    → records_of k n gap at l ≡ closing gap at (length l) (ending k n c t)
unfolding records_of
records_last k zero gap at l c t e = ap (step k 0 gap at l (λ g a x. broken at)) e
records_last k (suc n) gap at l c t e = ap (step k (suc n) gap at l (records_of k n)) e

-- R57: no record can be read
pub records_refused : (k n : ℕ) (gap : Bool) (at : ℕ) (l : List ℕ) → record_of n l ≡ None → records_of k n gap at l ≡ broken at
unfolding records_of
records_refused k zero gap at l e = ap (step k 0 gap at l (λ g a x. broken at)) e
records_refused k (suc n) gap at l e = ap (step k (suc n) gap at l (records_of k n)) e

-- what was read before is put in front once
pub in_front_twice : (rs xs : List SlotRecord) (s : Said Records) → put_in_front rs (put_in_front xs s) ≡ put_in_front (rs ++ xs) s
in_front_twice rs xs (Ok m) =
    ap (λ (x : List SlotRecord). Ok (saying m.clock x m.need m.period)) (sym (append_assoc rs xs m.slots))
in_front_twice rs xs (Err r) = refl

-- nothing in front changes nothing
pub in_front_nothing : (s : Said Records) → put_in_front [] s ≡ s
in_front_nothing (Ok m) = refl
in_front_nothing (Err r) = refl
