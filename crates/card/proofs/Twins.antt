-- A card and its twin, R72: as long as each other, and read alike, whatever the bytes.
use Rattle.std.specs.Prelude.{Option, None, Some, Ok, Err}
use mathlib.Core.Path.{◌≡◌, refl, sym, ap, ap₂, ◌∙◌}
use mathlib.Core.List.{List, [], ◌∷◌, ◌++◌, append-nil, map}
use mathlib.Core.Bool.{Bool, true, false}
use Prim.Native.Nat.{ℕ, zero, suc, ◌+◌, ◌≤◌, ◌<◌}
use native.Mathlib.Omega.{arith}
use native.Mathlib.Decide.{dec_lt}
use lib.ListN.{length, take, drop, replicate, length-append, length-take, length-drop, drop_of_length-le}
use lib.Seq.{take_at, take_all, drop_at}
use lib.Dec.{leb, eqb}
use Rattle.line.specs.declared.Slot as line-slot
use Rattle.line.specs.Slots.{pick, both}
use Rattle.table.specs.Words.{table_with, request_with, Said}
use Rattle.card.specs.declared.Mark.{Mark}
use Rattle.card.specs.declared.SlotRecord.{SlotRecord}
use Rattle.card.specs.declared.Record.{Record}
use Rattle.card.specs.declared.Record.TheVariants.{Slot, Last}
use Rattle.card.specs.Bytes.{Bytes, value, marked}
use Rattle.card.specs.Layout.{CK, is_free, clock_at, mark_length, clock_length, line_length, last_length, record_length}
use Rattle.card.specs.Marked.{record_with, free, record_bytes, Fitting, line_of, slot_for, entry_for, line_record, twin, Records, saying}
use Rattle.card.specs.Card.{carrying}
use Rattle.card.specs.Reading.{record_of, put_in_front, ending, closing, broken, records_of, meaning, read_with}
use Rattle.card.specs.Twin.{is_old, twin_step, twin_from, twin_with}
use Rattle.card.proofs.Numbers.{bytes_drop}
use Rattle.card.proofs.Records.{at_slot, slot_unknown, Stands, stands, bytes_length}
use Rattle.card.proofs.Steps.{records_slot, records_last, records_refused}
use Rattle.card.proofs.Passed.{reads_record}
use Rattle.card.proofs.Prefix.{marked_take, value_take}

-- ---- one record

-- R58: the twin of a record that is not TA is itself
pub twin_new : (r : SlotRecord) → is_old r ≡ false → twin r ≡ r
twin_new r e = ap (λ (o : Bool). pick o (line_record (line_of Mark.TA r) r.stretched) r) e

-- R58: the twin's numbers fit too
pub twin_fits : (r : SlotRecord) → Fitting r → Fitting (twin r)
twin_fits r f = go r.mark r.need r.period r.stretched r.fourth r.fifth f
  where
    go : (m : Mark) (C T t x y : ℕ) → Fitting (record_with m C T t x y) → Fitting (twin (record_with m C T t x y))
    go Mark.TA C T t x y f = (f.0, f.1, f.2, f.4, f.3)
    go Mark.TB C T t x y f = f
    go Mark.TF C T t x y f = f
    go Mark.TL C T t x y f = f

-- R72: it stands for the same slot, with the same entry, and has numbers or none as the record has
pub record Alike (r : SlotRecord) : Type 0 where
  pub slot : slot_for (twin r) ≡ slot_for r
  pub entry : entry_for (twin r) ≡ entry_for r
  pub free_too : is_free (twin r).mark ≡ is_free r.mark

-- whatever the record
pub alike : (r : SlotRecord) → Alike r
alike r = go r.mark r.need r.period r.stretched r.fourth r.fifth
  where
    go : (m : Mark) (C T t x y : ℕ) → Alike (record_with m C T t x y)
    go Mark.TA C T t x y = record { slot = refl; entry = refl; free_too = refl }
    go Mark.TB C T t x y = record { slot = refl; entry = refl; free_too = refl }
    go Mark.TF C T t x y = record { slot = refl; entry = refl; free_too = refl }
    go Mark.TL C T t x y = record { slot = refl; entry = refl; free_too = refl }

-- it is as long
length_twin : (r : SlotRecord) → record_length (twin r).mark ≡ record_length r.mark
length_twin r = ap (λ (o : Bool). pick o mark_length line_length) (alike r).free_too

-- ---- lengths

from_length : (n : ℕ) (l : List ℕ) → length (twin_from n l) ≡ length l
unfolding twin_from
from_length zero l = refl
from_length (suc n) l = go (record_of (suc n) l) (stands (suc n) l) (λ w. from_length n (drop w l))
  where
    go : (r : Option Record) → Stands (suc n) l r → ((w : ℕ) → length (twin_from n (drop w l)) ≡ length (drop w l)) → length (twin_step l (twin_from n) r) ≡ length l
    go (Some (Slot r)) s x =
        let w = record_length r.mark in
        omega (
          arith,
          length-append (record_bytes (twin r)) (twin_from n (drop w l)),
          bytes_length (twin r),
          length_twin r,
          x w,
          length-drop w l,
          s.1,
        )
    go (Some (Last c t)) s x = refl
    go None s x = refl

-- R72: a card's twin is as long as the card
pub twin_length : (n : ℕ) (l : List ℕ) → length (twin_with n l) ≡ length l
unfolding twin_with
twin_length n l =
    omega (
      arith,
      length-append (take clock_length l) (twin_from n (drop clock_length l)),
      from_length n (drop clock_length l),
      length-take clock_length l,
      length-drop clock_length l,
    )

-- ---- reading

-- what was read, with each record's twin in its place
abbrev twins : Said Records → Said Records
twins (Ok m) = Ok (saying m.clock (map twin m.slots) m.need m.period)
twins (Err r) = Err r

twins_front : (r : SlotRecord) (s : Said Records) → put_in_front (twin r ∷ []) (twins s) ≡ twins (put_in_front (r ∷ []) s)
twins_front r (Ok m) = refl
twins_front r (Err x) = refl

twins_free : (n : ℕ) → map twin (replicate n free) ≡ replicate n free
twins_free zero = refl
twins_free (suc n) = ap (λ (x : List SlotRecord). free ∷ x) (twins_free n)

twins_closing : (k left : ℕ) (gap : Bool) (at b c t : ℕ) → closing gap at b (ending k left c t) ≡ twins (closing gap at b (ending k left c t))
twins_closing k left true at b c t = refl
twins_closing k left false at b c t = go (eqb b last_length)
  where
    go : (o : Bool) → pick o (Ok (ending k left c t)) (broken (at + last_length)) ≡ twins (pick o (Ok (ending k left c t)) (broken (at + last_length)))
    go true = sym (ap (λ (x : List SlotRecord). Ok (saying k x c t)) (twins_free left))
    go false = refl

-- R72: the twin's records are the twins of the records
records_twin : (k n : ℕ) (gap : Bool) (at : ℕ) (l : List ℕ) → Bytes l → records_of k n gap at (twin_from n l) ≡ twins (records_of k n gap at l)
unfolding twin_from
records_twin k zero gap at l b = go (record_of 0 l) refl (stands 0 l)
  where
    go : (r : Option Record) → record_of 0 l ≡ r → Stands 0 l r → records_of k 0 gap at l ≡ twins (records_of k 0 gap at l)
    go (Some (Slot r)) e s = absurd (omega (arith, s.0))
    go (Some (Last c t)) e s = let z = records_last k 0 gap at l c t e in z ∙ twins_closing k 0 gap at (length l) c t ∙ ap twins (sym z)
    go None e s = let z = records_refused k 0 gap at l e in z ∙ ap twins (sym z)
records_twin k (suc n) gap at l b = go (record_of (suc n) l) refl (stands (suc n) l) (λ g a w. records_twin k n g a (drop w l) (bytes_drop w l b))
  where
    go : (r : Option Record) → record_of (suc n) l ≡ r → Stands (suc n) l r
        → ((g : Bool) (a w : ℕ) → records_of k n g a (twin_from n (drop w l)) ≡ twins (records_of k n g a (drop w l)))
        → records_of k (suc n) gap at (twin_step l (twin_from n) r) ≡ twins (records_of k (suc n) gap at l)
    go (Some (Slot r)) e s x =
        let w = record_length r.mark in
        reads_record k n gap at (twin r) (twin_from n (drop w l)) (twin_fits r (s.2 b).1)
        ∙ ap₂ (λ (o : Bool) (x : ℕ). put_in_front (twin r ∷ []) (records_of k n o (at + x) (twin_from n (drop w l)))) (alike r).free_too (length_twin r)
        ∙ ap (put_in_front (twin r ∷ [])) (x (is_free r.mark) (at + w) w)
        ∙ twins_front r (records_of k n (is_free r.mark) (at + w) (drop w l))
        ∙ ap twins (sym (records_slot k n gap at l r e))
    go (Some (Last c t)) e s x = let z = records_last k (suc n) gap at l c t e in z ∙ twins_closing k (suc n) gap at (length l) c t ∙ ap twins (sym z)
    go None e s x = let z = records_refused k (suc n) gap at l e in z ∙ ap twins (sym z)

same_slots : (rs : List SlotRecord) → (map slot_for (map twin rs) ≡ map slot_for rs) × (map entry_for (map twin rs) ≡ map entry_for rs)
same_slots [] = (refl, refl)
same_slots (r ∷ rs) =
    let i = same_slots rs in
    let a = alike r in
    (ap₂ (λ (x : line-slot.Slot) (y : List line-slot.Slot). x ∷ y) a.slot i.0, ap₂ (λ (x : ℕ) (y : List ℕ). x ∷ y) a.entry i.1)

-- R72: twins mean the same table and request
means_twin : (s : Said Records) → meaning (twins s) ≡ meaning s
means_twin (Ok m) =
    let a = same_slots m.slots in
    ap₂ (λ (x : List line-slot.Slot) (y : List ℕ). Ok (carrying (table_with m.clock x) (request_with y m.need m.period))) a.0 a.1
means_twin (Err r) = refl

from_nothing : (n : ℕ) → twin_from n [] ≡ []
unfolding twin_from marked
from_nothing zero = refl
from_nothing (suc n) = ap (twin_step [] (twin_from n)) (at_slot (suc n) [] refl (omega arith) ∙ slot_unknown [] refl refl refl refl)

module _ (n : ℕ) (l : List ℕ) (b : Bytes l) where
  -- what stands behind the clock's record in the twin
  abbrev rest : List ℕ
  rest = twin_from n (drop clock_length l)

  -- too few bytes for the clock's record: the twin is the card
  twin_short : length l < clock_length → twin_with n l ≡ l
  unfolding twin_with
  twin_short h =
      ap₂ (λ (x y : List ℕ). x ++ y) (take_all clock_length l (omega arith))
      (ap (twin_from n) (drop_of_length-le l {i = clock_length} (omega arith)) ∙ from_nothing n)
      ∙ append-nil l

  -- else the clock's record is the card's, and the records behind it are the twins of the card's
  twin_whole : clock_length ≤ length l → read_with n (twin_with n l) ≡ read_with n l
  unfolding twin_with read_with
  twin_whole h =
      let x = take clock_length l ++ rest in
      let p : length (take clock_length l) ≡ clock_length = omega (arith, length-take clock_length l) in
      let front : take clock_length x ≡ take clock_length l = take_at (take clock_length l) rest clock_length p in
      let long : leb clock_length (length x) ≡ leb clock_length (length l) = ap (leb clock_length) (twin_length n l) in
      let opens : marked CK x ≡ marked CK l =
      sym (marked_take CK clock_length x (omega arith)) ∙ ap (marked CK) front ∙ marked_take CK clock_length l (omega arith) in
      let clock : value 8 x clock_at ≡ value 8 l clock_at =
      sym (value_take 8 clock_length x clock_at (omega arith)) ∙ ap (λ (y : List ℕ). value 8 y clock_at) front ∙ value_take 8 clock_length l clock_at (omega arith) in
      let behind : drop clock_length x ≡ rest = drop_at (take clock_length l) rest clock_length p in
      rw (long, opens, clock, behind, records_twin (value 8 l clock_at) n false clock_length (drop clock_length l) (bytes_drop clock_length l b))
      (go (both (leb clock_length (length l)) (marked CK l)) (records_of (value 8 l clock_at) n false clock_length (drop clock_length l)))
    where
      go : (o : Bool) (s : Said Records) → meaning (pick o (twins s) (broken 0)) ≡ meaning (pick o s (broken 0))
      go true s = means_twin s
      go false s = refl

  -- R72: a card's twin reads as the card does, or is refused as it is
  pub twin_reads : read_with n (twin_with n l) ≡ read_with n l
  twin_reads = elim (dec_lt (length l) clock_length) [ yes h ↦ ap (read_with n) (twin_short h) | no h ↦ twin_whole (omega arith) ]
