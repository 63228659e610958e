-- How long a card is.
use Rattle.std.specs.Prelude.{None, Some, Option}
use mathlib.Core.Path.{◌≡◌}
use mathlib.Core.Bool.{Bool, true, false}
use mathlib.Core.List.{List, [], ◌∷◌}
use Prim.Native.Nat.{ℕ, zero, suc, ◌+◌, ◌*◌, ◌≤◌}
use native.Mathlib.Omega.{arith}
use lib.ListN.{length, length-append}
use Rattle.line.specs.declared.Held.{Held}
use Rattle.line.specs.declared.Slot.{Slot}
use Rattle.table.specs.declared.Table.{Table}
use Rattle.table.specs.declared.Request.{Request}
use Rattle.line.specs.Slots.{pick, is_nothing}
use Rattle.card.specs.declared.Mark.{Mark}
use Rattle.card.specs.declared.SlotRecord.{SlotRecord}
use Rattle.card.specs.Layout.{is_free, clock_length, mark_length, line_length, last_length, record_length}
use Rattle.card.specs.Marked.{record_for, recorded_bytes}
use Rattle.card.specs.Card.{slot_record, slot_records, request_record, one_more, used_from, used, card_of}
use Rattle.card.proofs.Records.{bytes_length}

-- R53: by its mark
pub mark_length_lem : (m : Mark) → record_length m ≤ line_length
mark_length_lem m = go (is_free m)
  where
    go : (o : Bool) → pick o mark_length line_length ≤ line_length
    go true = omega arith
    go false = omega arith

-- R53: no slot's record is longer than a line's
pub record_length_lem : (h : Held) (t : ℕ) → length (slot_record h t) ≤ line_length
record_length_lem h t = go (record_for h t)
  where
    go : (x : Option SlotRecord) → length (recorded_bytes x) ≤ line_length
    go (Some r) = omega (arith, bytes_length r, mark_length_lem r.mark)
    go None = omega arith

-- R53: nor the records of n slots more than n times that
pub records_length : (n : ℕ) (ss : List Slot) (ts : List ℕ) → length (slot_records n ss ts) ≤ line_length * n
records_length zero ss ts = omega arith
records_length (suc n) [] ts = omega arith
records_length (suc n) (s ∷ ss) [] =
    omega (arith, length-append (slot_record s.held 0) (slot_records n ss []), record_length_lem s.held 0, records_length n ss [])
records_length (suc n) (s ∷ ss) (t ∷ ts) =
    omega (arith, length-append (slot_record s.held t) (slot_records n ss ts), record_length_lem s.held t, records_length n ss ts)

-- R53: CK and RQ have sixteen bytes, the slots' records the rest
pub length_card : (t : Table) (q : Request) → length (card_of t q) ≡ clock_length + last_length + length (slot_records (used t.slots) t.slots q.stretched)
unfolding card_of
length_card t q = omega (arith, length-append (slot_records (used t.slots) t.slots q.stretched) (request_record q.need q.period))

used_more : (h : Held) (n : ℕ) → used_from h n ≤ suc n
used_more h n = go (is_nothing h) n
  where
    go : (o : Bool) (n : ℕ) → pick o (one_more n) (suc n) ≤ suc n
    go true zero = omega arith
    go true (suc n) = omega arith
    go false n = omega arith

-- there are no more used slots than slots
pub used_slots : (ss : List Slot) → used ss ≤ length ss
used_slots [] = omega arith
used_slots (s ∷ ss) = omega (arith, used_more s.held (used ss), used_slots ss)

-- R55: a card has a record for each slot up to the last used one
pub card_length : (t : Table) (q : Request) → length (card_of t q) ≤ clock_length + last_length + line_length * used t.slots
card_length t q = omega (arith, length_card t q, records_length (used t.slots) t.slots q.stretched)

-- R55: no card of sixteen slots has more than 208 bytes
pub longest_card : (t : Table) (q : Request) → length t.slots ≡ 16 → length (card_of t q) ≤ 208
longest_card t q e = omega (arith, card_length t q, used_slots t.slots)
