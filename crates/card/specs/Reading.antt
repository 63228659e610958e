-- The reading of a card: from its bytes to marked records, a recursive function, and from these to a table and a request.
use Rattle.std.specs.Prelude.{Option, None, Some, Ok, Err, ℕ, zero, suc, ◌+◌, List, [], ◌∷◌, ◌++◌, map, Bool, false, length, drop, replicate, eqb, leb, ltb}
use Rattle.line.specs.Slots.{pick, both}
use Rattle.table.specs.Words.{table_with, request_with, refusal, Said}
use Rattle.card.specs.declared.Mark.{Mark}
use Rattle.card.specs.declared.SlotRecord.{SlotRecord}
use Rattle.card.specs.declared.Record.{Record}
use Rattle.card.specs.declared.Record.TheVariants.{Slot, Last}
use Rattle.card.specs.Bytes.{value, marked}
use Rattle.card.specs.Layout.{CK, TB, TL, TF, TA, RQ, is_free, clock_at, need_at, period_at, stretched_at, fourth_at, fifth_at, clock_length, line_length, last_length, record_length}
use Rattle.card.specs.Marked.{record_with, free, slot_for, entry_for, Records, saying}
use Rattle.card.specs.declared.Card.{Card}
use Rattle.card.specs.Card.{carrying}

-- ---- one record

-- R53: a mark's record with the numbers of a line, each at its offset
abbrev pub record_at : Mark → List ℕ → SlotRecord
record_at m l = record_with m (value 2 l need_at) (value 2 l period_at) (value 2 l stretched_at) (value 2 l fourth_at) (value 2 l fifth_at)

-- R53, R57: the same, whole or cut
abbrev pub line_record_of : Mark → List ℕ → Option Record
line_record_of m l = pick (leb line_length (length l)) (Some (Slot (record_at m l))) None

-- R53, R57: the new line's record, whole or cut
abbrev pub last_of : List ℕ → Option Record
last_of l = pick (leb last_length (length l)) (Some (Last (value 2 l need_at) (value 2 l period_at))) None

-- R57, R58: a slot's record: a line under TB, TL or TA, or TF
abbrev pub slot_record_of : List ℕ → Option Record
slot_record_of l =
    pick (marked TB l) (line_record_of Mark.TB l)
    (pick (marked TL l) (line_record_of Mark.TL l) (pick (marked TF l) (Some (Slot free)) (pick (marked TA l) (line_record_of Mark.TA l) None)))

-- R57: what stands at the front where so many slots are left, if it can be read; with none left RQ alone may
unfoldable pub record_of : (left : ℕ) → List ℕ → Option Record
record_of left l = pick (marked RQ l) (last_of l) (pick (ltb 0 left) (slot_record_of l) None)

-- ---- the records

-- R31: refused as broken, at a byte offset
abbrev pub broken : {A : Type 0} → (place : ℕ) → Said A
broken at = Err (refusal 11 at)

-- R54: the records that were read before stand in front of what is read; a refusal stays
abbrev pub put_in_front : List SlotRecord → Said Records → Said Records
put_in_front rs (Ok m) = Ok (saying m.clock (rs ++ m.slots) m.need m.period)
put_in_front rs (Err r) = Err r

-- R55: what RQ gives where so many slots have no record: they are as free ones
abbrev pub ending : (clock left Cn Tn : ℕ) → Records
ending k left c n = saying k (replicate left free) c n

-- R57: RQ at an offset, with so many bytes from there on: neither directly after TF nor before a byte
abbrev pub closing : {A : Type 0} → (gap : Bool) (at bytes : ℕ) → A → Said A
closing gap at n m = pick gap (broken at) (pick (eqb n last_length) (Ok m) (broken (at + last_length)))

-- R54: a record at an offset; next reads what follows
abbrev pub step : (clock left : ℕ) (gap : Bool) (at : ℕ) → List ℕ → (Bool → ℕ → List ℕ → Said Records) → Option Record → Said Records
step k left gap at l next (Some (Slot r)) =
    put_in_front (r ∷ []) (next (is_free r.mark) (at + record_length r.mark) (drop (record_length r.mark) l))
step k left gap at l next (Some (Last c n)) = closing gap at (length l) (ending k left c n)
step k left gap at l next None = broken at

-- R54: the records from an offset on, with so many slots left; gap says that the record before was TF
unfoldable pub records_of : (clock left : ℕ) (gap : Bool) (at : ℕ) → List ℕ → Said Records
records_of k zero gap at l = step k 0 gap at l (λ g a x. broken at) (record_of 0 l)
records_of k (suc n) gap at l = step k (suc n) gap at l (records_of k n) (record_of (suc n) l)

-- R54, R57: the records of a card of a unit with n slots, which CK opens
abbrev pub records_with : (slots : ℕ) → List ℕ → Said Records
records_with n l =
    pick (both (leb clock_length (length l)) (marked CK l)) (records_of (value 8 l clock_at) n false clock_length (drop clock_length l)) (broken 0)

-- ---- the table

-- R53: the table and the request that records stand for
abbrev pub card_for : Records → Card
card_for m = carrying (table_with m.clock (map slot_for m.slots)) (request_with (map entry_for m.slots) m.need m.period)

-- the same of what was read; a refusal stays
abbrev pub meaning : Said Records → Said Card
meaning (Ok m) = Ok (card_for m)
meaning (Err r) = Err r

-- R54, R57: the card of a unit with n slots
unfoldable pub read_with : (slots : ℕ) → List ℕ → Said Card
read_with n l = meaning (records_with n l)

-- R56: what the reader makes of any bytes, for sixteen slots
abbrev pub read_of : List ℕ → Said Card
read_of l = read_with 16 l
