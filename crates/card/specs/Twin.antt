-- Cards of the third generation: which slots' records are TA, R58, and the card that has TB in their place, R72.
use Rattle.std.specs.Prelude.{Option, None, Some, Ok, Err, ℕ, zero, suc, ◌+◌, ◌*◌, List, [], ◌∷◌, ◌++◌, map, Bool, take, drop}
use Rattle.line.specs.Slots.{pick}
use Rattle.table.specs.Words.{Said}
use Rattle.card.specs.declared.SlotRecord.{SlotRecord}
use Rattle.card.specs.declared.Record.{Record}
use Rattle.card.specs.declared.Record.TheVariants.{Slot, Last}
use Rattle.card.specs.Layout.{is_turned, clock_length, record_length}
use Rattle.card.specs.Marked.{record_bytes, twin, Records}
use Rattle.card.specs.Reading.{record_of, records_with}

-- ---- which slots

-- a word with a bit for each test, the first lowest
abbrev pub word_of : List Bool → ℕ
word_of [] = 0
word_of (b ∷ bs) = pick b 1 0 + 2 * word_of bs

-- R58: the record is TA
abbrev pub is_old : SlotRecord → Bool
is_old r = is_turned r.mark

-- R58: a bit for each slot whose record is TA; a refused card has no slots
abbrev pub turned_in : Said Records → ℕ
turned_in (Ok m) = word_of (map is_old m.slots)
turned_in (Err r) = 0

-- R58: the same of a card's bytes, for a unit with n slots
unfoldable pub turned_with : (slots : ℕ) → List ℕ → ℕ
turned_with n l = turned_in (records_with n l)

-- R58: and for sixteen
abbrev pub turned_of : List ℕ → ℕ
turned_of l = turned_with 16 l

-- ---- the twin

-- R72: a slot's record in front is its twin's bytes, and next makes the rest; anything else stays
abbrev pub twin_step : List ℕ → (List ℕ → List ℕ) → Option Record → List ℕ
twin_step l next (Some (Slot r)) = record_bytes (twin r) ++ next (drop (record_length r.mark) l)
twin_step l next (Some (Last c n)) = l
twin_step l next None = l

-- R72: the twin of the bytes behind the clock's record, with so many slots left
unfoldable pub twin_from : (left : ℕ) → List ℕ → List ℕ
twin_from zero l = l
twin_from (suc n) l = twin_step l (twin_from n) (record_of (suc n) l)

-- R72: the twin of a card of a unit with n slots: TB in the place of each TA, and its two last numbers exchanged; TB, TL and TF stand as they are
unfoldable pub twin_with : (slots : ℕ) → List ℕ → List ℕ
twin_with n l = take clock_length l ++ twin_from n (drop clock_length l)

-- R72: and of one with sixteen
abbrev pub twin_of : List ℕ → List ℕ
twin_of l = twin_with 16 l
