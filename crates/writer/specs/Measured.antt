-- What the writer measures before it writes.
use Rattle.std.specs.Prelude.{Ok, Err, ℕ, ◌≤◌, ◌≡◌, List, length, None, Some}
use Rattle.line.specs.declared.Slot.{Slot}
use Rattle.line.specs.Slots.{is_waiting, lowest_of}
use Rattle.table.specs.Words.{Said, refusal}
use Rattle.card.specs.Card.{slot_records, used}
use Rattle.writer.specs.declared.Used.{Used}

-- R23, R55: where no line waits the slots that have a record on the card and the length of these, else the refusal at the lowest slot whose line does
abbrev pub MeasuredRecords : List Slot → (stretched : List ℕ) → Said Used → Type 0
MeasuredRecords ss ts (Ok u) = (lowest_of is_waiting ss ≡ None) × (u.slots ≡ used ss) × (u.slots ≤ 16) × (u.length ≡ length (slot_records u.slots ss ts))
MeasuredRecords ss ts (Err x) = (k : ℕ) × (lowest_of is_waiting ss ≡ Some k) × (x ≡ refusal 3 k)
