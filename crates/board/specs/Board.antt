-- What the board shows: the front lamp, R50, and the ready word, R49.
use Rattle.std.specs.Prelude.{ℕ, ◌/◌, ◌%◌, ◌^◌, ◌<◌, ◌≡◌, Bool, true, false, List, leb, length}
use Rattle.line.specs.declared.Slot.{Slot}
use Rattle.line.specs.Slots.{pick, both, at}
use Rattle.line.specs.Tick.{is_owed}

-- n lies from low to high
abbrev pub within : (low high n : ℕ) → Bool
within a b n = both (leb a n) (leb n b)

-- R50, R90: the blinks by the range in which the number is, of any number
unfoldable pub blinks : ℕ → ℕ
blinks n = pick (within 1 3 n) 1 (pick (within 4 6 n) 2 (pick (within 7 10 n) 3 (pick (within 11 13 n) 4 (pick (within 14 15 n) 5 0))))

-- a test as a bit
abbrev pub bit : Bool → ℕ
bit true = 1
bit false = 0

-- R49: w has a bit for each slot, set where the slot is owed, and no other
pub record ReadyWord (l : List Slot) (w : ℕ) : Type 0 where
  pub bits : (k : ℕ) → k < length l → w / 2 ^ k % 2 ≡ bit (is_owed (at l k))
  pub small : w < 2 ^ length l
