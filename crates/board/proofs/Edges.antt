-- The board at its limits: the lamp, R50, and the ready word, R49.
use Prim.Native.Nat.{ℕ, zero, suc, ◌/◌, ◌%◌, ◌^◌, ◌<◌}
use mathlib.Core.Path.{◌≡◌, refl}
use mathlib.Core.List.{List, [], ◌∷◌, map}
use native.Mathlib.Omega.{arith}
use Rattle.line.specs.declared.Slot.{Slot}
use Rattle.line.specs.Slots.{empty, at}
use Rattle.line.specs.Tick.{is_owed}
use Rattle.board.specs.Board.{blinks, bit, ReadyWord}
use Rattle.table.specs.Cases.{running, waiting}

-- R50: each range's first and last number, and the numbers outside
pub lamp_edges : map blinks (0 ∷ 1 ∷ 3 ∷ 4 ∷ 6 ∷ 7 ∷ 10 ∷ 11 ∷ 13 ∷ 14 ∷ 15 ∷ 16 ∷ 65535 ∷ []) ≡ 0 ∷ 1 ∷ 1 ∷ 2 ∷ 2 ∷ 3 ∷ 3 ∷ 4 ∷ 4 ∷ 5 ∷ 5 ∷ 0 ∷ 0 ∷ []
unfolding blinks
lamp_edges = refl

-- owed, owed nothing, waiting, empty, owed
abbrev board_slots : List Slot
board_slots = running 2 4 0 2 ∷ running 2 4 0 0 ∷ waiting 2 4 1 ∷ empty ∷ running 2 4 0 1 ∷ []

-- R49: bits 0 and 4, and no other
pub ready_edges : ReadyWord board_slots 17
ready_edges = record { bits = bits; small = omega arith }
  where
    bits : (k : ℕ) → k < 5 → 17 / 2 ^ k % 2 ≡ bit (is_owed (at board_slots k))
    bits zero h = refl
    bits (suc zero) h = refl
    bits (suc (suc zero)) h = refl
    bits (suc (suc (suc zero))) h = refl
    bits (suc (suc (suc (suc zero)))) h = refl
    bits (suc (suc (suc (suc (suc k))))) h = absurd (omega arith)

-- R49: a bit above the slots' is none of the word's
pub no_bit_above : ReadyWord board_slots 49 → ⊥
no_bit_above w = omega (arith, w.small)
