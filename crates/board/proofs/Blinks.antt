-- The lamp's blinks, R50, a law for each range by its two ends.
use Prim.Native.Nat.{ℕ, ◌≤◌, ◌<◌}
use mathlib.Core.Path.{◌≡◌}
use Rattle.std.proofs.Common.{arith}
use Rattle.std.proofs.lemmas.Grind.{common_steps}
use Rattle.board.specs.Board.{blinks}

-- R50: 1 to 3 blink once
pub blinks_one : (n : ℕ) → 1 ≤ n → n < 4 → 1 ≡ blinks n
unfolding blinks
blinks_one n p q = grind (arith, common_steps)

-- R50: 4 to 6 twice
pub blinks_two : (n : ℕ) → 4 ≤ n → n < 7 → 2 ≡ blinks n
unfolding blinks
blinks_two n p q = grind (arith, common_steps)

-- R50: 7 to 10 three times
pub blinks_three : (n : ℕ) → 7 ≤ n → n < 11 → 3 ≡ blinks n
unfolding blinks
blinks_three n p q = grind (arith, common_steps)

-- R50: 11 to 13 four times
pub blinks_four : (n : ℕ) → 11 ≤ n → n < 14 → 4 ≡ blinks n
unfolding blinks
blinks_four n p q = grind (arith, common_steps)

-- R50: 14 and 15 five times
pub blinks_five : (n : ℕ) → 14 ≤ n → n < 16 → 5 ≡ blinks n
unfolding blinks
blinks_five n p q = grind (arith, common_steps)

-- R50: 0 does not blink
pub blinks_low : (n : ℕ) → n < 1 → 0 ≡ blinks n
unfolding blinks
blinks_low n p = grind (arith, common_steps)

-- R50: nothing from 16 on blinks
pub blinks_high : (n : ℕ) → 16 ≤ n → 0 ≡ blinks n
unfolding blinks
blinks_high n p = grind (arith, common_steps)
