-- What stands in the buffer when bytes were put into it.
use Rattle.std.specs.Prelude.{ℕ, ◌+◌, ◌≤◌, ◌≡◌, List, ◌++◌, length, take, drop}

-- the buffer m is l with the bytes x from a to b
pub record Laid (l m : List ℕ) (a b : ℕ) (x : List ℕ) : Type 0 where
  pub room : b ≤ length l
  pub end : b ≡ a + length x
  pub laid : m ≡ take a l ++ (x ++ drop b l)
