-- What the contract of `input::take` cites.
use Rattle.std.specs.Prelude.{◌≡◌, ℕ, ◌≤◌, List, length, take, IfSome, Result, Ok, Err}
use Rattle.std.specs.Io.{StartsWith}
use Rattle.std.specs.declared.option.Option.{Option}
use Rattle.input.specs.declared.Failed.{Failed}

-- R60, R94: how many bytes were taken, whether a read failed behind them or not
abbrev pub taken : Result ℕ Failed → ℕ
taken (Ok n) = n
taken (Err f) = f.len

-- the first n bytes are there to be lent
abbrev pub Counts : ℕ → List ℕ → Type 0
Counts n xs = (n ≤ length xs) × (n ≡ length (take n xs))

-- R60, R94: where it is known what a reader has left, the first n bytes are the next of those, in order
abbrev pub Begins : ℕ → List ℕ → Option (List ℕ) → Type 0
Begins n xs left = IfSome left (λ ys. StartsWith ys (take n xs))

-- R60, R94: and they are all of those, or as many as there is room for
abbrev pub Fills : ℕ → List ℕ → Option (List ℕ) → Type 0
Fills n xs left = IfSome left (λ ys. take n xs ≡ take (length xs) ys)
