-- `input::take` is safe: `at` lies within what is lent. What was read so far is what the reader gave up. The measure is the number of bytes that are left.
use Rattle.std.proofs.Common.{length, ◌-◌, ◌≤◌, take}
use Rattle.std.specs.Io.KnownBytes.{Consumes}
use Rattle.input.proofs.take.Given as goal

abbrev pub invariant-loop-at : goal.invariant-loop-at
invariant-loop-at g l = (l.at ≤ length l.into) × Consumes (g.R.Read.remaining l.fn.from) (g.R.Read.remaining l.from) (take l.at l.into)

abbrev pub decreases-loop-at : goal.decreases-loop-at
decreases-loop-at g l = length l.into - l.at
