-- `gcd` meets its contract: one turn of Euclid's loop keeps the greatest common divisor, and with 0 it is the other number.
use mathlib.Core.Path.{◌≡◌}
use Rattle.periods.specs.Multiples.{gcd_of}
use Rattle.periods.proofs.gcd.Given as goal

abbrev pub invariant-loop-b : goal.invariant-loop-b
invariant-loop-b l = gcd_of l.a l.b ≡ gcd_of l.fn.a l.fn.b

abbrev pub decreases-loop-b : goal.decreases-loop-b
decreases-loop-b l = l.b
