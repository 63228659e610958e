use mathlib.Core.Path.{refl}
use native.Mathlib.Omega.{arith}
use Rattle.pass.proofs.TakingEnds.{write_on, soon_on}
use Rattle.pass.proofs.line_up.Goals as goal

pub loop-i-preserved : goal.loop-i-preserved
loop-i-preserved c = let v = c.loop-i.invariant in (write_on v.0 (omega arith) refl, soon_on v.1 (omega arith))
