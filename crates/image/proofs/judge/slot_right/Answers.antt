-- `slot_right`: each kind has its law, and no other kind is right.
use mathlib.Core.Path.{refl}
use mathlib.Core.Logic.{⊎_elim}
use Rattle.line.specs.declared.Follows.TheVariants.{Renews, Leaves}
use native.Mathlib.Omega.{arith}
use Rattle.image.proofs.RunKinds.{run_right}
use Rattle.image.proofs.Judging.{right_nothing, right_waiting}
use Rattle.image.proofs.judge.slot_right.Goals as goal

pub returns-in-0 : goal.returns-in-0
returns-in-0 c t = right_nothing c.args.s.now (omega arith) c.eight_at-v.ensures refl t

pub returns-in-1 : goal.returns-in-1
returns-in-1 c t = ⊎_elim (run_right Renews c.args.s.now) (run_right Leaves c.args.s.now) c.in-1.is

pub returns-in-2 : goal.returns-in-2
returns-in-2 c t = right_waiting c.args.s.now (omega arith) (λ i. (c.type_inv.s i).fits) c.eight_at-v.ensures refl t
