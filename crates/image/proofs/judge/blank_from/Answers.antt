-- `blank_from`: the match is a ladder of tests, and each arm has its law.
use mathlib.Core.Logic.{⊎_elim}
use Rattle.line.specs.declared.Follows.TheVariants.{Renews, Leaves}
use native.Mathlib.Omega.{arith}
use Rattle.image.proofs.Judging.{blank_nothing, blank_running, blank_waiting, blank_other}
use Rattle.image.proofs.judge.blank_from.Goals as goal

pub returns-in-0 : goal.returns-in-0
returns-in-0 c = search blank_nothing

pub returns-in-1 : goal.returns-in-1
returns-in-1 c = ⊎_elim (blank_running _ Renews) (blank_running _ Leaves) c.in-1.is

pub returns-in-2 : goal.returns-in-2
returns-in-2 c = search blank_waiting

pub returns-in_default : goal.returns-in_default
returns-in_default c = blank_other c.args.kind (grind arith)
