-- `slots_wrong`: a loop that keeps `Judged`.
use Rattle.image.proofs.Judging.{Judged}
use Rattle.image.proofs.judge.slots_wrong.Given as goal

abbrev pub invariant-loop-k : goal.invariant-loop-k
invariant-loop-k l = Judged 16 l.image l.k
