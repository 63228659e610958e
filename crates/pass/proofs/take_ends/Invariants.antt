-- `take_ends` meets its contract: the lines passed cite the laws of `TakingEnds`.
use Rattle.pass.proofs.TakingEnds.{TakingEnds}
use Rattle.pass.proofs.take_ends.Given as goal

abbrev pub invariant-loop-i : goal.invariant-loop-i
invariant-loop-i l = TakingEnds l.initial.dues l.lines.needs.now l.lines.spans.now l.d l.last l.dues l.added l.soonest l.i
