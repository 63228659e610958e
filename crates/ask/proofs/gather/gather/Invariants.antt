-- `gather` meets its contract: a fold over the slots that cites the laws of `Gathering`.
use Rattle.table.specs.Grounds.{entry}
use Rattle.ask.proofs.Packing.{Gathering}
use Rattle.ask.proofs.gather.gather.Given as goal

abbrev pub invariant-loop-i : goal.invariant-loop-i
invariant-loop-i l = Gathering l.fn.t.slots (entry l.q) l.i l.g
