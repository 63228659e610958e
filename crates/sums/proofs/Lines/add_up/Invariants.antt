-- `add_up` meets its contract: three sums at once, which cite the laws of `AddingUp`.
use lib.ListN.{length}
use Rattle.sums.proofs.Adding.{AddingUp}
use Rattle.sums.proofs.Lines.add_up.Given as goal

abbrev pub invariant-loop-end : goal.invariant-loop-end
invariant-loop-end l = AddingUp l.self.ends.now l.self.remaining.now l.self.needs.now l.self.spans.now l.frame.ticks (length l.yielded) l.all
