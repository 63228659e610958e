-- `line_up` meets its contract: an array that is written by the laws of `WrittenTo`, and the soonest of the ends passed.
use Rattle.pass.specs.Order.{nth, due_at, Soonest}
use Rattle.pass.proofs.TakingEnds.{WrittenTo}
use Rattle.pass.proofs.line_up.Given as goal

abbrev pub invariant-loop-i : goal.invariant-loop-i
invariant-loop-i l = WrittenTo l.initial.dues (λ k. due_at (nth l.lines.ends.now k) (nth l.lines.remaining.now k)) l.dues l.i × Soonest (nth l.lines.ends.now) l.i l.last l.first
