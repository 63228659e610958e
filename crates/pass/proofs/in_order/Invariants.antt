-- `in_order` meets its contract: the ticks visited cite the laws of `Visited`.
use Prim.Native.Nat.{◌-◌}
use mathlib.Core.Path.{◌≡◌}
use lib.ListN.{length}
use Rattle.pass.specs.Order.{line_from}
use Rattle.pass.proofs.Order.{Visited}
use Rattle.pass.proofs.in_order.Given as goal

abbrev pub invariant-loop-d : goal.invariant-loop-d
invariant-loop-d l = (length l.dues ≡ length l.initial.dues)
    × Visited (line_from l.initial.dues l.lines.needs.now l.lines.spans.now) (length l.lines.spans.now) l.new.need l.new.period l.new.last l.dues l.sum l.start l.d

abbrev pub decreases-loop-d : goal.decreases-loop-d
decreases-loop-d l = l.new.last - l.d
