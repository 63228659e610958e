-- `stretch_all` meets its contract: the loop cites the laws of `Mapping`, and changes the slots alone.
use Rattle.line.specs.Stretch.{stretch_slot}
use Rattle.line.proofs.Loops.{Mapping}
use Rattle.table.specs.Grounds.{entry}
use Rattle.table.proofs.Step.{OnlySlots}
use Rattle.admit.proofs.place.stretch_all.Given as goal

abbrev pub invariant-loop-i : goal.invariant-loop-i
invariant-loop-i l = OnlySlots l.fn.t l.next × Mapping (λ k. stretch_slot (entry l.q k)) 16 l.fn.t.slots l.next.slots l.i
