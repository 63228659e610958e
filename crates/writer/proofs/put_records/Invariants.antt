-- `put_records`: the loop keeps `Put`.
use Rattle.writer.proofs.Slots.{Put}
use Rattle.writer.proofs.put_records.Given as goal

abbrev pub invariant-loop-i : goal.invariant-loop-i
invariant-loop-i l = Put l.initial.out l.card.table.slots l.card.request.stretched l.n l.out l.initial.at l.at l.i
