-- `measure`: what is counted so far is `Counted`; each way through the loop is one law. How many slots there are is known once one is read.
use Rattle.std.proofs.Common.{◌≡◌, ◌<◌, length}
use Rattle.writer.proofs.Slots.{Counted}
use Rattle.writer.proofs.measure.Given as goal

abbrev pub invariant-loop-i : goal.invariant-loop-i
invariant-loop-i l = (0 < l.i → length l.card.table.slots ≡ 16) × Counted l.card.table.slots l.card.request.stretched l.i l.all l.used
