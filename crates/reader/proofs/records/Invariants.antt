-- `records`: the loop keeps `Kept`; each way through it is one law.
use Rattle.reader.proofs.Loop.{Kept}
use Rattle.reader.proofs.records.Given as goal

abbrev pub invariant-loop-i : goal.invariant-loop-i
invariant-loop-i l = Kept 16 l.bytes l.table l.request l.turned l.at l.i l.gap
