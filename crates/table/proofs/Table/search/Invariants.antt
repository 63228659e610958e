-- `table::Table::search` meets its contract: the test said no of each slot that the loop has passed.
use Rattle.std.proofs.Common.{ℕ, ◌<◌, false}
use Rattle.line.specs.Slots.{slot_at}
use Rattle.table.proofs.Table.search.Given as goal

abbrev pub invariant-loop-i : goal.invariant-loop-i
invariant-loop-i g l = (k : ℕ) → k < l.i → goal.F-post g l.test k (slot_at l.s-items k) false
