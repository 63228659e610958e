-- `Table::overcounted` meets its contract: what is left, and the counts that are taken, are the clock.
use Rattle.std.proofs.Common.{◌≡◌, ◌+◌, take}
use Rattle.std.specs.List.{sum}
use Rattle.table.proofs.Table.overcounted.Given as goal

abbrev pub invariant-loop-n : goal.invariant-loop-n
invariant-loop-n l = l.left + sum (take l.n-index l.n-items) ≡ l.fn.self.clock
