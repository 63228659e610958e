-- `Table::lowest` meets its contract: the search, for the kind's test.
use Rattle.std.proofs.Common.{rules}
use Rattle.line.specs.Tick.{is}
use Rattle.table.proofs.Table.lowest.Goals as goal

pub returns : goal.returns
returns c = c.search.ensures (λ i. is c.args.kind) (λ i b h k. search rules)
