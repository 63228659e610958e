-- `Table::lowest_barred` meets its contract: the search, for each slot's own entry.
use Rattle.std.proofs.Common.{rules}
use Rattle.line.specs.Stretch.{barred}
use Rattle.table.specs.Grounds.{entry}
use Rattle.table.proofs.Table.lowest_barred.Goals as goal

pub returns : goal.returns
returns c = c.search.ensures (λ i. barred (entry c.args.q i)) (λ i b h k. search rules)
