-- `Table::fault` meets its contract: the search for a line that is not sound, or else the counts.
use borrow.Author.Rules.{rules}
use Rattle.table.proofs.Counts.{else_is}
use Rattle.table.proofs.Table.fault.Goals as goal

pub returns : goal.returns
returns c = rw (← c.lowest.ensures) (else_is c.lowest.result c.or_else.ensures (λ k. search rules))
