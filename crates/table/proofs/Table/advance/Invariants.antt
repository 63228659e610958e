-- `Table::advance` meets its contract: the loop cites the laws of `Ticking`.
use Rattle.table.proofs.Step.{Ticking}
use Rattle.table.proofs.Table.advance.Given as goal

abbrev pub invariant-loop-i : goal.invariant-loop-i
invariant-loop-i l = Ticking l.w l.fn.self l.next l.i
