-- `Table::choose` meets its contract: the loop cites the laws of `Best`, and those of `Looking` for an unsound line.
use mathlib.Core.Bool.{not}
use lib.ListN.{length}
use Rattle.line.specs.Slots.{at}
use Rattle.line.specs.Sound.{sound}
use Rattle.line.proofs.Keys.{Key}
use Rattle.line.proofs.Search.{Looking}
use Rattle.table.specs.Step.{chosen}
use Rattle.table.proofs.Choice.{Best}
use Rattle.table.proofs.Table.choose.Given as goal

abbrev pub invariant-loop-i : goal.invariant-loop-i
invariant-loop-i l =
    let ss = l.fn.self.slots in
    Best (chosen l.i ss) ss l.best l.least × Looking (λ k. not (sound (at ss k))) (length ss) l.i × Key (at ss l.last) l.going
