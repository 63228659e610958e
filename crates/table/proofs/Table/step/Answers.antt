-- `Table::step` meets its contract: what goes on is before the last tick, accounts for no more than the clock, and serves one of the slots.
use native.Mathlib.Omega.{arith}
use borrow.Author.Rules.{rules}
use Rattle.table.proofs.Choice.{turn_inside}
use Rattle.table.proofs.Table.step.Goals as goal

pub advance-requires : goal.advance-requires
advance-requires c = (c.if-self-ge281474976710656.false, search rules, turn_inside c.args.self (omega arith) c.in-Ok.ensures.1)
