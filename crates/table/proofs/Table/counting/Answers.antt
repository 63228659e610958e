-- `Table::counting` meets its contract: a count is at most what all add up to, and so has room for one more.
use native.Mathlib.Omega.{arith}
use Rattle.std.proofs.lemmas.List.Sums.{get_or-le-sum_by}
use Rattle.table.proofs.Counts.{named_inside}
use Rattle.table.proofs.Table.counting.Goals as goal

pub overflow_add-next-in-Some : goal.overflow_add-next-in-Some
overflow_add-next-in-Some c =
    omega (arith, get_or-le-sum_by (λ x. x) c.args.self.had c.in-Some.k 0 (omega (arith, named_inside c.in-Some.is c.requires.2)))
