-- `Table::settled` meets its contract: what is accounted for has room in 64 bits, and so has a part of it.
use native.Mathlib.Omega.{arith}
use Rattle.std.proofs.lemmas.List.Sums.{get_or-le-sum_by}
use Rattle.table.proofs.Table.settled.Goals as goal

pub overflow_add-next : goal.overflow_add-next
overflow_add-next c =
    omega (arith, get_or-le-sum_by (λ x. x) c.args.self.had c.args.i 0 (omega (arith, c.requires)))
