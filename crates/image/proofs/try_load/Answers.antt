-- `try_load`: the table that stands in bytes of which none is wrong.
use native.Mathlib.Omega.{arith}
use Rattle.image.proofs.Judging.{has_length, load_right}
use Rattle.image.proofs.try_load.Goals as goal

pub table_in-requires : goal.table_in-requires
table_in-requires c = omega (arith, has_length 16 c.args.image.now c.in_ok-judged.ensures)

pub returns : goal.returns
returns c = load_right 16 c.args.image.now c.in_ok-judged.ensures _ c.table_in.ensures
