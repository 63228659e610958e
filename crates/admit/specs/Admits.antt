-- What admit promises: the answer that the rules fix with its table, and the same computed, for callers.
use Prim.Native.Nat.{ℕ}
use Rattle.std.specs.Prelude.{◌≡◌}
use Rattle.table.specs.declared.Table.{Table}
use Rattle.table.specs.declared.Request.{Request}
use Rattle.table.specs.declared.Acted.{Acted}
use Rattle.table.specs.Grounds.{Answers}
use Rattle.table.specs.Admit.{admit_of}

-- R42: a right answer, and the table that belongs to it
pub record Admits (t : Table) (q : Request) (r : Acted ℕ) : Type 0 where
  pub answers : Answers t q r.answer
  pub computed : r ≡ admit_of t q
