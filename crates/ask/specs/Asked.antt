-- What ask promises: the answer that the rules fix, and the same computed; and that a start is near the clock, for callers.
use Rattle.std.specs.Prelude.{Ok, Err, ℕ, ◌+◌, ◌≤◌, ◌≡◌}
use Rattle.table.specs.Words.{Said}
use Rattle.table.specs.declared.Table.{Table}
use Rattle.table.specs.declared.Request.{Request}
use Rattle.table.specs.Grounds.{Answers}
use Rattle.table.specs.Ask.{ask_of}

-- a start is at the clock or at most 65,535 ticks after it, so that the wait for it has sixteen bits (R3)
abbrev pub Within : ℕ → Said ℕ → Type 0
Within clock (Ok r) = (clock ≤ r) × (r ≤ clock + 65535)
Within clock (Err x) = Unit {0}

-- R41: a right answer: the first ground, or the least smooth start
pub record Asked (t : Table) (q : Request) (a : Said ℕ) : Type 0 where
  pub answers : Answers t q a
  pub computed : a ≡ ask_of t q
