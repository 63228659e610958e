-- What refusal 10 tells, R103 and R104: the first tick that is short, by how much, and that the pump misses a period by then.
use Rattle.std.specs.Prelude.{Err, ℕ, ◌+◌, ◌≤◌, ◌<◌, ◌≡◌, pos, length, ◌≤ℤ◌}
use Rattle.line.specs.Slots.{at, Waits}
use Rattle.line.specs.Demand.{last_end}
use Rattle.line.specs.Ends.{excess_at}
use Rattle.table.specs.declared.Table.{Table}
use Rattle.table.specs.declared.Request.{Request}
use Rattle.table.specs.declared.Refusal.{Refusal}
use Rattle.table.specs.Words.{short_refusal}
use Rattle.table.specs.Grounds.{asked, Short, Answers}
use Rattle.theory.specs.Given.{IsEnd}
use Rattle.promises.specs.Demand3.{Sixteen, Misses}

-- R104: what the tick d tells of the table and the request
pub record Tells (t : Table) (q : Request) (d : ℕ) : Type 0 where
  -- it is an end of a running line at its T'
  pub slot : ℕ
  pub inside : slot < length t.slots
  pub runs : Waits (at t.slots slot) → ⊥
  pub an_end : IsEnd t.clock (at (asked t q) slot) d
  -- before the last end
  pub before_last : d < last_end t.clock (asked t q)
  -- nothing is late before it
  pub none_before : (u : ℕ) → t.clock ≤ u → u < d → excess_at t.clock (asked t q) u ≤ℤ pos 0
  -- a pump that goes on from the table as it is, each line with its own period, has a period that ends short by d
  pub ends_short : Misses t (d + 1)

-- R103, R104: of any refusal with the number 10 that ask's contract allows, for any table, reached by a run or not
abbrev pub TenTells : Type 0
TenTells = (t : Table) (q : Request) (x : Refusal) → Sixteen q → Answers t q (Err x) → x.number ≡ 10
    → (x ≡ short_refusal x.tick x.excess) × Short t q x.tick x.excess × Tells t q x.tick
