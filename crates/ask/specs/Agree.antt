-- Two requests that agree on what is looked at (R6).
use Rattle.std.specs.Prelude.{ℕ, ◌<◌, ◌≡◌, length}
use Rattle.line.specs.declared.Held.{Held}
use Rattle.table.specs.declared.Table.{Table}
use Rattle.table.specs.declared.Request.{Request}
use Rattle.line.specs.Slots.{if_runs, at}
use Rattle.table.specs.Grounds.{entry}

-- R6: a slot whose entry counts, since a line runs there
abbrev pub Runs : Held → Type 0
Runs h = if_runs ⊥ (λ r. Unit {0}) h

-- R6: alike in need, period and the entries of running slots
pub record Agree (t : Table) (q r : Request) : Type 0 where
  pub need : q.need ≡ r.need
  pub period : q.period ≡ r.period
  pub entries : (i : ℕ) → i < length t.slots → Runs (at t.slots i) → entry q i ≡ entry r i
