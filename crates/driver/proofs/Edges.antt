-- The driver at given tables, by computation: a step that is made, the step after it, and one that is refused.
use Rattle.std.specs.Prelude.{Ok, Err, None, Some}
use Prim.Native.Nat.{ℕ, ◌^◌}
use mathlib.Core.Path.{◌≡◌, refl}
use mathlib.Core.List.{[], ◌∷◌}
use Rattle.table.specs.declared.Table.{Table}
use Rattle.line.specs.Slots.{lowest}
use Rattle.table.specs.Words.{refusal}
use Rattle.table.specs.Counts.{settling}
use Rattle.table.specs.Step.{chosen, advance, step_of}
use Rattle.table.specs.Cases.{running, table_of, tallied, ran_last}
use Rattle.driver.specs.Driven.{driven_of}

-- slot 0 is owed one tick in a period of two
abbrev owing : (clock : ℕ) → Table
owing k = table_of k (running 1 2 0 1 ∷ [])

-- the same line a tick later, served, and the tick counted, with who got it
abbrev served : (clock : ℕ) → Table
served k = ran_last 0 (tallied (1 ∷ []) 0 (table_of k (running 1 2 1 0 ∷ [])))

-- R45, R51: after a step the driver keeps the whole new table: clock, age, remaining, counts and who ran last
pub new_table_is_kept : driven_of (owing 7) ≡ served 8
unfolding lowest chosen settling advance step_of
new_table_is_kept = refl

-- R48: slot 0 runs, and in the step after it none
pub answer_is_of_this_step : ((step_of (owing 7)).answer ≡ Ok (Some 0)) × ((step_of (driven_of (owing 7))).answer ≡ Ok None)
unfolding lowest chosen settling advance step_of
answer_is_of_this_step = (refl, refl)

-- R35, R51: at the clock's last tick the step is refused, and the driver keeps what it had, clock and line
pub refused_table_is_kept : ((step_of (owing (2 ^ 48))).answer ≡ Err (refusal 15 0)) × (driven_of (owing (2 ^ 48)) ≡ owing (2 ^ 48))
unfolding lowest chosen settling advance step_of
refused_table_is_kept = (refl, refl)
