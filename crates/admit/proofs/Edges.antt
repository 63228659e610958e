-- Which answers and tables are allowed, at an example of a refusal and one of a start.
use Prim.Native.Nat.{ℕ}
use Rattle.std.specs.Prelude.{Ok, Err}
use mathlib.Core.Path.{refl, ap}
use mathlib.Core.List.{[], ◌∷◌}
use native.Mathlib.Omega.{arith}
use Rattle.periods.specs.Multiples.{euclid, gcd_of, lcm_of, frame_from}
use Rattle.table.specs.declared.Table.{Table}
use Rattle.table.specs.declared.Acted.{Acted}
use Rattle.line.specs.Slots.{at, total, map_at, is_nothing, lowest}
use Rattle.table.specs.Words.{empty_table, refusal}
use Rattle.line.specs.Streams.{due, every, ends_before}
use Rattle.line.specs.Demand.{last_end}
use Rattle.line.specs.Shares.{periods_in}
use Rattle.line.specs.Ends.{ends_of, slack, bound, greatest, soonest_of, first_short, start}
use Rattle.table.specs.Ask.{ask_in, ask_of}
use Rattle.table.specs.Cases.{running, table_of}
use Rattle.line.proofs.Search.{true_false}
use Rattle.ask.proofs.Right.{asked}
use Rattle.ask.proofs.Edges.{mixed, asking}
use Rattle.admit.specs.Admits.{Admits}
use Rattle.admit.proofs.Right.{admits}

-- a table whose slot 0 runs a line of 3 in 5, at the beginning of a period
abbrev pub first_in : Table
first_in = table_of 0 (running 3 5 0 3 ∷ [])

-- R17, R42: a refusal beside another table is not allowed
pub refused_elsewhere : Admits mixed (asking 4 0 6 1 4) (record { table = empty_table; answer = Err (refusal 3 2) }) → ⊥
unfolding lowest ask_of
refused_elsewhere a = omega (arith, ap (λ (x : Acted ℕ). x.table.clock) a.computed)

-- R42, R43: admitted to the empty table, the line runs in slot 0
pub admits_first : Admits empty_table (asking 0 0 0 3 5) (record { table = first_in; answer = Ok 0 })
unfolding euclid gcd_of lcm_of frame_from total lowest due last_end map_at periods_in every ends_before ends_of slack bound greatest soonest_of first_short start ask_in ask_of
admits_first = admits empty_table (asking 0 0 0 3 5) (asked empty_table (asking 0 0 0 3 5) refl) refl

-- R42, R43: with the start, the table without the line is not allowed
pub admits_nothing : Admits empty_table (asking 0 0 0 3 5) (record { table = empty_table; answer = Ok 0 }) → ⊥
unfolding euclid gcd_of lcm_of frame_from total lowest due last_end map_at periods_in every ends_before ends_of slack bound greatest soonest_of first_short start ask_in ask_of
admits_nothing a = true_false refl (ap (λ (x : Acted ℕ). is_nothing (at x.table.slots 0)) a.computed)
