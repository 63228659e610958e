-- Leaving, R100, by computation: what asking a slot's line to leave says, and the table that it leaves.
use Rattle.std.specs.Prelude.{Ok, Err}
use Prim.Native.Nat.{ℕ, ◌-◌, ◌^◌}
use mathlib.Core.Path.{◌≡◌, refl}
use mathlib.Core.List.{List, [], ◌∷◌, ◌++◌, map}
use lib.ListN.{replicate}
use Rattle.line.specs.Slots.{empty, lowest}
use Rattle.table.specs.declared.Table.{Table}
use Rattle.table.specs.Words.{no_slot, refusal, Said}
use Rattle.table.specs.Leave.{leave_of}
use Rattle.table.specs.Cases.{running, parting, waiting, table_of, tallied, tallied_with, ran_last}

-- a table, the number named, what is said, and the table then
pub record LeaveCase : Type 0 where
  pub before : Table
  pub number : ℕ
  pub says : Said ℕ
  pub next : Table

abbrev goes : Table → (number ticks : ℕ) → Table → LeaveCase
goes t n k u = record { before = t; number = n; says = Ok k; next = u }

abbrev keeps : Table → (number refused place : ℕ) → LeaveCase
keeps t n r k = record { before = t; number = n; says = Err (refusal r k); next = t }

-- one of each: slot 0 runs, slot 1 waits, slot 2 leaves, slot 3 holds nothing, slot 15 is at the beginning of a period
abbrev mixed : Table
mixed =
    tallied_with (4 ∷ 3 ∷ 2 ∷ 1 ∷ []) 5 6
    (table_of 21 (running 3 8 3 2 ∷ waiting 2 5 4 ∷ parting 3 8 7 0 ∷ (replicate 12 empty ++ (running 1 9 0 1 ∷ []))))

-- R100, R101: a running line keeps its numbers and its count, of a waiting one nothing is left but what it had, with the departed
abbrev lets : List LeaveCase
lets =
    goes mixed 0 5
    (tallied_with (4 ∷ 3 ∷ 2 ∷ 1 ∷ []) 5 6
    (table_of 21 (parting 3 8 3 2 ∷ waiting 2 5 4 ∷ parting 3 8 7 0 ∷ (replicate 12 empty ++ (running 1 9 0 1 ∷ [])))))
    ∷ goes mixed 1 0
    (tallied_with (4 ∷ 0 ∷ 2 ∷ 1 ∷ []) 5 9
    (table_of 21 (running 3 8 3 2 ∷ empty ∷ parting 3 8 7 0 ∷ (replicate 12 empty ++ (running 1 9 0 1 ∷ [])))))
    ∷ goes mixed 15 9
    (tallied_with (4 ∷ 3 ∷ 2 ∷ 1 ∷ []) 5 6
    (table_of 21 (running 3 8 3 2 ∷ waiting 2 5 4 ∷ parting 3 8 7 0 ∷ (replicate 12 empty ++ (parting 1 9 0 1 ∷ [])))))
    ∷ []

-- a line that runs beside one that waits, where slot k ran last
abbrev beside : ℕ → Table
beside k = ran_last k (table_of 9 (running 3 8 2 2 ∷ waiting 2 5 4 ∷ []))

-- R105: who ran last still did where it is asked to leave, or another is removed; where the waiting line of its slot is removed, nobody did; a refusal keeps it
abbrev lasts : List LeaveCase
lasts =
    goes (beside 0) 0 6 (ran_last 0 (table_of 9 (parting 3 8 2 2 ∷ waiting 2 5 4 ∷ [])))
    ∷ goes (beside 0) 1 0 (ran_last 0 (table_of 9 (running 3 8 2 2 ∷ [])))
    ∷ goes (beside 1) 1 0 (ran_last no_slot (table_of 9 (running 3 8 2 2 ∷ [])))
    ∷ goes (beside 1) 0 6 (ran_last 1 (table_of 9 (parting 3 8 2 2 ∷ waiting 2 5 4 ∷ [])))
    ∷ goes (beside 2) 1 0 (ran_last 2 (table_of 9 (running 3 8 2 2 ∷ [])))
    ∷ keeps (beside 1) 2 16 2
    ∷ []

-- R36: already leaving, nothing there, and no such slot, up to the last number of 64 bits; the number itself is the place
abbrev nobody : List LeaveCase
nobody =
    keeps mixed 2 16 2
    ∷ keeps mixed 3 16 3
    ∷ keeps mixed 16 16 16
    ∷ keeps mixed (2 ^ 16) 16 (2 ^ 16)
    ∷ keeps mixed (2 ^ 32) 16 (2 ^ 32)
    ∷ keeps mixed (2 ^ 64 - 1) 16 (2 ^ 64 - 1)
    ∷ []

-- R100, R24: 4 before 16, the lines before the counts; beside each the first is mended. Neither a late clock nor a period that ends short is looked at.
abbrev orders : List LeaveCase
orders =
    keeps (tallied (1 ∷ []) 0 (table_of 0 (running 1 4 0 1 ∷ running 5 4 0 0 ∷ []))) 99 4 1
    ∷ keeps (tallied (1 ∷ []) 0 (table_of 0 (running 1 4 0 1 ∷ running 4 4 0 0 ∷ []))) 99 4 0
    ∷ keeps (table_of 0 (running 1 4 0 1 ∷ running 4 4 0 0 ∷ [])) 99 16 99
    ∷ keeps (tallied (1 ∷ []) 0 (table_of 0 (running 1 4 0 1 ∷ running 5 4 0 0 ∷ []))) 0 4 1
    ∷ goes (table_of (2 ^ 64 - 1) (running 1 4 3 1 ∷ running 1 4 3 1 ∷ [])) 1 1 (table_of (2 ^ 64 - 1) (running 1 4 3 1 ∷ parting 1 4 3 1 ∷ []))
    ∷ goes (table_of 0 (replicate 16 (running 1 64 0 1))) 15 64 (table_of 0 (replicate 15 (running 1 64 0 1) ++ (parting 1 64 0 1 ∷ [])))
    ∷ []

-- all of them
unfoldable pub leave_cases : List LeaveCase
leave_cases = lets ++ (lasts ++ (nobody ++ orders))

-- R100: each table with the number named
pub all_leave_cases :
    map {B = Said ℕ × Table} (λ (c : LeaveCase). ((leave_of c.before c.number).answer, (leave_of c.before c.number).table)) leave_cases
    ≡ map (λ (c : LeaveCase). (c.says, c.next)) leave_cases
unfolding lowest leave_of leave_cases
all_leave_cases = refl
