-- The step, R44 to R48, by computation: what so many steps of a table say, and the table that they leave.
use Rattle.std.specs.Prelude.{Ok, Err, Option, None, Some}
use Prim.Native.Nat.{ℕ, zero, suc, ◌+◌, ◌-◌, ◌^◌}
use mathlib.Core.Path.{◌≡◌, refl}
use mathlib.Core.List.{List, [], ◌∷◌, ◌++◌, map}
use lib.ListN.{length, replicate}
use Rattle.line.specs.declared.Slot.{Slot}
use Rattle.table.specs.declared.Table.{Table}
use Rattle.line.specs.Slots.{empty, lowest}
use Rattle.table.specs.Words.{no_slot, refusal, Said}
use Rattle.table.specs.Counts.{settling}
use Rattle.table.specs.Step.{chosen, advance, step_of}
use Rattle.table.specs.Cases.{running, parting, waiting, table_of, tallied, tallied_with, ran_last}

-- a table, what each step from it says, and the table that they leave
pub record StepCase : Type 0 where
  pub before : Table
  pub says : List (Said (Option ℕ))
  pub next : Table

-- what a step says
abbrev pub ran : ℕ → Said (Option ℕ)
ran k = Ok (Some k)

abbrev pub nobody : Said (Option ℕ)
nobody = Ok None

abbrev pub refused : (number place : ℕ) → Said (Option ℕ)
refused n k = Err (refusal n k)

abbrev steps : Table → List (Said (Option ℕ)) → Table → StepCase
steps t s u = record { before = t; says = s; next = u }

-- a refused step leaves what it found
abbrev keeps : Table → Said (Option ℕ) → StepCase
keeps t s = steps t (s ∷ []) t

-- case A admitted: the new line starts at 13, every line is renewed at least once, and each tick counts for who had it or as idle
abbrev case_a : StepCase
case_a =
    steps (table_of 8 (running 8 32 8 0 ∷ running 8 16 8 8 ∷ waiting 1 4 5 ∷ []))
    (replicate 8 (ran 1) ++ (ran 2 ∷ ran 2 ∷ ran 1 ∷ ran 1 ∷ ran 1 ∷ ran 2 ∷ ran 1 ∷ ran 1 ∷ ran 1 ∷ ran 2 ∷ ran 1 ∷ ran 1 ∷ nobody ∷ ran 2 ∷ nobody ∷ nobody ∷ ran 1 ∷ ran 2 ∷ []))
    (ran_last 2 (tallied (0 ∷ 17 ∷ 6 ∷ []) 3 (table_of 34 (running 8 32 2 8 ∷ running 8 16 2 7 ∷ running 1 4 1 0 ∷ []))))

-- R44, R105: the lowest of equal ends at first, and then who ran last, over the end of its period too: three hand-overs in twelve ticks, where the lowest slot alone makes five
abbrev equal_ends : StepCase
equal_ends =
    steps (table_of 0 (empty ∷ running 2 4 0 2 ∷ running 2 4 0 2 ∷ []))
    (ran 1 ∷ ran 1 ∷ ran 2 ∷ ran 2 ∷ ran 2 ∷ ran 2 ∷ ran 1 ∷ ran 1 ∷ ran 1 ∷ ran 1 ∷ ran 2 ∷ ran 2 ∷ [])
    (ran_last 2 (tallied (0 ∷ 6 ∷ 6 ∷ []) 0 (table_of 12 (empty ∷ running 2 4 0 2 ∷ running 2 4 0 2 ∷ []))))

-- R44: the least end; nobody once nobody is owed
abbrev least_end : StepCase
least_end =
    steps (table_of 0 (running 1 9 2 1 ∷ running 1 8 2 1 ∷ [])) (ran 1 ∷ ran 0 ∷ nobody ∷ [])
    (tallied (1 ∷ 1 ∷ []) 1 (table_of 3 (running 1 9 5 0 ∷ running 1 8 5 0 ∷ [])))

-- R46: a period ends and begins anew, and the counts go on
abbrev renewal : StepCase
renewal =
    steps (tallied (7 ∷ 5 ∷ []) 3 (table_of 20 (running 3 4 3 1 ∷ running 2 4 3 0 ∷ []))) (ran 0 ∷ [])
    (ran_last 0 (tallied (8 ∷ 5 ∷ []) 3 (table_of 21 (running 3 4 0 3 ∷ running 2 4 0 2 ∷ []))))

-- R47: one line starts; the other waits on; their counts stay
abbrev starts : StepCase
starts =
    steps (tallied (4 ∷ 6 ∷ []) 0 (table_of 10 (waiting 2 5 1 ∷ waiting 2 5 2 ∷ []))) (nobody ∷ [])
    (tallied (4 ∷ 6 ∷ []) 1 (table_of 11 (running 2 5 0 2 ∷ waiting 2 5 1 ∷ [])))

-- R34: the tick is slot 0's, and slot 1 ends short
abbrev ends_short : StepCase
ends_short = keeps (table_of 0 (running 1 4 3 1 ∷ running 1 4 3 1 ∷ [])) (refused 14 1)

-- R34, R19: the lowest of two that end short
abbrev lowest_short : StepCase
lowest_short = keeps (table_of 0 (running 2 4 0 2 ∷ running 1 4 3 1 ∷ running 1 4 3 1 ∷ running 1 4 3 1 ∷ [])) (refused 14 2)

-- R48: 4 before 14, and 15 before 4; beside each the first fault is mended
abbrev orders : List StepCase
orders =
    keeps (table_of 0 (running 1 4 3 1 ∷ running 1 4 3 1 ∷ running 0 4 0 0 ∷ [])) (refused 4 2)
    ∷ keeps (table_of 0 (running 1 4 3 1 ∷ running 1 4 3 1 ∷ running 1 4 0 0 ∷ [])) (refused 14 1)
    ∷ keeps (table_of (2 ^ 48) (empty ∷ running 0 4 0 0 ∷ [])) (refused 15 0)
    ∷ keeps (table_of (2 ^ 48 - 1) (empty ∷ running 0 4 0 0 ∷ [])) (refused 4 1)
    ∷ []

-- R95, R96: at this clock and with these counts, a line that is owed has the tick, or the step is refused with 4 at place 0
abbrev tally_at : (clock : ℕ) → List ℕ → (idle : ℕ) → Table
tally_at k ns n = tallied ns n (table_of k (running 2 9 1 1 ∷ []))

-- R96: as many as the clock, and one more; any count alone may be too many, that of a slot that holds nothing and the idle one included; sums that would wrap
-- in 64 bits do not
abbrev too_many : List StepCase
too_many =
    steps (tally_at 30 (12 ∷ 0 ∷ 8 ∷ []) 10) (ran 0 ∷ []) (ran_last 0 (tallied (13 ∷ 0 ∷ 8 ∷ []) 10 (table_of 31 (running 2 9 2 0 ∷ []))))
    ∷ keeps (tally_at 30 (13 ∷ 0 ∷ 8 ∷ []) 10) (refused 4 0)
    ∷ keeps (tally_at 30 (12 ∷ 0 ∷ 9 ∷ []) 10) (refused 4 0)
    ∷ keeps (tally_at 30 (12 ∷ 0 ∷ 8 ∷ []) 11) (refused 4 0)
    ∷ keeps (tally_at 30 (replicate 15 0 ++ (31 ∷ [])) 0) (refused 4 0)
    ∷ steps (tally_at 30 (replicate 15 0 ++ (30 ∷ [])) 0) (ran 0 ∷ []) (ran_last 0 (tallied (1 ∷ (replicate 14 0 ++ (30 ∷ []))) 0 (table_of 31 (running 2 9 2 0 ∷ []))))
    ∷ keeps (tally_at 30 ((2 ^ 63) ∷ (2 ^ 63) ∷ []) 0) (refused 4 0)
    ∷ keeps (tally_at 30 (replicate 16 (2 ^ 60)) 5) (refused 4 0)
    ∷ keeps (tally_at 30 ((2 ^ 64 - 1) ∷ []) 1) (refused 4 0)
    ∷ keeps (tally_at (2 ^ 48 - 1) ((2 ^ 48) ∷ []) 0) (refused 4 0)
    ∷ steps (tally_at (2 ^ 48 - 1) ((2 ^ 48 - 1) ∷ []) 0) (ran 0 ∷ []) (ran_last 0 (tallied ((2 ^ 48) ∷ []) 0 (table_of (2 ^ 48) (running 2 9 2 0 ∷ []))))
    ∷ []

-- R48, R96: the lines before the counts, these before 14, and 15 before them; beside each the first fault is mended
abbrev count_orders : List StepCase
count_orders =
    keeps (tallied (1 ∷ []) 0 (table_of 0 (running 1 4 3 1 ∷ running 1 4 3 1 ∷ running 0 4 0 0 ∷ []))) (refused 4 2)
    ∷ keeps (tallied (1 ∷ []) 0 (table_of 0 (running 1 4 3 1 ∷ running 1 4 3 1 ∷ running 1 4 0 0 ∷ []))) (refused 4 0)
    ∷ keeps (table_of 0 (running 1 4 3 1 ∷ running 1 4 3 1 ∷ running 1 4 0 0 ∷ [])) (refused 14 1)
    ∷ keeps (tally_at (2 ^ 48) ((2 ^ 48 + 1) ∷ []) 0) (refused 15 0)
    ∷ []

-- a step of a line alone in slot 3, which nobody else's numbers touch: it has the tick, or nobody has
abbrev third : Slot → Said (Option ℕ) → (had idle last : ℕ) → Slot → StepCase
third s a h n k u =
    steps (table_of 0 (empty ∷ empty ∷ empty ∷ s ∷ [])) (a ∷ []) (ran_last k (tallied (0 ∷ 0 ∷ 0 ∷ h ∷ []) n (table_of 1 (empty ∷ empty ∷ empty ∷ u ∷ []))))

abbrev serves : (before after : Slot) → StepCase
serves s u = third s (ran 3) 1 0 3 u

abbrev rests : (before after : Slot) → StepCase
rests s u = third s nobody 0 1 no_slot u

abbrev unsound : Slot → StepCase
unsound s = keeps (table_of 0 (empty ∷ empty ∷ empty ∷ s ∷ [])) (refused 4 3)

-- R5, R24: each number of a running and of a waiting line at its edge, and beyond it alone
abbrev soundness : List StepCase
soundness =
    rests (running 1 4 0 0) (running 1 4 1 0)
    ∷ unsound (running 0 4 0 0)
    ∷ rests (running 4 4 0 0) (running 4 4 1 0)
    ∷ unsound (running 5 4 0 0)
    ∷ serves (running 2 4 0 2) (running 2 4 1 1)
    ∷ unsound (running 2 4 0 3)
    ∷ rests (running 2 4 3 0) (running 2 4 0 2)
    ∷ unsound (running 2 4 4 0)
    ∷ serves (running 2 65535 65533 1) (running 2 65535 65534 0)
    ∷ rests (waiting 1 4 2) (waiting 1 4 1)
    ∷ unsound (waiting 0 4 2)
    ∷ rests (waiting 4 4 2) (waiting 4 4 1)
    ∷ unsound (waiting 5 4 2)
    ∷ rests (waiting 4 4 1) (running 4 4 0 4)
    ∷ unsound (waiting 4 4 0)
    ∷ []

-- R44 to R46, R99, R101: a line that leaves has its turn as one that renews, in the lower slot of two with equal ends and in the higher, and with an end a tick sooner and a
-- tick later; it gets what is left of its period, which ends short like any other; at the end its slot holds nothing, and what it had, its last
-- tick included, has departed; two may go at once; a line that renews beside it goes on, and so does the count beside a slot that held nothing
abbrev departures : List StepCase
departures =
    steps (table_of 0 (parting 1 8 2 1 ∷ running 1 8 2 1 ∷ [])) (ran 0 ∷ ran 1 ∷ []) (ran_last 1 (tallied (1 ∷ 1 ∷ []) 0 (table_of 2 (parting 1 8 4 0 ∷ running 1 8 4 0 ∷ []))))
    ∷ steps (table_of 0 (running 1 8 2 1 ∷ parting 1 8 2 1 ∷ [])) (ran 0 ∷ ran 1 ∷ []) (ran_last 1 (tallied (1 ∷ 1 ∷ []) 0 (table_of 2 (running 1 8 4 0 ∷ parting 1 8 4 0 ∷ []))))
    ∷ steps (table_of 0 (running 1 8 2 1 ∷ parting 1 8 3 1 ∷ [])) (ran 1 ∷ []) (ran_last 1 (tallied (0 ∷ 1 ∷ []) 0 (table_of 1 (running 1 8 3 1 ∷ parting 1 8 4 0 ∷ []))))
    ∷ steps (table_of 0 (parting 1 8 2 1 ∷ running 1 8 3 1 ∷ [])) (ran 1 ∷ []) (ran_last 1 (tallied (0 ∷ 1 ∷ []) 0 (table_of 1 (parting 1 8 3 1 ∷ running 1 8 4 0 ∷ []))))
    ∷ steps (tallied_with (7 ∷ 5 ∷ []) 3 2 (table_of 20 (parting 3 4 3 1 ∷ running 2 4 3 0 ∷ []))) (ran 0 ∷ []) (tallied_with (0 ∷ 5 ∷ []) 3 10 (table_of 21 (empty ∷ running 2 4 0 2 ∷ [])))
    ∷ steps (tallied_with (7 ∷ 5 ∷ []) 3 2 (table_of 20 (parting 3 4 2 1 ∷ running 2 4 3 0 ∷ []))) (ran 0 ∷ []) (ran_last 0 (tallied_with (8 ∷ 5 ∷ []) 3 2 (table_of 21 (parting 3 4 3 0 ∷ running 2 4 0 2 ∷ []))))
    ∷ steps (tallied (4 ∷ 0 ∷ 6 ∷ 3 ∷ 5 ∷ []) 1 (table_of 20 (parting 3 8 7 0 ∷ empty ∷ parting 3 4 3 0 ∷ empty ∷ running 2 9 1 0 ∷ []))) (nobody ∷ [])
    (tallied_with (0 ∷ 0 ∷ 0 ∷ 3 ∷ 5 ∷ []) 2 10 (table_of 21 (empty ∷ empty ∷ empty ∷ empty ∷ running 2 9 2 0 ∷ [])))
    ∷ steps (table_of 0 (parting 2 4 0 2 ∷ running 1 9 0 1 ∷ [])) (ran 0 ∷ ran 0 ∷ ran 1 ∷ nobody ∷ nobody ∷ []) (tallied_with (0 ∷ 1 ∷ []) 2 2 (table_of 5 (empty ∷ running 1 9 5 0 ∷ [])))
    ∷ keeps (table_of 0 (running 1 4 3 1 ∷ parting 1 4 3 1 ∷ [])) (refused 14 1)
    ∷ keeps (table_of 0 (running 1 4 3 1 ∷ parting 5 4 3 1 ∷ [])) (refused 4 1)
    ∷ []

-- R96: the departed count too, alone and with the others
abbrev too_many_departed : List StepCase
too_many_departed =
    steps (tallied_with (12 ∷ []) 10 8 (table_of 30 (running 2 9 1 1 ∷ []))) (ran 0 ∷ []) (ran_last 0 (tallied_with (13 ∷ []) 10 8 (table_of 31 (running 2 9 2 0 ∷ []))))
    ∷ keeps (tallied_with (12 ∷ []) 10 9 (table_of 30 (running 2 9 1 1 ∷ []))) (refused 4 0)
    ∷ keeps (tallied_with [] 0 31 (table_of 30 (running 2 9 1 1 ∷ []))) (refused 4 0)
    ∷ keeps (tallied_with (1 ∷ []) 0 (2 ^ 64 - 1) (table_of 30 (running 2 9 1 1 ∷ []))) (refused 4 0)
    ∷ []

-- R7, R35: the last tick is reached, and not left
abbrev last_tick : StepCase
last_tick = steps (table_of (2 ^ 48 - 1) (running 1 4 0 1 ∷ [])) (ran 0 ∷ refused 15 0 ∷ []) (ran_last 0 (tallied (1 ∷ []) 0 (table_of (2 ^ 48) (running 1 4 1 0 ∷ []))))

-- all of them
unfoldable pub step_cases : List StepCase
step_cases = case_a ∷ equal_ends ∷ least_end ∷ renewal ∷ starts ∷ ends_short ∷ lowest_short ∷ last_tick ∷ (orders ++ (soundness ++ (too_many ++ (count_orders ++ (departures ++ too_many_departed)))))

-- what n steps of t say, and the table that they leave
abbrev pub stepped : ℕ → Table → List (Said (Option ℕ)) × Table
stepped zero t = ([], t)
stepped (suc n) t = let r = stepped n (step_of t).table in ((step_of t).answer ∷ r.0, r.1)

-- R44 to R48: each table with its steps
pub all_step_cases : map (λ (c : StepCase). stepped (length c.says) c.before) step_cases ≡ map (λ (c : StepCase). (c.says, c.next)) step_cases
unfolding lowest chosen settling advance step_of step_cases
all_step_cases = refl
