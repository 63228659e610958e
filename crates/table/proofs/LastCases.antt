-- The last slot, R44 and R105, by computation: what one step says of these lines where slot k ran last, and who ran last after it.
use Prim.Native.Nat.{ℕ}
use mathlib.Core.Path.{◌≡◌, refl}
use mathlib.Core.List.{List, [], ◌∷◌, ◌++◌, map}
use Rattle.std.specs.Prelude.{Option}
use lib.ListN.{replicate}
use Rattle.line.specs.declared.Slot.{Slot}
use Rattle.line.specs.Slots.{empty, lowest}
use Rattle.table.specs.Words.{no_slot, Said}
use Rattle.table.specs.Counts.{settling}
use Rattle.table.specs.Step.{chosen, advance, step_of}
use Rattle.table.specs.Cases.{running, parting, waiting, table_of, ran_last}
use Rattle.table.proofs.StepCases.{ran, nobody, refused}

-- slot `last` ran last; what the step says, and who ran last then
pub record LastCase : Type 0 where
  pub last : ℕ
  pub slots : List Slot
  pub says : Said (Option ℕ)
  pub next : ℕ

abbrev turn : (last : ℕ) → List Slot → Said (Option ℕ) → (next : ℕ) → LastCase
turn k l a n = record { last = k; slots = l; says = a; next = n }

-- slot j has the tick, and so ran last
abbrev goes : (last : ℕ) → List Slot → (j : ℕ) → LastCase
goes k l j = turn k l (ran j) j

-- a line with an end in 8 − age ticks, and two ticks owed or none
abbrev owed : (age : ℕ) → Slot
owed a = running 2 8 a 2

abbrev spent : (age : ℕ) → Slot
spent a = running 2 8 a 0

-- R44: of equal ends who ran last goes on, in any slot, also if it leaves; 15 is a slot, and what names none leaves the lowest
abbrev among_equals : List LastCase
among_equals =
    goes 0 (owed 2 ∷ owed 2 ∷ owed 2 ∷ []) 0
    ∷ goes 1 (owed 2 ∷ owed 2 ∷ owed 2 ∷ []) 1
    ∷ goes 2 (owed 2 ∷ owed 2 ∷ owed 2 ∷ []) 2
    ∷ goes 1 (owed 2 ∷ parting 2 8 2 2 ∷ []) 1
    ∷ goes 15 (owed 2 ∷ (replicate 14 empty ++ (owed 2 ∷ []))) 15
    ∷ goes 16 (owed 2 ∷ (replicate 14 empty ++ (owed 2 ∷ []))) 0
    ∷ goes 254 (owed 2 ∷ (replicate 14 empty ++ (owed 2 ∷ []))) 0
    ∷ goes no_slot (owed 2 ∷ (replicate 14 empty ++ (owed 2 ∷ []))) 0
    ∷ []

-- R44: another end a tick sooner takes the tick, in a lower slot and in a higher; a tick later it does not
abbrev sooner_ends : List LastCase
sooner_ends =
    goes 1 (owed 3 ∷ owed 2 ∷ []) 0
    ∷ goes 0 (owed 2 ∷ owed 3 ∷ []) 1
    ∷ goes 1 (owed 2 ∷ owed 3 ∷ []) 1
    ∷ goes 0 (owed 3 ∷ owed 2 ∷ []) 0
    ∷ []

-- R44, R105: it is owed nothing, though its end is as soon or sooner; its slot holds nothing; its line waits: the lowest of the others has the tick, and there is no fault
abbrev not_owed : List LastCase
not_owed =
    goes 2 (owed 2 ∷ owed 2 ∷ spent 2 ∷ []) 0
    ∷ goes 0 (spent 3 ∷ owed 2 ∷ owed 2 ∷ []) 1
    ∷ goes 1 (owed 2 ∷ empty ∷ owed 2 ∷ []) 0
    ∷ goes 1 (owed 2 ∷ waiting 2 8 6 ∷ []) 0
    ∷ []

-- R105: after an idle tick nobody ran last
abbrev idle_ticks : List LastCase
idle_ticks =
    turn 0 (spent 2 ∷ []) nobody no_slot
    ∷ turn 3 (spent 2 ∷ []) nobody no_slot
    ∷ turn 77 [] nobody no_slot
    ∷ []

-- R105, R46: a line that renews is still the one that ran last; one that is gone with the tick it got is not, and with another's tick changes nothing, wherever it stands
abbrev periods_end : List LastCase
periods_end =
    goes 0 (running 2 8 7 1 ∷ owed 2 ∷ []) 0
    ∷ turn 0 (parting 2 8 7 1 ∷ owed 2 ∷ []) (ran 0) no_slot
    ∷ turn no_slot (empty ∷ parting 2 8 7 1 ∷ []) (ran 1) no_slot
    ∷ goes 0 (parting 2 8 6 1 ∷ owed 2 ∷ []) 0
    ∷ goes 0 (parting 2 8 7 0 ∷ owed 2 ∷ []) 1
    ∷ goes 0 (owed 2 ∷ parting 2 8 7 0 ∷ []) 0
    ∷ goes 1 (owed 2 ∷ parting 2 8 7 0 ∷ []) 0
    ∷ []

-- R17, R34: a refusal keeps it; of two that cannot both be served the other ends short
abbrev refused_ticks : List LastCase
refused_ticks =
    turn 1 (running 1 8 7 1 ∷ running 1 8 7 1 ∷ []) (refused 14 0) 1
    ∷ turn 0 (running 1 8 7 1 ∷ running 1 8 7 1 ∷ []) (refused 14 1) 0
    ∷ turn 77 (running 1 8 7 1 ∷ running 1 8 7 1 ∷ []) (refused 14 1) 77
    ∷ turn 1 (owed 2 ∷ owed 8 ∷ []) (refused 4 1) 1
    ∷ []

-- all of them
unfoldable pub last_cases : List LastCase
last_cases = among_equals ++ (sooner_ends ++ (not_owed ++ (idle_ticks ++ (periods_end ++ refused_ticks))))

-- R44, R105: each of them
pub all_last_cases :
    map {B = Said (Option ℕ) × ℕ} (λ (c : LastCase). ((step_of (ran_last c.last (table_of 20 c.slots))).answer, (step_of (ran_last c.last (table_of 20 c.slots))).table.last)) last_cases
    ≡ map (λ (c : LastCase). (c.says, c.next)) last_cases
unfolding lowest chosen settling advance step_of last_cases
all_last_cases = refl
