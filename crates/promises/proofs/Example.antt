-- The premises of R75 to R77, of R79 and of R80 are met: by the run to case A, its admission, and the nine ticks after it; those of R104 by case J.
use Rattle.std.specs.Prelude.{Ok, Err, Some}
use Prim.Native.Nat.{ℕ, zero, suc, ◌+◌, ◌^◌, ◌≤◌, ◌<◌}
use mathlib.Core.Path.{◌≡◌, refl}
use mathlib.Core.List.{[], ◌∷◌, map}
use native.Mathlib.Omega.{arith}
use lib.ListN.{get_or, replicate}
use Rattle.periods.specs.Multiples.{euclid, gcd_of, lcm_of, frame_from}
use Rattle.table.specs.Words.{empty_table, refusal, short_refusal}
use Rattle.line.specs.Slots.{run_with, RunsAs, at, total, map_at, Waits, lowest}
use Rattle.line.specs.Streams.{due, every, ends_before}
use Rattle.line.specs.Demand.{last_end}
use Rattle.line.specs.Shares.{periods_in}
use Rattle.line.specs.Ends.{ends_of, slack, bound, greatest, soonest_of, first_short, start}
use Rattle.table.specs.Ask.{ask_in, ask_of}
use Rattle.table.specs.Admit.{admitted_at}
use Rattle.table.specs.Counts.{settling}
use Rattle.table.specs.Step.{chosen, advance, step_of}
use Rattle.table.specs.Leave.{leave_of}
use Rattle.table.specs.Runs.{run}
use Rattle.table.specs.Cases.{tallied, ran_last, cases, case_a, case_j}
use Rattle.theory.proofs.Cases.{cases_answer}
use Rattle.promises.specs.Demand3.{Admission, admitted_table, Unstretched, Unremoved, stepped, Sixteen, Misses}
use Rattle.promises.specs.Late.{Tells}
use Rattle.promises.specs.Counted.{Unplaced, Occupied}
use Rattle.promises.specs.Example.{to_case_a, on_from_case_a}
use Rattle.promises.proofs.Demand3.{no_earlier_start}
use Rattle.promises.proofs.Late.{ten_tells}

-- R73, R97, R105: a run, in which slot 0 has had all eight ticks
pub comes_to_case_a : run to_case_a empty_table ≡ ran_last 0 (tallied (8 ∷ []) 0 case_a.table)
unfolding euclid gcd_of lcm_of frame_from total lowest due last_end map_at periods_in every ends_before ends_of slack bound greatest soonest_of first_short start ask_in ask_of chosen settling advance step_of
comes_to_case_a = refl

-- R75: an admission in a run: slot 2 is granted 13
pub case_a_admitted : Admission to_case_a case_a.request 13 2
unfolding euclid gcd_of lcm_of frame_from total lowest due last_end map_at periods_in every ends_before ends_of slack bound greatest soonest_of first_short start ask_in ask_of chosen settling advance step_of
case_a_admitted = record { granted = refl; slot = refl }

-- R76: the steps go on to 17, and none stretches slot 2
pub case_a_goes_on : 13 + 4 ≤ (run on_from_case_a (admitted_table to_case_a case_a.request)).clock
unfolding euclid gcd_of lcm_of frame_from total lowest due last_end map_at periods_in every ends_before ends_of slack bound greatest soonest_of first_short start ask_in ask_of chosen settling advance step_of
case_a_goes_on = omega arith

-- R76: none of them stretches slot 2
pub case_a_unstretched : Unstretched 2 (13 + 4) on_from_case_a (admitted_table to_case_a case_a.request)
case_a_unstretched = ((λ h s. s), ((λ h s. s), ((λ h s. s), ((λ h s. s), ((λ h s. s), ((λ h s. s), ((λ h s. s), ((λ h s. s), ((λ h s. s), tt)))))))))

-- R75: nor removes its line while it waits
pub case_a_unremoved : Unremoved 2 13 on_from_case_a (admitted_table to_case_a case_a.request)
case_a_unremoved = ((λ h s. s), ((λ h s. s), ((λ h s. s), ((λ h s. s), ((λ h s. s), ((λ h s. s), ((λ h s. s), ((λ h s. s), ((λ h s. s), tt)))))))))

-- R79: and it is there all the time
pub case_a_occupied : Occupied 2 on_from_case_a (admitted_table to_case_a case_a.request)
unfolding euclid gcd_of lcm_of frame_from total lowest due last_end map_at periods_in every ends_before ends_of slack bound greatest soonest_of first_short start ask_in ask_of chosen settling advance step_of
case_a_occupied = (refl, (refl, (refl, (refl, (refl, (refl, (refl, (refl, (refl, tt)))))))))

-- R79: into slot 2 no line was put before
pub case_a_unplaced : Unplaced 2 to_case_a empty_table
unfolding euclid gcd_of lcm_of frame_from total lowest due last_end map_at periods_in every ends_before ends_of slack bound greatest soonest_of first_short start ask_in ask_of chosen settling advance step_of
case_a_unplaced = (refl, (refl, (refl, (refl, (refl, (refl, (refl, (refl, (refl, (refl, tt))))))))))

-- R80: in the table of case A slot 1 runs, and may leave in eight ticks
pub case_a_parts : ((leave_of (run to_case_a empty_table) 1).answer ≡ Ok 8) × RunsAs 8 16 8 8 (at (run to_case_a empty_table).slots 1)
unfolding euclid gcd_of lcm_of frame_from total lowest due last_end map_at periods_in every ends_before ends_of slack bound greatest soonest_of first_short start ask_in ask_of chosen settling advance step_of leave_of
case_a_parts = (refl, (run_with 8 16 8 8, refl, refl, refl, refl, refl))

-- R100: with the new line admitted slot 2 waits, and may be removed at once
pub case_a_removed : ((leave_of (admitted_table to_case_a case_a.request) 2).answer ≡ Ok 0) × Waits (at (admitted_table to_case_a case_a.request).slots 2)
unfolding euclid gcd_of lcm_of frame_from total lowest due last_end map_at periods_in every ends_before ends_of slack bound greatest soonest_of first_short start ask_in ask_of chosen settling advance step_of leave_of
case_a_removed = (refl, refl)

-- earlier than 13, at 8 say, a period is missed before 32
zeros : (n i : ℕ) → get_or (replicate n 0) i 0 < 2 ^ 16
zeros zero i = omega arith
zeros (suc n) zero = omega arith
zeros (suc n) (suc i) = zeros n i

sixteen_a : Sixteen case_a.request
sixteen_a zero = omega arith
sixteen_a (suc zero) = omega arith
sixteen_a (suc (suc i)) = zeros 14 i

-- R77: at 8 some period ends short before 32
pub case_a_at_once_misses : Misses (admitted_at case_a.table case_a.request 8) 32
unfolding euclid gcd_of lcm_of frame_from total lowest due last_end map_at periods_in every ends_before ends_of slack bound greatest soonest_of first_short start ask_in ask_of
case_a_at_once_misses = no_earlier_start case_a.table case_a.request 13 8 sixteen_a refl (omega arith) (omega arith)

sixteen_j : Sixteen case_j.request
sixteen_j zero = omega arith
sixteen_j (suc zero) = omega arith
sixteen_j (suc (suc i)) = zeros 14 i

-- R104: case J is told 3: slot 0 ends then, and nothing before is late
pub case_j_tells : Tells case_j.table case_j.request 3
unfolding cases
case_j_tells = (ten_tells case_j.table case_j.request (short_refusal 3 2) sixteen_j cases_answer.1.1.1.1.1.1.1.1.1.0 refl).2

-- R104: two steps go, and the third, which ends at 3 and not before, reports 14 for slot 0
pub case_j_misses : (map (λ (n : ℕ). (step_of (stepped n case_j.table)).answer) (0 ∷ 1 ∷ 2 ∷ []) ≡ Ok (Some 0) ∷ Ok (Some 0) ∷ Err (refusal 14 0) ∷ [])
    × (case_j.table.clock + 2 + 1 ≡ 3)
unfolding lowest chosen settling advance step_of
case_j_misses = (refl, refl)
