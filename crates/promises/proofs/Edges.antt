-- The edges of the promises: each strictness with an example on each side of it.
use Rattle.std.specs.Prelude.{Ok, Err, None, Some}
use Prim.Native.Nat.{ℕ, zero, suc, ◌+◌, ◌-◌, ◌^◌, ◌≤◌, ◌<◌}
use mathlib.Core.Path.{◌≡◌, refl}
use mathlib.Core.List.{List, [], ◌∷◌, ◌++◌, map}
use native.Mathlib.Omega.{arith}
use native.Mathlib.Nat.{not-suc-le-zero}
use lib.ListN.{length, take, drop, replicate}
use Rattle.periods.specs.Multiples.{euclid, gcd_of, lcm_of, frame_from}
use Rattle.table.specs.declared.Table.{Table}
use Rattle.table.specs.declared.Request.{Request}
use Rattle.line.specs.Slots.{total, map_at, lowest}
use Rattle.line.specs.Streams.{due, every, ends_before}
use Rattle.line.specs.Demand.{last_end}
use Rattle.line.specs.Shares.{periods_in}
use Rattle.line.specs.Ends.{ends_of, slack, bound, greatest, soonest_of, first_short, start}
use Rattle.line.proofs.Search.{true_false}
use Rattle.table.specs.Words.{request_with, empty_table, refusal, Said}
use Rattle.table.specs.Ask.{ask_in, ask_of}
use Rattle.table.specs.Counts.{settling}
use Rattle.table.specs.Step.{Earliest, chosen, advance, step_of}
use Rattle.table.specs.Leave.{leave_of}
use Rattle.table.specs.Runs.{Act, asking, admitting, stepping, leaving, run, trace, times, idles, since}
use Rattle.table.specs.Cases.{running, table_of, case_a}
use Rattle.card.specs.declared.Reading.{Reading}
use Rattle.card.specs.Bytes.{marked}
use Rattle.card.specs.Card.{card_of, carrying}
use Rattle.card.specs.Reading.{record_of, records_of, read_with, read_of}
use Rattle.card.specs.Twin.{turned_with}
use Rattle.image.specs.Image.{image_of}
use Rattle.image.specs.Loading.{blank_from, slots_wrong, length_wrong, wrong_in, held_in, load_with, load_of}
use Rattle.promises.specs.Operations.{TriesRead, TriesLoad}
use Rattle.promises.specs.Demand1.{OnlyTen}
use Rattle.promises.specs.Demand3.{admitted_table, Unstretched, Unremoved, Misses, Sixteen}
use Rattle.theory.proofs.Step.{choose_earliest}
use Rattle.promises.specs.Last.{Got, ran_table}
use Rattle.promises.specs.Counted.{Unplaced, Occupied}
use Rattle.promises.specs.Example.{to_case_a, on_from_case_a}
use Rattle.promises.proofs.Demand1.{fixed_answer, refusal_keeps}
use Rattle.promises.proofs.Demand3.{has_all_its_need}
use Rattle.promises.proofs.Example.{case_a_admitted}
use Rattle.promises.proofs.Last.{who_ran_goes_on}

-- ---- what is read and loaded

-- R71, R56: whatever try_read answers to case A's card is that card, with no slot named
pub tried_card : (s : Said Reading) → TriesRead (card_of case_a.table case_a.request) s → s ≡ Ok (record { card = carrying case_a.table case_a.request; turned = 0 })
unfolding card_of marked record_of records_of read_with turned_with
tried_card s h = fixed_answer.try_read (card_of case_a.table case_a.request) s _ h refl

-- R71, R17, R57: whatever it answers to no bytes is refusal 11 at 0, and so they are refused
pub untried_card : (s : Said Reading) → TriesRead [] s → (s ≡ Err (refusal 11 0)) × (read_of [] ≡ Err (refusal 11 0))
unfolding marked record_of records_of read_with turned_with
untried_card s h = let e = fixed_answer.try_read [] s (Err (refusal 11 0)) h refl in (e, refusal_keeps.try_read [] s (refusal 11 0) h e)

-- R71, R83: whatever try_load answers to the empty table's image is the empty table
pub tried_image : (s : Said Table) → TriesLoad (image_of empty_table) s → s ≡ Ok empty_table
unfolding image_of blank_from slots_wrong length_wrong wrong_in held_in load_with lowest
tried_image s h = fixed_answer.try_load (image_of empty_table) s (Ok empty_table) h refl

-- R71, R17, R83: whatever it answers to no bytes is refusal 11 at 0, and so they are refused
pub untried_image : (s : Said Table) → TriesLoad [] s → (s ≡ Err (refusal 11 0)) × (load_of [] ≡ Err (refusal 11 0))
unfolding blank_from slots_wrong length_wrong wrong_in held_in load_with
untried_image s h = let e = fixed_answer.try_load [] s (Err (refusal 11 0)) h refl in (e, refusal_keeps.try_load [] s (refusal 11 0) h e)

-- ---- who ran goes on

-- two lines of the same need and period, beside the T' of those that are there
abbrev half : (T' : List ℕ) → Request
half ts = request_with (ts ++ replicate (16 - length ts) 0) 1 2

-- both are admitted, and the first has its tick
abbrev halves : List Act
halves = admitting (half []) ∷ admitting (half (2 ∷ [])) ∷ stepping ∷ []

-- R106: slot 1 gets a tick, renews, and is among the least ends then, also if it is asked to leave meanwhile
pub goes_on_met : Got halves 1 × (trace (asking (half (2 ∷ 2 ∷ [])) ∷ leaving 1 ∷ []) (ran_table halves) ≡ [])
    × Earliest (Some 1) (run (asking (half (2 ∷ 2 ∷ [])) ∷ leaving 1 ∷ []) (ran_table halves)).slots × ((run (asking (half (2 ∷ 2 ∷ [])) ∷ leaving 1 ∷ []) (ran_table halves)).clock < 2 ^ 48)
unfolding euclid gcd_of lcm_of frame_from total lowest due last_end map_at periods_in every ends_before ends_of slack bound greatest soonest_of first_short start ask_in ask_of chosen settling advance step_of leave_of
goes_on_met = (record { ran = refl; there = refl }, refl, choose_earliest (run (asking (half (2 ∷ 2 ∷ [])) ∷ leaving 1 ∷ []) (ran_table halves)), omega arith)

-- R106: so that tick is promised to it, with an ask and a leave between the two
pub goes_on_held : (step_of (run (asking (half (2 ∷ 2 ∷ [])) ∷ leaving 1 ∷ []) (ran_table halves))).answer ≡ Ok (Some 1)
goes_on_held = who_ran_goes_on halves 1 goes_on_met.0 (asking (half (2 ∷ 2 ∷ [])) ∷ leaving 1 ∷ []) goes_on_met.1 goes_on_met.2 goes_on_met.3

-- R106: so the third tick is slot 1's; where its line is gone with the second, and another is admitted in its place, it is slot 0's
pub gone_edges : (trace (halves ++ (stepping ∷ stepping ∷ stepping ∷ [])) empty_table ≡ Some 0 ∷ Some 1 ∷ Some 1 ∷ Some 0 ∷ [])
    × (trace (halves ++ (leaving 1 ∷ stepping ∷ admitting (half (2 ∷ [])) ∷ stepping ∷ [])) empty_table ≡ Some 0 ∷ Some 1 ∷ Some 0 ∷ [])
unfolding euclid gcd_of lcm_of frame_from total lowest due last_end map_at periods_in every ends_before ends_of slack bound greatest soonest_of first_short start ask_in ask_of chosen settling advance step_of leave_of
gone_edges = (refl, refl)

-- lines of (2, 6) and (4, 6), and eight ticks
abbrev two_of_six : List Act
two_of_six = admitting (request_with (replicate 16 0) 2 6) ∷ admitting (request_with (6 ∷ replicate 15 0) 4 6) ∷ replicate 8 stepping

-- R44, R107: ask answers alike for a table, not along a history: after a run in which the lowest of equals had each tick the start would be 9
pub history_edges : (trace two_of_six empty_table ≡ Some 0 ∷ Some 0 ∷ replicate 6 (Some 1))
    × ((ask_of (run two_of_six empty_table) (request_with (24 ∷ 6 ∷ replicate 14 0) 1 4)) ≡ Ok 8)
    × ((ask_of (table_of 8 (running 2 6 2 0 ∷ running 4 6 2 4 ∷ [])) (request_with (24 ∷ 6 ∷ replicate 14 0) 1 4)) ≡ Ok 9)
unfolding euclid gcd_of lcm_of frame_from total lowest due last_end map_at periods_in every ends_before ends_of slack bound greatest soonest_of first_short start ask_in ask_of chosen settling advance step_of
history_edges = (refl, refl, refl)

-- ---- a miss before the last end

-- a line that is owed two ticks in the last tick of its period: it ends short at 6
abbrev ending : Table
ending = table_of 5 (running 2 4 3 2 ∷ [])

-- R77: the miss at 6 is before 7
pub misses_before : Misses ending 7
unfolding lowest chosen settling advance step_of
misses_before = record { steps = 0; slot = 0; goes = λ m h. absurd (not-suc-le-zero h); misses = refl; before = omega arith }

-- R77: one that falls on the last end is none
pub no_miss_on_the_last_end : Misses ending 6 → ⊥
no_miss_on_the_last_end m = omega (arith, m.before)

-- ---- a stretch before a tick

-- at clock 5 slot 0 is given p for its period of 4
abbrev one_line : Table
one_line = table_of 5 (running 1 4 0 1 ∷ [])

abbrev to_period : ℕ → Request
to_period p = request_with (p ∷ replicate 15 0) 1 4

-- R76: at the tick 5 itself it is not before 5
pub stretch_at_the_tick : Unstretched 0 5 (admitting (to_period 8) ∷ []) one_line
stretch_at_the_tick = ((λ h s. omega arith), tt)

-- R76: it is before 6
pub stretch_before_the_tick : Unstretched 0 6 (admitting (to_period 8) ∷ []) one_line → ⊥
unfolding euclid gcd_of lcm_of frame_from total lowest due last_end map_at periods_in every ends_before ends_of slack bound greatest soonest_of first_short start ask_in ask_of
stretch_before_the_tick u = u.0 (omega arith) ((5, refl), omega arith)

-- R76: an equal period is no stretch, nor is a longer one that is only asked for
pub no_stretch : Unstretched 0 6 (admitting (to_period 4) ∷ []) one_line × Unstretched 0 6 (asking (to_period 8) ∷ []) one_line
no_stretch = (((λ h s. omega (arith, s.1)), tt), ((λ h s. s), tt))

-- ---- the list of slots that ran

-- a line is admitted and runs for a period; then another is, and both run
abbrev two_lines : List Act
two_lines = admitting (request_with (replicate 16 0) 1 2) ∷ stepping ∷ stepping ∷ admitting (request_with (2 ∷ replicate 15 0) 1 4) ∷ stepping ∷ stepping ∷ []

-- R76: in case A slot 2 waits five ticks, and of the four ticks from its start on it gets one
pub trace_a : trace on_from_case_a (admitted_table to_case_a case_a.request) ≡ replicate 8 (Some 1) ++ (Some 2 ∷ [])
unfolding euclid gcd_of lcm_of frame_from total lowest due last_end map_at periods_in every ends_before ends_of slack bound greatest soonest_of first_short start ask_in ask_of chosen settling advance step_of
trace_a = refl

-- R73, R76: a tick that goes to nobody names no slot, and a refused step is no tick
pub times_edges : (times 1 (Some 1 ∷ None ∷ Some 2 ∷ Some 1 ∷ []) ≡ 2) × (trace (stepping ∷ stepping ∷ []) (table_of 0 (running 1 4 2 0 ∷ [])) ≡ None ∷ None ∷ [])
    × (trace (stepping ∷ []) ending ≡ [])
unfolding lowest chosen settling advance step_of
times_edges = (refl, refl, refl)

-- R79: what ran before an admission counts for the slots that were there, and not for the new line's, nor for a slot that holds none
pub since_edges : (since 1 two_lines ≡ Some 0 ∷ Some 1 ∷ []) × (since 0 two_lines ≡ Some 0 ∷ None ∷ Some 0 ∷ Some 1 ∷ []) × (since 2 two_lines ≡ [])
unfolding euclid gcd_of lcm_of frame_from total lowest due last_end map_at periods_in every ends_before ends_of slack bound greatest soonest_of first_short start ask_in ask_of chosen settling advance step_of
since_edges = (refl, refl, refl)

-- R79: who has had what then, and how many ticks were idle
pub had_edges : ((run two_lines empty_table).had ≡ 2 ∷ 1 ∷ replicate 14 0) × ((run two_lines empty_table).idle ≡ 1) × ((run two_lines empty_table).clock ≡ 4)
    × (idles (Some 1 ∷ None ∷ Some 2 ∷ None ∷ None ∷ []) ≡ 3)
unfolding euclid gcd_of lcm_of frame_from total lowest due last_end map_at periods_in every ends_before ends_of slack bound greatest soonest_of first_short start ask_in ask_of chosen settling advance step_of
had_edges = (refl, refl, refl, refl)

-- R79: the admission puts a line into slot 2 and into no other; an ask that is granted and a refused admission put none
pub placed_edges : (Unplaced 2 (admitting case_a.request ∷ []) case_a.table → ⊥) × Unplaced 1 (admitting case_a.request ∷ []) case_a.table
    × Unplaced 2 (asking case_a.request ∷ admitting (request_with (replicate 16 0) 1 4) ∷ []) case_a.table
unfolding euclid gcd_of lcm_of frame_from total lowest due last_end map_at periods_in every ends_before ends_of slack bound greatest soonest_of first_short start ask_in ask_of chosen settling advance step_of
placed_edges = ((λ u. true_false refl u.0), (refl, tt), (refl, (refl, tt)))

-- nine ticks, and then at 17, when slot 2 has had its period, it is stretched
abbrev stretched_after : List Act
stretched_after = on_from_case_a ++ (admitting (request_with (replicate 16 32) 1 32) ∷ [])

stretched_in_time : Unstretched 2 (13 + 4) stretched_after (admitted_table to_case_a case_a.request)
unfolding euclid gcd_of lcm_of frame_from total lowest due last_end map_at periods_in every ends_before ends_of slack bound greatest soonest_of first_short start ask_in ask_of chosen settling advance step_of
stretched_in_time =
    ((λ h s. s), ((λ h s. s), ((λ h s. s), ((λ h s. s), ((λ h s. s), ((λ h s. s), ((λ h s. s), ((λ h s. s), ((λ h s. s), ((λ h s. omega arith), tt))))))))))

stretched_unremoved : Unremoved 2 13 stretched_after (admitted_table to_case_a case_a.request)
stretched_unremoved =
    ((λ h s. s), ((λ h s. s), ((λ h s. s), ((λ h s. s), ((λ h s. s), ((λ h s. s), ((λ h s. s), ((λ h s. s), ((λ h s. s), ((λ h s. s), tt))))))))))

stretched_late : 13 + 4 ≤ (run stretched_after (admitted_table to_case_a case_a.request)).clock
unfolding euclid gcd_of lcm_of frame_from total lowest due last_end map_at periods_in every ends_before ends_of slack bound greatest soonest_of first_short start ask_in ask_of chosen settling advance step_of
stretched_late = omega arith

-- R76: a stretch at one period after the start comes too late to matter
pub need_before_the_stretch : times 2 (take 4 (drop 5 (trace stretched_after (admitted_table to_case_a case_a.request)))) ≡ 1
unfolding euclid gcd_of lcm_of frame_from total lowest due last_end map_at periods_in every ends_before ends_of slack bound greatest soonest_of first_short start ask_in ask_of chosen settling advance step_of
need_before_the_stretch = has_all_its_need to_case_a case_a.request 13 2 case_a_admitted stretched_after stretched_unremoved stretched_in_time stretched_late

-- ---- lines that leave

-- a line of 1 in 2 is admitted, runs, is asked to leave, and is gone a tick later; then another is admitted to its slot, and runs
abbrev leaves_and_comes : List Act
leaves_and_comes = admitting (request_with (replicate 16 0) 1 2) ∷ stepping ∷ leaving 0 ∷ stepping ∷ admitting (request_with (replicate 16 0) 1 4) ∷ stepping ∷ []

-- R79, R101: the slot's list begins anew when its line is gone, and with the next line; what the first had has departed
pub departed_edges : (map (λ (n : ℕ). times 0 (since 0 (take n leaves_and_comes))) (2 ∷ 3 ∷ 4 ∷ 5 ∷ 6 ∷ []) ≡ 1 ∷ 1 ∷ 0 ∷ 0 ∷ 1 ∷ [])
    × (map (λ (n : ℕ). (run (take n leaves_and_comes) empty_table).departed) (3 ∷ 4 ∷ 6 ∷ []) ≡ 0 ∷ 1 ∷ 1 ∷ [])
    × ((run leaves_and_comes empty_table).had ≡ 1 ∷ replicate 15 0) × ((run leaves_and_comes empty_table).idle ≡ 1) × ((run leaves_and_comes empty_table).clock ≡ 3)
    × (trace leaves_and_comes empty_table ≡ Some 0 ∷ None ∷ Some 0 ∷ [])
unfolding euclid gcd_of lcm_of frame_from total lowest due last_end map_at periods_in every ends_before ends_of slack bound greatest soonest_of first_short start ask_in ask_of chosen settling advance step_of leave_of
departed_edges = (refl, refl, refl, refl, refl, refl)

-- R79: up to its end the line is there, and after it not
pub occupied_edges : Occupied 0 (take 3 leaves_and_comes) empty_table × (Occupied 0 (take 4 leaves_and_comes) empty_table → ⊥)
unfolding euclid gcd_of lcm_of frame_from total lowest due last_end map_at periods_in every ends_before ends_of slack bound greatest soonest_of first_short start ask_in ask_of chosen settling advance step_of leave_of
occupied_edges = ((refl, (refl, (refl, tt))), λ u. true_false refl u.1.1.1.0)

-- R75: at 8 slot 2 waits to 13: to ask it to leave removes it, before 9 and not before 8; to ask slot 1, which runs, or to ask slot 2 for another does not
pub removed_edges :
    (Unremoved 2 9 (leaving 2 ∷ []) (admitted_table to_case_a case_a.request) → ⊥)
    × Unremoved 2 8 (leaving 2 ∷ []) (admitted_table to_case_a case_a.request)
    × Unremoved 1 9 (leaving 1 ∷ []) (admitted_table to_case_a case_a.request)
    × Unremoved 2 9 (leaving 1 ∷ []) (admitted_table to_case_a case_a.request)
unfolding euclid gcd_of lcm_of frame_from total lowest due last_end map_at periods_in every ends_before ends_of slack bound greatest soonest_of first_short start ask_in ask_of chosen settling advance step_of
removed_edges = ((λ u. u.0 (omega arith) (refl, refl)), ((λ h. omega arith), tt), ((λ h s. true_false s.1 refl), tt), ((λ h s. omega (arith, s.0)), tt))

-- ---- sixteen bits

abbrev with_first : ℕ → Request
with_first p = request_with (p ∷ []) 1 4

-- R6: 65,535 is one, 65,536 is none
pub sixteen_edges_lem : Sixteen (with_first 65535) × (Sixteen (with_first 65536) → ⊥)
sixteen_edges_lem = (low, λ s. omega (arith, s 0))
  where
    low : Sixteen (with_first 65535)
    low zero = omega arith
    low (suc i) = omega arith

-- ---- who says a tick and an excess

-- R103: with 10 an excess of 1 and of 0; with 9, and with 0, nothing, a tick alone and an excess alone
pub only_ten_edges : OnlyTen 10 3 1
    × (OnlyTen 10 3 0 → ⊥)
    × OnlyTen 9 0 0
    × (OnlyTen 9 3 0 → ⊥)
    × (OnlyTen 9 0 1 → ⊥)
    × OnlyTen 0 0 0
    × (OnlyTen 0 0 1 → ⊥)
only_ten_edges = (
  record { ten = λ e. omega arith; others = λ h. absurd (h refl) },
  (λ h. omega (arith, h.ten refl)),
  record { ten = λ e. absurd (omega arith); others = λ h. (refl, refl) },
  (λ h. omega (arith, (h.others (λ e. omega arith)).0)),
  (λ h. omega (arith, (h.others (λ e. omega arith)).1)),
  record { ten = λ e. absurd (omega arith); others = λ h. (refl, refl) },
  (λ h. omega (arith, (h.others (λ e. omega arith)).1)),
)
