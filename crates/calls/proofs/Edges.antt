-- The calls at their edges, by computation: results, short buffers, refused cards, and runs that stop.
use Rattle.std.specs.Prelude.{Ok, Err, None, Some}
use Prim.Native.Nat.{ℕ, ◌-◌, ◌^◌}
use mathlib.Core.Path.{◌≡◌, refl}
use mathlib.Core.List.{List, [], ◌∷◌, ◌++◌, map}
use lib.ListN.{take, replicate}
use Rattle.periods.specs.Multiples.{euclid, gcd_of, lcm_of, frame_from}
use Rattle.table.specs.declared.Table.{Table}
use Rattle.line.specs.Slots.{total, lowest, map_at}
use Rattle.table.specs.Words.{refusal, short_refusal, slot_number}
use Rattle.line.specs.Streams.{due, every, ends_before}
use Rattle.line.specs.Demand.{last_end}
use Rattle.line.specs.Shares.{periods_in}
use Rattle.line.specs.Ends.{ends_of, slack, bound, greatest, soonest_of, first_short, start}
use Rattle.table.specs.Ask.{ask_in, ask_of}
use Rattle.table.specs.Counts.{settling}
use Rattle.table.specs.Step.{chosen, advance, step_of}
use Rattle.table.specs.Cases.{running, table_of}
use Rattle.card.specs.Bytes.{marked}
use Rattle.card.specs.Card.{card_of}
use Rattle.card.specs.Reading.{record_of, records_of, read_with}
use Rattle.card.specs.Twin.{turned_with}
use Rattle.card.specs.Answers.{length_of}
use Rattle.calls.specs.Results.{granted_as, result_of}
use Rattle.calls.specs.Cards.{answer_of, said_put, put_of, rewrite_as, rewritten_of, counted, ticks_run, run_admitted, run_of}

-- R63, R103: what is given is the value, 0 too, and a refusal its number and place, and of refusal 10 the tick before the excess
pub result_edges : map result_of (Ok 0 ∷ Ok 208 ∷ Err (refusal 1 0) ∷ Err (refusal 14 7) ∷ Err (short_refusal 103 2) ∷ [])
    ≡ granted_as 0 0
    ∷ granted_as 0 208
    ∷ record { number = 1; place = 0; value = 0; tick = 0; excess = 0 }
    ∷ record { number = 14; place = 7; value = 0; tick = 0; excess = 0 }
    ∷ record { number = 10; place = 0; value = 0; tick = 103; excess = 2 }
    ∷ []
result_edges = refl

-- R63: number, place and value in this order, and none is no slot's number
pub slot_edges_lem : (granted_as 3 5 ≡ record { number = 0; place = 3; value = 5; tick = 0; excess = 0 }) × (map slot_number (None ∷ Some 0 ∷ Some 15 ∷ []) ≡ 255 ∷ 0 ∷ 15 ∷ [])
slot_edges_lem = (refl, refl)

-- R33: a line that was not put is refusal 13 at place 0
pub put_edges_lem : map said_put (Some 0 ∷ Some 40 ∷ None ∷ []) ≡ Ok 0 ∷ Ok 40 ∷ Err (refusal 13 0) ∷ []
put_edges_lem = refl

-- R33, R64: three bytes do not fit two, and fit three and four
pub room_edges : map (put_of (1 ∷ 2 ∷ 3 ∷ [])) ((7 ∷ 7 ∷ []) ∷ (7 ∷ 7 ∷ 7 ∷ []) ∷ (7 ∷ 7 ∷ 7 ∷ 7 ∷ []) ∷ []) ≡ Err (refusal 13 0) ∷ Ok 3 ∷ Ok 3 ∷ []
room_edges = refl

-- R66: a tick counts once, whichever slot ran
pub count_edges_lem : map counted (None ∷ Some 0 ∷ Some 15 ∷ []) ≡ 0 ∷ 1 ∷ 1 ∷ []
count_edges_lem = refl

-- case C's card, and the same with a need of 0
abbrev empty_card : (Cn : ℕ) → List ℕ
empty_card n = 0x43 ∷ 0x4B ∷ 0 ∷ 0 ∷ 0 ∷ 0 ∷ 0 ∷ 0 ∷ 0 ∷ 0 ∷ 0x52 ∷ 0x51 ∷ n ∷ 0 ∷ 5 ∷ 0 ∷ []

-- R60: no byte is the reader's refusal; a card that reads gets ask's, or the start
pub answer_edges : map answer_of ([] ∷ empty_card 0 ∷ empty_card 3 ∷ []) ≡ Err (refusal 11 0) ∷ Err (refusal 6 0) ∷ Ok 0 ∷ []
unfolding read_with records_of record_of marked euclid gcd_of lcm_of frame_from total lowest due last_end map_at periods_in every ends_before ends_of slack bound greatest soonest_of first_short start ask_in ask_of
answer_edges = refl

-- R65: a card that does not read is not written, and the buffer stays
pub refused_rewrite_keeps : (rewrite_as [] 40 ≡ record { number = 11; place = 0; value = 0; tick = 0; excess = 0 }) × (rewritten_of [] (7 ∷ 8 ∷ []) ≡ 7 ∷ 8 ∷ [])
unfolding read_with
refused_rewrite_keeps = (refl, refl)

-- a card of 28 bytes with one line, under TA, whose age and remaining are equal; and its twin
abbrev old_card : List ℕ
old_card = 0x43 ∷ 0x4B ∷ 0 ∷ 0 ∷ 0 ∷ 0 ∷ 0 ∷ 0 ∷ 0 ∷ 0 ∷ 0x54 ∷ 0x41 ∷ 5 ∷ 0 ∷ 9 ∷ 0 ∷ 9 ∷ 0 ∷ 4 ∷ 0 ∷ 4 ∷ 0 ∷ 0x52 ∷ 0x51 ∷ 3 ∷ 0 ∷ 5 ∷ 0 ∷ []

abbrev new_card : List ℕ
new_card = 0x43 ∷ 0x4B ∷ 0 ∷ 0 ∷ 0 ∷ 0 ∷ 0 ∷ 0 ∷ 0 ∷ 0 ∷ 0x54 ∷ 0x42 ∷ 5 ∷ 0 ∷ 9 ∷ 0 ∷ 9 ∷ 0 ∷ 4 ∷ 0 ∷ 4 ∷ 0 ∷ 0x52 ∷ 0x51 ∷ 3 ∷ 0 ∷ 5 ∷ 0 ∷ []

-- R65: its slot is named where there is room for it, and a refusal, 13 or 11, names its place alone
pub rewrite_edges : map (rewrite_as old_card) (27 ∷ 28 ∷ 29 ∷ []) ≡ record { number = 13; place = 0; value = 0; tick = 0; excess = 0 } ∷ granted_as 1 28 ∷ granted_as 1 28 ∷ []
unfolding read_with turned_with records_of record_of marked lowest card_of length_of
rewrite_edges = refl

-- R65: a card without TA names no slot; cut by a byte, either is refused where its last record begins
pub rewrite_new_edges : map (λ (l : List ℕ). rewrite_as l 40) (new_card ∷ take 27 new_card ∷ take 27 old_card ∷ take 21 old_card ∷ [])
    ≡ granted_as 0 28 ∷ record { number = 11; place = 22; value = 0; tick = 0; excess = 0 } ∷ record { number = 11; place = 22; value = 0; tick = 0; excess = 0 } ∷ record { number = 11; place = 10; value = 0; tick = 0; excess = 0 } ∷ []
unfolding read_with turned_with records_of record_of marked lowest card_of length_of
rewrite_new_edges = refl

-- R65, R72: what the buffer holds then
pub rewritten_edges : (rewritten_of old_card (replicate 27 7) ≡ replicate 27 7) × (rewritten_of old_card (replicate 30 7) ≡ new_card ++ (7 ∷ 7 ∷ []))
unfolding read_with records_of record_of marked lowest card_of length_of
rewritten_edges = (refl, refl)

-- R66: no tick, one, a whole period, and two ticks of the next
pub run_edges : map (run_of (empty_card 3)) (0 ∷ 1 ∷ 5 ∷ 7 ∷ []) ≡ Ok 0 ∷ Ok 1 ∷ Ok 3 ∷ Ok 5 ∷ []
unfolding read_with records_of record_of marked euclid gcd_of lcm_of frame_from total lowest due last_end map_at periods_in every ends_before ends_of slack bound greatest soonest_of first_short start ask_in ask_of chosen settling advance step_of ticks_run
run_edges = refl

-- R66: the reader's refusal, with no tick to run and with some
pub refused_card_runs : map (run_of []) (0 ∷ 5 ∷ []) ≡ Err (refusal 11 0) ∷ Err (refusal 11 0) ∷ []
unfolding read_with
refused_card_runs = refl

-- R66: ask's refusal, with no tick to run and with some
pub refused_request_runs : map (run_of (empty_card 0)) (0 ∷ 5 ∷ []) ≡ Err (refusal 6 0) ∷ Err (refusal 6 0) ∷ []
unfolding read_with records_of record_of marked lowest ask_of ticks_run
refused_request_runs = refl

-- three ticks of need in two: slot 1 is one short
abbrev crowded : Table
crowded = table_of 0 (running 1 2 0 1 ∷ running 2 2 0 2 ∷ [])

-- a tick before the last
abbrev late : Table
late = table_of (2 ^ 48 - 1) (running 1 2 0 1 ∷ [])

-- R66, R34: the second step is refused, and no step after it is made
pub stops_at_a_short_period : map (λ (n : ℕ). run_admitted n (record { table = crowded; answer = Ok 0 })) (0 ∷ 1 ∷ 2 ∷ 3 ∷ []) ≡ Ok 0 ∷ Ok 1 ∷ Err (refusal 14 1) ∷ Err (refusal 14 1) ∷ []
unfolding lowest chosen settling advance step_of ticks_run
stops_at_a_short_period = refl

-- R66, R35: the step at the clock's end is refused, and the run with it
pub stops_at_the_last_tick : map (λ (n : ℕ). ticks_run n late) (0 ∷ 1 ∷ 2 ∷ 3 ∷ []) ≡ Ok 0 ∷ Ok 1 ∷ Err (refusal 15 0) ∷ Err (refusal 15 0) ∷ []
unfolding lowest chosen settling advance step_of ticks_run
stops_at_the_last_tick = refl

-- R66: a refused admission runs nothing, whatever table stands beside it
pub refused_admission_runs : map (λ (n : ℕ). run_admitted n (record { table = crowded; answer = Err (refusal 8 0) })) (0 ∷ 2 ∷ []) ≡ Err (refusal 8 0) ∷ Err (refusal 8 0) ∷ []
unfolding lowest chosen settling advance step_of ticks_run
refused_admission_runs = refl
