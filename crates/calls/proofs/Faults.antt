-- The operations on images at their edges, by computation: what is answered and left for a table that was loaded, and for an image that is refused.
use Rattle.std.specs.Prelude.{Ok, Err}
use Prim.Native.Nat.{ℕ, zero, suc, ◌-◌, ◌/◌, ◌%◌, ◌^◌, ◌<◌}
use mathlib.Core.Path.{◌≡◌, refl}
use mathlib.Core.List.{List, [], ◌∷◌, ◌++◌, map}
use native.Mathlib.Omega.{arith}
use lib.ListN.{drop, replicate}
use Rattle.periods.specs.Multiples.{euclid, gcd_of, lcm_of, frame_from}
use Rattle.line.specs.Slots.{at, total, lowest, map_at}
use Rattle.line.specs.Tick.{is_owed}
use Rattle.line.specs.Streams.{due, every, ends_before}
use Rattle.line.specs.Demand.{last_end}
use Rattle.line.specs.Shares.{periods_in}
use Rattle.line.specs.Ends.{ends_of, slack, bound, greatest, soonest_of, first_short, start}
use Rattle.table.specs.declared.Table.{Table}
use Rattle.table.specs.Words.{table_with, refusal, Said}
use Rattle.table.specs.Ask.{ask_in, ask_of}
use Rattle.table.specs.Counts.{settling}
use Rattle.table.specs.Step.{chosen, advance, step_of}
use Rattle.table.specs.Leave.{leave_of}
use Rattle.table.specs.Cases.{running, parting, waiting, table_of, tallied_with, ran_last, case_a}
use Rattle.card.specs.Card.{carrying, card_of}
use Rattle.card.specs.Answers.{length_of}
use Rattle.board.specs.Board.{bit}
use Rattle.image.specs.Image.{image_of}
use Rattle.image.specs.Answers.{store_of}
use Rattle.calls.specs.Results.{granted_as, refused_as}
use Rattle.calls.specs.Tables.{request_of, changed, ask_for, after_admit, step_for, after_step, leave_for, after_leave, ReadyFor, counts_for, counts_after}
use Rattle.calls.specs.Moves.{eighteen, write_card_for, card_after, read_card_for, image_after, numbers_after}

-- an image that is refused
abbrev broken : Said Table
broken = Err (refusal 11 9)

-- R6: need, period and the T' go where they belong
pub request_edges_lem : ((request_of 1 4 (32 ∷ 16 ∷ [])).stretched ≡ 32 ∷ 16 ∷ []) × ((request_of 1 4 (32 ∷ 16 ∷ [])).need ≡ 1) × ((request_of 1 4 (32 ∷ 16 ∷ [])).period ≡ 4)
request_edges_lem = (refl, refl, refl)

-- R17: what is given changes the bytes, and a refusal leaves them
pub changed_edges : (changed {A = ℕ} (Ok 0) (1 ∷ []) (2 ∷ []) ≡ 1 ∷ []) × (changed {A = ℕ} (Err (refusal 8 0)) (1 ∷ []) (2 ∷ []) ≡ 2 ∷ [])
changed_edges = (refl, refl)

-- R86, R67: case A's start is 13, in slot 2; a refusal is ask's, and an image's comes before it
pub ask_edges_lem : (ask_for (Ok case_a.table) case_a.request ≡ granted_as 2 13)
    × (ask_for (Ok (table_of 0 (running 8 16 0 8 ∷ []))) (request_of 9 16 (16 ∷ [])) ≡ refused_as (refusal 8 0))
    × (ask_for (Ok (table_of 0 (waiting 1 4 3 ∷ []))) (request_of 0 0 []) ≡ refused_as (refusal 3 0))
    × (ask_for broken case_a.request ≡ refused_as (refusal 11 9))
unfolding euclid gcd_of lcm_of frame_from total lowest due last_end map_at periods_in every ends_before ends_of slack bound greatest soonest_of first_short start ask_in ask_of
ask_edges_lem = (refl, refl, refl, refl)

-- R87: a refused admission and a refused image leave every byte
pub admit_edges_lem : (after_admit (Ok (table_of 0 (waiting 1 4 3 ∷ []))) (request_of 0 0 []) (7 ∷ 8 ∷ []) ≡ 7 ∷ 8 ∷ [])
    × (after_admit broken case_a.request (7 ∷ 8 ∷ []) ≡ 7 ∷ 8 ∷ [])
unfolding lowest ask_of
admit_edges_lem = (refl, refl)

-- three ticks of need in two, after the first of them
abbrev crowded : Table
crowded = table_of 0 (running 1 2 1 0 ∷ running 2 2 1 2 ∷ [])

-- R88: the slot that ran, none, and each refusal of a step; an image's comes before them
pub step_edges : map step_for (
    Ok (table_of 0 (running 1 4 0 0 ∷ running 1 4 0 1 ∷ [])) ∷ Ok (table_of 0 (running 1 4 0 0 ∷ waiting 1 4 2 ∷ [])) ∷ Ok (table_of (2 ^ 48) []) ∷ Ok (table_of 0 (running 0 4 0 0 ∷ [])) ∷ Ok crowded ∷ broken ∷ [])
    ≡ granted_as 0 1 ∷ granted_as 0 255 ∷ refused_as (refusal 15 0) ∷ refused_as (refusal 4 0) ∷ refused_as (refusal 14 1) ∷ refused_as (refusal 11 9) ∷ []
unfolding lowest chosen settling advance step_of
step_edges = refl

-- R88: a refused step and a refused image leave every byte
pub step_leaves_edges : map (λ (s : Said Table). after_step s (7 ∷ 8 ∷ [])) (Ok (table_of (2 ^ 48) []) ∷ Ok crowded ∷ broken ∷ []) ≡ (7 ∷ 8 ∷ []) ∷ (7 ∷ 8 ∷ []) ∷ (7 ∷ 8 ∷ []) ∷ []
unfolding lowest chosen settling advance step_of
step_leaves_edges = refl

-- slot 0 runs, slot 1 waits, slot 2 leaves
abbrev several : Table
several = table_of 9 (running 2 8 3 1 ∷ waiting 1 4 3 ∷ parting 1 4 2 1 ∷ [])

-- R102: the ticks to the end of the running line's period, 0 of the waiting line, and each refusal of a leave with its place; an image's comes before them
pub leave_edges : (map (leave_for (Ok several)) (0 ∷ 1 ∷ 2 ∷ 3 ∷ 16 ∷ (2 ^ 64 - 1) ∷ [])
    ≡ granted_as 0 5 ∷ granted_as 0 0 ∷ refused_as (refusal 16 2) ∷ refused_as (refusal 16 3) ∷ refused_as (refusal 16 16) ∷ refused_as (refusal 16 (2 ^ 64 - 1)) ∷ [])
    × (leave_for (Ok (table_of 0 (running 0 4 0 0 ∷ []))) 99 ≡ refused_as (refusal 4 0))
    × (leave_for broken 99 ≡ refused_as (refusal 11 9))
unfolding lowest leave_of
leave_edges = (refl, refl, refl)

-- R102: a refused leave and a refused image leave every byte
pub leave_leaves_edges : map (λ (s : Said Table). after_leave s 99 (7 ∷ 8 ∷ [])) (Ok several ∷ Ok (table_of 0 (running 0 4 0 0 ∷ [])) ∷ broken ∷ [])
    ≡ (7 ∷ 8 ∷ []) ∷ (7 ∷ 8 ∷ []) ∷ (7 ∷ 8 ∷ []) ∷ []
unfolding lowest leave_of
leave_leaves_edges = refl

-- R102: the table with the line let go goes into a buffer that holds an image, and the byte after it stays
pub leave_stores : after_leave (Ok several) 0 (replicate 299 7) ≡ image_of (table_of 9 (parting 2 8 3 1 ∷ waiting 1 4 3 ∷ parting 1 4 2 1 ∷ [])) ++ (7 ∷ [])
unfolding lowest leave_of store_of image_of
leave_stores = refl

-- the last three of 299 bytes that were 7 before a call: the departed count's last byte, the last slot, and the byte behind the image
abbrev ending : (List ℕ → List ℕ) → List ℕ
ending after = drop 296 (after (replicate 299 7))

-- what they are where the image was stored with this last slot
abbrev last_is : ℕ → List ℕ
last_is k = 0 ∷ k ∷ 7 ∷ []

-- two lines that are owed and end together
abbrev equals : Table
equals = table_of 0 (running 1 4 0 1 ∷ running 1 4 0 1 ∷ [])

-- R88, R105: a step stores who ran, of two equals the one that ran last; none where no line ran, or where the one that ran is gone; a refused one stores nothing
pub step_stores_last : map (λ (t : Table). ending (after_step (Ok t))) (
    ran_last 0 (table_of 0 (running 1 4 0 0 ∷ running 1 4 0 1 ∷ [])) ∷ ran_last 255 equals ∷ ran_last 0 equals ∷ ran_last 1 equals ∷ ran_last 2 equals
    ∷ ran_last 0 (table_of 0 (running 1 4 0 0 ∷ [])) ∷ ran_last 0 (table_of 0 (parting 1 4 3 1 ∷ [])) ∷ ran_last 0 (table_of (2 ^ 48) []) ∷ [])
    ≡ map last_is (1 ∷ 0 ∷ 0 ∷ 1 ∷ 0 ∷ 255 ∷ 255 ∷ []) ++ ((7 ∷ 7 ∷ 7 ∷ []) ∷ [])
unfolding lowest chosen settling advance step_of store_of image_of
step_stores_last = refl

-- R87, R105: an admission keeps it, into the slot that it names too
pub admit_keeps_last : map (λ (k : ℕ). ending (after_admit (Ok (ran_last k (table_of 0 []))) (request_of 3 5 []))) (0 ∷ 1 ∷ 16 ∷ 255 ∷ []) ≡ map last_is (0 ∷ 1 ∷ 16 ∷ 255 ∷ [])
unfolding euclid gcd_of lcm_of frame_from total lowest due last_end map_at periods_in every ends_before ends_of slack bound greatest soonest_of first_short start ask_in ask_of store_of image_of
admit_keeps_last = refl

-- R102, R105: being asked to leave keeps it, being removed makes it none where it named that line, and a refused leave stores nothing
pub leave_stores_last : (map (λ (k : ℕ). ending (after_leave (Ok (ran_last k several)) 0)) (0 ∷ 1 ∷ []) ≡ map last_is (0 ∷ 1 ∷ []))
    × (map (λ (k : ℕ). ending (after_leave (Ok (ran_last k several)) 1)) (0 ∷ 1 ∷ 2 ∷ 16 ∷ 255 ∷ []) ≡ map last_is (0 ∷ 255 ∷ 2 ∷ 16 ∷ 255 ∷ []))
    × (ending (after_leave (Ok (ran_last 2 several)) 2) ≡ 7 ∷ 7 ∷ 7 ∷ [])
unfolding lowest leave_of store_of image_of
leave_stores_last = (refl, refl, refl)

-- R89: an image's refusal is the whole answer
pub ready_refused : ReadyFor broken (refused_as (refusal 11 9))
ready_refused = refl

-- R89, R49: a word is the value, and the place is 0
pub ready_granted_edges : ReadyFor (Ok (table_with 0 (running 2 4 0 2 ∷ []))) (granted_as 0 1)
ready_granted_edges = (refl, record { bits = bits; small = omega arith })
  where
    bits : (k : ℕ) → k < 1 → 1 / 2 ^ k % 2 ≡ bit (is_owed (at (running 2 4 0 2 ∷ []) k))
    bits zero h = refl
    bits (suc k) h = absurd (omega arith)

-- R91: the image's refusal, then the writer's 3, then its 13
pub write_edges_lem : map (λ (s : Said Table). write_card_for s (request_of 1 4 []) 15) (broken ∷ Ok (table_of 0 (waiting 1 4 3 ∷ [])) ∷ Ok (table_of 0 []) ∷ [])
    ≡ Err (refusal 11 9) ∷ Err (refusal 3 0) ∷ Err (refusal 13 0) ∷ []
unfolding lowest length_of card_of
write_edges_lem = refl

-- R91: the card of the table and the request, and the bytes after it as they were
pub card_granted : (write_card_for (Ok (table_of 0 [])) (request_of 3 5 []) 16 ≡ Ok 16)
    × (card_after (Ok (table_of 0 [])) (request_of 3 5 []) (replicate 17 7) ≡ 0x43 ∷ 0x4B ∷ 0 ∷ 0 ∷ 0 ∷ 0 ∷ 0 ∷ 0 ∷ 0 ∷ 0 ∷ 0x52 ∷ 0x51 ∷ 3 ∷ 0 ∷ 5 ∷ 0 ∷ 7 ∷ [])
unfolding lowest length_of card_of
card_granted = (refl, refl)

-- R92: the image of the card's table, and the byte after it as it was
pub image_granted : image_after (Ok (carrying case_a.table case_a.request)) (replicate 299 7) ≡ image_of case_a.table ++ (7 ∷ [])
unfolding store_of image_of
image_granted = refl

-- R91: a refused image leaves every byte
pub card_edges_lem : card_after broken (request_of 1 4 []) (7 ∷ 8 ∷ []) ≡ 7 ∷ 8 ∷ []
card_edges_lem = refl

-- R92: the T' come first, then need and period
pub eighteen_edges : eighteen (request_of 1 4 (32 ∷ 16 ∷ [])) ≡ 32 ∷ 16 ∷ 1 ∷ 4 ∷ []
eighteen_edges = refl

-- R92: the reader's refusal comes before the room's; 297 bytes are too few, 298 are enough
pub read_edges : (map (read_card_for (Ok (carrying case_a.table case_a.request))) (297 ∷ 298 ∷ []) ≡ Err (refusal 13 0) ∷ Ok 298 ∷ [])
    × (map (read_card_for (Err (refusal 12 22))) (297 ∷ 298 ∷ []) ≡ Err (refusal 12 22) ∷ Err (refusal 12 22) ∷ [])
unfolding store_of
read_edges = (refl, refl)

-- R92: the numbers are written where the image is, and left where anything is refused
pub numbers_edges : (map (λ (room : ℕ). numbers_after (Ok (carrying case_a.table (request_of 1 4 (32 ∷ [])))) room (7 ∷ [])) (297 ∷ 298 ∷ []) ≡ (7 ∷ []) ∷ (32 ∷ 1 ∷ 4 ∷ []) ∷ [])
    × (numbers_after (Err (refusal 11 0)) 298 (7 ∷ []) ≡ 7 ∷ []) × (image_after (Err (refusal 11 0)) (7 ∷ 8 ∷ []) ≡ 7 ∷ 8 ∷ [])
    × (image_after (Ok (carrying case_a.table case_a.request)) (7 ∷ 8 ∷ []) ≡ 7 ∷ 8 ∷ [])
unfolding store_of
numbers_edges = (refl, refl, refl, refl)

-- a table whose slots have had 1 to 16 ticks, which with 17 idle and 18 departed ones are more than its clock
abbrev served : Table
served = tallied_with (1 ∷ 2 ∷ 3 ∷ 4 ∷ 5 ∷ 6 ∷ 7 ∷ 8 ∷ 9 ∷ 10 ∷ 11 ∷ 12 ∷ 13 ∷ 14 ∷ 15 ∷ 16 ∷ []) 17 18 (table_of 100 [])

-- R98: the slots' counts in their order, then the idle one and the departed one, and the clock as the value, though R24 would refuse the table; an image's refusal leaves every number
pub counts_edges : (counts_for (Ok served) ≡ granted_as 0 100)
    × (counts_after (Ok served) (replicate 18 7) ≡ 1 ∷ 2 ∷ 3 ∷ 4 ∷ 5 ∷ 6 ∷ 7 ∷ 8 ∷ 9 ∷ 10 ∷ 11 ∷ 12 ∷ 13 ∷ 14 ∷ 15 ∷ 16 ∷ 17 ∷ 18 ∷ [])
    × (step_for (Ok served) ≡ refused_as (refusal 4 0))
    × (counts_for broken ≡ refused_as (refusal 11 9))
    × (counts_after broken (replicate 18 7) ≡ replicate 18 7)
unfolding lowest step_of
counts_edges = (refl, refl, refl, refl, refl)
