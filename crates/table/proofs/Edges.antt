-- The edges of ask and admit, by computation: each limit, order and strictness with an example on each side of it.
use Rattle.std.specs.Prelude.{Ok, Err}
use Prim.Native.Nat.{ℕ, ◌+◌, ◌-◌, ◌^◌}
use mathlib.Core.Path.{◌≡◌, refl}
use mathlib.Core.List.{List, [], ◌∷◌, ◌++◌, map}
use lib.ListN.{length, replicate}
use Rattle.periods.specs.Multiples.{euclid, gcd_of, lcm_of, frame_from}
use Rattle.line.specs.declared.Held.TheVariants.{Nothing}
use Rattle.line.specs.declared.Slot.{Slot}
use Rattle.table.specs.declared.Table.{Table}
use Rattle.table.specs.declared.Request.{Request}
use Rattle.line.specs.Slots.{empty, total, map_at, lowest}
use Rattle.table.specs.Words.{request_with, empty_table, refusal, short_refusal, Said}
use Rattle.line.specs.Streams.{due, every, ends_before, only_end}
use Rattle.line.specs.Demand.{last_end}
use Rattle.table.specs.Grounds.{asked}
use Rattle.line.specs.Shares.{frame, periods_in}
use Rattle.table.specs.Ask.{ask_in, ask_of}
use Rattle.line.specs.Ends.{ends_of, slack, bound, greatest, soonest_of, first_short, start}
use Rattle.table.specs.Admit.{admit_of}
use Rattle.table.specs.Cases.{CaseLine, Case, line, running, parting, waiting, table_of, table_for, tallied, tallied_with, ran_last, case, case_a, case_c, case_g, case_k, case_l}

abbrev refused : (number place : ℕ) → Said ℕ
refused n k = Err (refusal n k)

abbrev short : (tick excess : ℕ) → Said ℕ
short d x = Err (short_refusal d x)

-- every T' is p
abbrev every_period : (p Cn Tn : ℕ) → Request
every_period p Cn Tn = request_with (replicate 16 p) Cn Tn

abbrev row : Table → Request → Said ℕ → Case
row t q a = record { table = t; request = q; answer = a }

-- a line in slot 1, above one that is in order
abbrev second : CaseLine → Said ℕ → Case
second b a = case 0 (line 1 8 8 0 1 ∷ b ∷ []) 1 4 a

-- these counts at clock 9, where a line runs in slot 0
abbrev tallying : (had : List ℕ) → (idle : ℕ) → Said ℕ → Case
tallying ns n a = row (tallied ns n (table_of 9 (running 1 8 0 1 ∷ []))) (every_period 8 1 4) a

-- ---- each limit, met and passed

abbrev clocks : List Case
clocks = case (2 ^ 48 - 65536) [] 3 5 (Ok (2 ^ 48 - 65536)) ∷ case (2 ^ 48 - 65536 + 1) [] 3 5 (refused 1 0) ∷ []

abbrev slots : List Case
slots = case 0 (replicate 15 (line 1 64 64 0 1)) 1 64 (Ok 0) ∷ case 0 (replicate 16 (line 1 64 64 0 1)) 1 64 (refused 2 0) ∷ []

-- 1 ≤ C, C ≤ T, c ≤ C, a < T: each broken alone
abbrev soundness : List Case
soundness =
    second (line 1 8 8 0 1) (Ok 0)
    ∷ second (line 0 8 8 0 0) (refused 4 1)
    ∷ second (line 8 8 16 0 8) (Ok 0)
    ∷ second (line 9 8 16 0 8) (refused 4 1)
    ∷ second (line 4 8 8 0 4) (Ok 0)
    ∷ second (line 4 8 8 0 5) (refused 4 1)
    ∷ second (line 4 8 8 7 0) (Ok 0)
    ∷ second (line 4 8 9 8 0) (refused 4 1)
    ∷ []

-- T' = T and one less; the entries of empty slots are not looked at
abbrev stretches : List Case
stretches =
    second (line 4 8 8 0 4) (Ok 0)
    ∷ second (line 4 8 7 0 4) (refused 5 1)
    ∷ row (table_of 0 []) (every_period 1 3 5) (Ok 0)
    ∷ []

abbrev new_lines : List Case
new_lines =
    case 0 [] 0 5 (refused 6 0)
    ∷ case 0 [] 1 5 (Ok 0)
    ∷ case 0 [] 5 5 (Ok 0)
    ∷ case 0 [] 6 5 (refused 6 0)
    ∷ []

-- frames of 1,000,000 and 1,000,001
abbrev frames : List Case
frames = case_k ∷ case 0 (line 1 101 101 0 1 ∷ []) 1 9901 (refused 7 0) ∷ []

-- a load of 1 and of 67/66; a lag of 0 and of 1/7, by the T' and not by the T; an excess of 0 and of 1
abbrev loads : List Case
loads =
    case 0 (line 1 2 2 0 1 ∷ line 1 3 3 0 1 ∷ []) 1 6 (Ok 0)
    ∷ case 0 (line 1 2 2 0 1 ∷ line 1 3 3 0 1 ∷ []) 2 11 (refused 8 0)
    ∷ case 0 (line 4 7 8 2 3 ∷ []) 1 8 (Ok 0)
    ∷ case 0 (line 4 7 7 2 3 ∷ []) 1 7 (refused 9 0)
    ∷ case 0 (line 3 20 20 17 3 ∷ line 10 20 20 0 0 ∷ []) 1 4 (Ok 0)
    ∷ case 0 (line 4 20 20 17 4 ∷ line 10 20 20 0 0 ∷ []) 1 4 (short 3 1)
    ∷ []

-- R103: the tick is absolute; of two short ends it is the first in time, of the lower slot and of the higher, and not the one with the greater excess; an end comes by
-- the T' and not by the T
abbrev shortages : List Case
shortages =
    case 100 (line 4 20 20 17 4 ∷ line 10 20 20 0 0 ∷ []) 1 4 (short 103 1)
    ∷ case 0 (line 6 20 20 13 6 ∷ line 5 20 20 17 5 ∷ line 15 40 40 0 0 ∷ []) 1 40 (short 3 2)
    ∷ case 0 (line 5 20 20 17 5 ∷ line 6 20 20 13 6 ∷ line 15 40 40 0 0 ∷ []) 1 40 (short 3 2)
    ∷ case 0 (line 8 20 24 17 8 ∷ line 10 20 20 0 0 ∷ []) 1 24 (short 7 1)
    ∷ []

-- the lowest such slot, of two
abbrev places : List Case
places =
    row (table_of 0 (running 1 8 0 1 ∷ waiting 1 8 3 ∷ empty ∷ waiting 1 8 3 ∷ [])) (every_period 8 1 4) (refused 3 1)
    ∷ case 0 (line 1 8 8 0 1 ∷ line 0 8 8 0 0 ∷ line 0 8 8 0 0 ∷ []) 1 4 (refused 4 1)
    ∷ case 0 (line 1 8 8 0 1 ∷ line 1 8 7 0 1 ∷ line 1 8 7 0 1 ∷ []) 1 4 (refused 5 1)
    ∷ []

-- R96: as many as the clock, and one more, of a slot that holds a line, of one that does not, and idle; sums that would wrap in 64 bits do not
abbrev counts : List Case
counts =
    tallying (3 ∷ 0 ∷ 4 ∷ []) 2 (Ok 9)
    ∷ tallying (4 ∷ 0 ∷ 4 ∷ []) 2 (refused 4 0)
    ∷ tallying (3 ∷ 0 ∷ 5 ∷ []) 2 (refused 4 0)
    ∷ tallying (3 ∷ 0 ∷ 4 ∷ []) 3 (refused 4 0)
    ∷ tallying [] 0 (Ok 9)
    ∷ tallying ((2 ^ 63) ∷ (2 ^ 63) ∷ []) 0 (refused 4 0)
    ∷ tallying ((2 ^ 64 - 1) ∷ []) 1 (refused 4 0)
    ∷ []

-- R18, R24: the clock, no empty slot, waiting and unsound lines before the counts, and these before a period that would be shortened; beside each the first is mended
abbrev count_orders : List Case
count_orders =
    row (tallied ((2 ^ 48) ∷ []) 0 (table_of (2 ^ 48 - 65536 + 1) [])) (every_period 8 1 8) (refused 1 0)
    ∷ row (tallied ((2 ^ 48) ∷ []) 0 (table_of (2 ^ 48 - 65536) [])) (every_period 8 1 8) (refused 4 0)
    ∷ row (tallied (9 ∷ []) 0 (table_of 5 (replicate 16 (running 1 64 0 1)))) (every_period 64 1 64) (refused 2 0)
    ∷ row (tallied (9 ∷ []) 0 (table_of 5 (replicate 15 (running 1 64 0 1)))) (every_period 64 1 64) (refused 4 0)
    ∷ row (tallied (9 ∷ []) 0 (table_of 5 (running 1 8 0 1 ∷ waiting 1 8 3 ∷ []))) (every_period 8 1 8) (refused 3 1)
    ∷ row (tallied (9 ∷ []) 0 (table_of 5 (running 1 8 0 1 ∷ running 9 8 0 0 ∷ []))) (every_period 7 1 8) (refused 4 1)
    ∷ row (tallied (9 ∷ []) 0 (table_of 5 (running 1 8 0 1 ∷ running 1 8 0 1 ∷ []))) (every_period 7 1 8) (refused 4 0)
    ∷ row (tallied (5 ∷ []) 0 (table_of 5 (empty ∷ running 1 8 0 1 ∷ []))) (every_period 7 1 8) (refused 5 1)
    ∷ []

-- R95, R96: the departed count alone, and with the others: as many as the clock, and one more
abbrev departures : List Case
departures =
    row (tallied_with (3 ∷ []) 2 4 (table_of 9 (running 1 8 0 1 ∷ []))) (every_period 8 1 4) (Ok 9)
    ∷ row (tallied_with (3 ∷ []) 2 5 (table_of 9 (running 1 8 0 1 ∷ []))) (every_period 8 1 4) (refused 4 0)
    ∷ row (tallied_with [] 0 9 (table_of 9 (running 1 8 0 1 ∷ []))) (every_period 8 1 4) (Ok 9)
    ∷ row (tallied_with [] 0 10 (table_of 9 (running 1 8 0 1 ∷ []))) (every_period 8 1 4) (refused 4 0)
    ∷ row (tallied_with [] 1 (2 ^ 64 - 1) (table_of 9 (running 1 8 0 1 ∷ []))) (every_period 8 1 4) (refused 4 0)
    ∷ []

-- ---- a line that leaves

-- these T' from slot 0 up
abbrev periods_of : List ℕ → (Cn Tn : ℕ) → Request
periods_of ps Cn Tn = request_with (ps ++ replicate (16 - length ps) 0) Cn Tn

-- R10: what it is owed stays in the demand after its end: else the start would be 0, and a period would end short at 4; and nothing is added to it: in case E, its first
-- line leaving, the start is 40 and not 45
abbrev leaving_demand : List Case
leaving_demand =
    row (table_of 0 (parting 2 8 6 2 ∷ running 2 8 4 2 ∷ running 4 16 0 0 ∷ [])) (periods_of (8 ∷ 8 ∷ 16 ∷ []) 1 4) (Ok 1)
    ∷ row (table_of 40 (parting 1 4 0 1 ∷ running 16 64 52 8 ∷ running 16 32 12 0 ∷ [])) (periods_of (4 ∷ 64 ∷ 64 ∷ []) 1 4) (Ok 40)
    ∷ row (table_of 40 (running 1 4 0 1 ∷ running 16 64 52 8 ∷ running 16 32 12 0 ∷ [])) (periods_of (4 ∷ 64 ∷ 64 ∷ []) 1 4) (Ok 45)
    ∷ []

-- R25: of a line that leaves, T' one less than T, equal, and one more; of both breaches the lowest slot; of a line that renews, one more is allowed
abbrev leaving_stretched : List Case
leaving_stretched =
    row (table_of 0 (running 1 8 0 1 ∷ parting 4 8 0 4 ∷ [])) (periods_of (8 ∷ 7 ∷ []) 1 4) (refused 5 1)
    ∷ row (table_of 0 (running 1 8 0 1 ∷ parting 4 8 0 4 ∷ [])) (periods_of (8 ∷ 8 ∷ []) 1 4) (Ok 0)
    ∷ row (table_of 0 (running 1 8 0 1 ∷ parting 4 8 0 4 ∷ [])) (periods_of (8 ∷ 9 ∷ []) 1 4) (refused 5 1)
    ∷ row (table_of 0 (running 1 8 0 1 ∷ running 4 8 0 4 ∷ [])) (periods_of (8 ∷ 9 ∷ []) 1 4) (Ok 0)
    ∷ row (table_of 0 (running 1 8 0 1 ∷ parting 1 8 0 1 ∷ running 1 8 0 1 ∷ [])) (periods_of (8 ∷ 9 ∷ 7 ∷ []) 1 4) (refused 5 1)
    ∷ row (table_of 0 (running 1 8 0 1 ∷ running 1 8 0 1 ∷ parting 1 8 0 1 ∷ [])) (periods_of (8 ∷ 7 ∷ 9 ∷ []) 1 4) (refused 5 1)
    ∷ row (table_of 0 (running 1 8 0 1 ∷ running 1 8 0 1 ∷ parting 1 8 0 1 ∷ [])) (periods_of (8 ∷ 8 ∷ 9 ∷ []) 1 4) (refused 5 2)
    ∷ []

-- R22 to R24, R27 to R30, R15: it uses its slot, does not wait, must be sound; its period is in the frame, its share in 8 and 9, what it is owed in 10, its end may be
-- the last; beside each the other side
abbrev leaving_counts : List Case
leaving_counts =
    row (table_of 0 (replicate 16 (parting 1 64 0 1))) (every_period 64 1 64) (refused 2 0)
    ∷ row (table_of 0 (replicate 15 (parting 1 64 0 1))) (every_period 64 1 64) (Ok 0)
    ∷ row (table_of 0 (parting 5 4 0 0 ∷ [])) (every_period 4 1 4) (refused 4 0)
    ∷ row (table_of 0 (parting 1 64 0 1 ∷ [])) (every_period 64 1 15625) (Ok 0)
    ∷ row (table_of 0 (parting 1 64 0 1 ∷ [])) (every_period 64 1 15629) (refused 7 0)
    ∷ row (table_of 0 (parting 8 16 0 8 ∷ [])) (every_period 16 8 16) (Ok 0)
    ∷ row (table_of 0 (parting 8 16 0 8 ∷ [])) (every_period 16 9 16) (refused 8 0)
    ∷ row (table_of 0 (parting 4 8 4 2 ∷ [])) (every_period 8 1 2) (Ok 0)
    ∷ row (table_of 0 (parting 4 8 4 3 ∷ [])) (every_period 8 1 2) (refused 9 0)
    ∷ row (table_of 0 (parting 3 20 17 3 ∷ running 10 20 0 0 ∷ [])) (every_period 20 1 4) (Ok 0)
    ∷ row (table_of 0 (parting 4 20 17 4 ∷ running 10 20 0 0 ∷ [])) (every_period 20 1 4) (short 3 1)
    ∷ row (table_of 0 (parting 2 12 2 0 ∷ running 3 6 3 3 ∷ [])) (periods_of (12 ∷ 6 ∷ []) 1 3) (Ok 1)
    ∷ []

-- ---- the order: two neighbouring grounds hold, and beside it the first is mended

abbrev neighbours : List Case
neighbours =
    case (2 ^ 48 - 65536 + 1) (replicate 16 (line 1 64 64 0 1)) 1 64 (refused 1 0)
    ∷ case (2 ^ 48 - 65536) (replicate 16 (line 1 64 64 0 1)) 1 64 (refused 2 0)
    ∷ row (table_of 0 (replicate 15 (running 1 64 0 1) ++ (waiting 1 64 3 ∷ []))) (every_period 64 1 64) (refused 2 0)
    ∷ row (table_of 0 (empty ∷ (replicate 14 (running 1 64 0 1) ++ (waiting 1 64 3 ∷ [])))) (every_period 64 1 64) (refused 3 15)
    ∷ row (table_of 5 (running 9 8 0 0 ∷ waiting 1 8 3 ∷ [])) (every_period 8 1 8) (refused 3 1)
    ∷ row (table_of 5 (running 9 8 0 0 ∷ empty ∷ [])) (every_period 8 1 8) (refused 4 0)
    ∷ case 0 (line 1 8 8 0 1 ∷ line 1 8 7 0 1 ∷ line 0 8 8 0 0 ∷ []) 1 4 (refused 4 2)
    ∷ case 0 (line 1 8 8 0 1 ∷ line 1 8 7 0 1 ∷ line 1 8 8 0 1 ∷ []) 1 4 (refused 5 1)
    ∷ case 0 (line 1 8 8 0 1 ∷ line 1 8 7 0 1 ∷ []) 5 4 (refused 5 1)
    ∷ case 0 (line 1 8 8 0 1 ∷ line 1 8 8 0 1 ∷ []) 5 4 (refused 6 0)
    ∷ case 0 (line 1 101 101 0 1 ∷ []) 0 9901 (refused 6 0)
    ∷ case 0 (line 1 101 101 0 1 ∷ []) 1 9901 (refused 7 0)
    ∷ case 0 (line 101 101 101 0 101 ∷ []) 1 9901 (refused 7 0)
    ∷ case 0 (line 101 101 101 0 101 ∷ []) 1 101 (refused 8 0)
    ∷ case 0 (line 4 8 8 4 3 ∷ []) 5 8 (refused 8 0)
    ∷ case 0 (line 4 8 8 4 3 ∷ []) 4 8 (refused 9 0)
    ∷ case 0 (line 5 20 20 17 5 ∷ []) 1 4 (refused 9 0)
    ∷ case 0 (line 5 20 20 17 5 ∷ line 10 20 20 0 0 ∷ []) 1 4 (short 3 2)
    ∷ []

-- all of them
unfoldable pub ask_edges : List Case
ask_edges = clocks ++ (slots ++ (soundness ++ (counts ++ (stretches ++ (new_lines ++ (frames ++ (loads ++ (shortages ++ (places ++ (count_orders ++ (neighbours ++ (departures ++ (leaving_demand ++ (leaving_stretched ++ leaving_counts))))))))))))))

-- R18, R19, R21 to R30: each ground on both sides of its edge, its place, and its order with the next
pub ask_edges_lem : map (λ (c : Case). ask_of c.table c.request) ask_edges ≡ map (λ (c : Case). c.answer) ask_edges
unfolding euclid gcd_of lcm_of frame_from total lowest due last_end map_at periods_in every ends_before only_end ends_of slack bound greatest soonest_of first_short start ask_in ask_of ask_edges
ask_edges_lem = refl

abbrev frame_in : Case → ℕ
frame_in c = frame (asked c.table c.request) c.request.period

-- R8, R67: the frames of cases K and L
pub frames_k_l : (frame_in case_k ≡ 1000000) × (frame_in case_l ≡ 1000256)
unfolding euclid gcd_of lcm_of frame_from map_at periods_in
frames_k_l = (refl, refl)

-- R15: no line, a waiting one by its start, and the greatest of two, leaving or not
pub last_end_edges : map (last_end 7) ([] ∷ (empty ∷ []) ∷ (waiting 1 8 3 ∷ []) ∷ (running 1 8 3 1 ∷ empty ∷ running 1 9 2 0 ∷ []) ∷ (running 1 8 3 1 ∷ parting 1 9 2 0 ∷ []) ∷ [])
    ≡ 7 ∷ 7 ∷ 10 ∷ 14 ∷ 14 ∷ []
unfolding last_end
last_end_edges = refl

-- R4, R2: the empty table
pub empty_edges : (empty_table.clock ≡ 0) × (length empty_table.slots ≡ 16) × (map (λ (s : Slot). s.held) empty_table.slots ≡ replicate 16 Nothing)
    × (empty_table.had ≡ replicate 16 0) × (empty_table.idle ≡ 0) × (empty_table.departed ≡ 0) × (empty_table.last ≡ 255)
empty_edges = (refl, refl, refl, refl, refl, refl, refl)

-- ---- admit

-- a case, and the table that admitting leaves
pub record AdmitEdge : Type 0 where
  pub asks : Case
  pub leaves : Table

abbrev admits : Case → Table → AdmitEdge
admits c t = record { asks = c; leaves = t }

-- a later start waits, one tick or more; one at the clock runs; a slot between others is the lowest empty one, and its count alone is 0 then; a line that leaves does so still; who ran last
-- still did, also if that is the new line's slot; a refusal keeps the table
unfoldable pub admit_edges : List AdmitEdge
admit_edges =
    admits case_a (table_of 8 (running 8 32 8 0 ∷ running 8 16 8 8 ∷ waiting 1 4 5 ∷ []))
    ∷ admits (case 10 (line 3 10 20 7 0 ∷ line 3 10 10 8 2 ∷ []) 1 2 (Ok 11)) (table_of 10 (running 3 20 7 0 ∷ running 3 10 8 2 ∷ waiting 1 2 1 ∷ []))
    ∷ admits case_c (table_of 0 (running 3 5 0 3 ∷ []))
    ∷ admits (row (tallied (1 ∷ 2 ∷ 1 ∷ 2 ∷ []) 1 (table_of 7 (running 1 8 2 1 ∷ empty ∷ running 2 8 3 1 ∷ empty ∷ []))) (every_period 16 3 16) (Ok 7))
    (tallied (1 ∷ 0 ∷ 1 ∷ 2 ∷ []) 1 (table_of 7 (running 1 16 2 1 ∷ running 3 16 0 3 ∷ running 2 16 3 1 ∷ [])))
    ∷ admits (row (tallied_with (1 ∷ 2 ∷ []) 1 3 (table_of 7 (parting 1 8 2 1 ∷ empty ∷ running 2 8 3 1 ∷ []))) (periods_of (8 ∷ 0 ∷ 16 ∷ []) 3 16) (Ok 7))
    (tallied_with (1 ∷ 0 ∷ []) 1 3 (table_of 7 (parting 1 8 2 1 ∷ running 3 16 0 3 ∷ running 2 16 3 1 ∷ [])))
    ∷ admits (row (ran_last 0 (table_of 7 (running 2 8 3 1 ∷ []))) (every_period 16 3 16) (Ok 7)) (ran_last 0 (table_of 7 (running 2 16 3 1 ∷ running 3 16 0 3 ∷ [])))
    ∷ admits (row (ran_last 1 (table_of 7 (running 2 8 3 1 ∷ []))) (every_period 16 3 16) (Ok 7)) (ran_last 1 (table_of 7 (running 2 16 3 1 ∷ running 3 16 0 3 ∷ [])))
    ∷ admits case_g (table_for 0 (line 4 8 8 4 3 ∷ []))
    ∷ admits (tallying (4 ∷ 3 ∷ 2 ∷ []) 1 (refused 4 0)) (tallied (4 ∷ 3 ∷ 2 ∷ []) 1 (table_of 9 (running 1 8 0 1 ∷ [])))
    ∷ []

-- R42, R43: the answer and the whole table
pub admit_edges_lem : map {B = Said ℕ × Table} (λ (e : AdmitEdge). ((admit_of e.asks.table e.asks.request).answer, (admit_of e.asks.table e.asks.request).table)) admit_edges
    ≡ map (λ (e : AdmitEdge). (e.asks.answer, e.leaves)) admit_edges
unfolding euclid gcd_of lcm_of frame_from total lowest due last_end map_at periods_in every ends_before only_end ends_of slack bound greatest soonest_of first_short start ask_in ask_of admit_edges
admit_edges_lem = refl
