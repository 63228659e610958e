-- Runs over the boundary, R78, by computation: the lent bytes after a few acts, what a call answers on them, and each limit with an example on each side.
use Prim.Native.Nat.{ℕ, zero, suc, ◌-◌, ◌*◌, ◌^◌, ◌<◌}
use mathlib.Core.Path.{◌≡◌, refl, ap}
use mathlib.Core.List.{List, [], ◌∷◌, ◌++◌, map}
use native.Mathlib.Omega.{arith}
use lib.ListN.{length, get_or, replicate}
use Rattle.periods.specs.Multiples.{euclid, gcd_of, lcm_of, frame_from}
use Rattle.line.specs.Slots.{total, map_at, lowest}
use Rattle.line.specs.Streams.{due, every, ends_before}
use Rattle.line.specs.Demand.{last_end}
use Rattle.line.specs.Shares.{periods_in}
use Rattle.line.specs.Ends.{ends_of, slack, bound, greatest, soonest_of, first_short, start}
use Rattle.table.specs.declared.Table.{Table}
use Rattle.table.specs.declared.Request.{Request}
use Rattle.table.specs.Words.{request_with, empty_table, refusal}
use Rattle.table.specs.Ask.{ask_in, ask_of}
use Rattle.table.specs.Counts.{settling}
use Rattle.table.specs.Step.{chosen, advance, step_of}
use Rattle.table.specs.Leave.{leave_of}
use Rattle.table.specs.Runs.{Act, asking, admitting, stepping, leaving, run}
use Rattle.table.specs.Cases.{running, parting, waiting, table_of, tallied, tallied_with, ran_last}
use Rattle.image.specs.Image.{image_of}
use Rattle.image.specs.Loading.{blank_from, slots_wrong, length_wrong, wrong_in, held_in, load_with, load_of}
use Rattle.image.specs.Answers.{store_of, stored_in}
use Rattle.calls.specs.declared.Returned.{Returned}
use Rattle.calls.specs.Results.{granted_as, refused_as}
use Rattle.calls.specs.Tables.{ask_for, step_for}
use Rattle.promises.specs.Images.{NarrowRequest, Narrowed, AllNarrowed, image_run, UnfailingStep}

-- ---- bytes

-- the version and a clock below 256
abbrev front : (clock : ℕ) → List ℕ
front k = 4 ∷ k ∷ 0 ∷ 0 ∷ 0 ∷ 0 ∷ 0 ∷ 0 ∷ 0 ∷ []

-- a running line whose numbers are below 256
abbrev runs : (need period age remaining : ℕ) → List ℕ
runs c p a r = 1 ∷ c ∷ 0 ∷ p ∷ 0 ∷ a ∷ 0 ∷ r ∷ 0 ∷ []

-- a waiting one
abbrev waits : (need period wait : ℕ) → List ℕ
waits c p w = 2 ∷ c ∷ 0 ∷ p ∷ 0 ∷ w ∷ 0 ∷ 0 ∷ 0 ∷ []

-- a running one that leaves
abbrev parts : (need period age remaining : ℕ) → List ℕ
parts c p a r = 3 ∷ c ∷ 0 ∷ p ∷ 0 ∷ a ∷ 0 ∷ r ∷ 0 ∷ []

-- so many slots that hold nothing
abbrev free : ℕ → List ℕ
free n = replicate (9 * n) 0

-- a count below 256
abbrev count : ℕ → List ℕ
count n = n ∷ replicate 7 0

-- counts, one after the other
abbrev counts : List ℕ → List ℕ
counts [] = []
counts (n ∷ ns) = count n ++ counts ns

-- the counts from slot 0 up, 0 for the others, the idle one and the departed one, and the slot that ran last
abbrev ticks_with : (had : List ℕ) → (idle departed last : ℕ) → List ℕ
ticks_with ns n d k = counts ns ++ (replicate (8 * (16 - length ns)) 0 ++ (count n ++ (count d ++ (k ∷ []))))

-- the same where nobody has departed
abbrev ticks : (had : List ℕ) → (idle last : ℕ) → List ℕ
ticks ns n k = ticks_with ns n 0 k

-- ---- acts

-- a new line beside lines with these T'
abbrev new : (T' : List ℕ) (need period : ℕ) → Request
new ts c p = request_with (ts ++ replicate (16 - length ts) 0) c p

-- a table, some acts, the table that they lead to, and the bytes of its image
pub record ImageCase : Type 0 where
  pub before : Table
  pub acts : List Act
  pub after : Table
  pub image : List ℕ

abbrev comes : Table → List Act → Table → List ℕ → ImageCase
comes t done u l = record { before = t; acts = done; after = u; image = l }

-- a line is admitted
abbrev one : List Act
one = admitting (new [] 2 4) ∷ []

-- the table then
abbrev one_in : Table
one_in = table_of 0 (running 2 4 0 2 ∷ [])

-- two lines are admitted and run for four ticks
abbrev two : List Act
two = admitting (new [] 4 8) ∷ admitting (new (8 ∷ []) 4 8) ∷ replicate 4 stepping

-- the table then
abbrev at_four : Table
at_four = ran_last 0 (tallied (4 ∷ []) 0 (table_of 4 (running 4 8 4 0 ∷ running 4 8 4 4 ∷ [])))

-- then the first is stretched, and the third waits for one tick
abbrev third : Act
third = admitting (new (16 ∷ 8 ∷ []) 1 4)

abbrev image_cases : List ImageCase
image_cases =
    comes empty_table [] empty_table (front 0 ++ (free 16 ++ ticks [] 0 255))
    ∷ comes empty_table (asking (new [] 2 4) ∷ []) empty_table (front 0 ++ (free 16 ++ ticks [] 0 255))
    ∷ comes empty_table (stepping ∷ []) (tallied [] 1 (table_of 1 [])) (front 1 ++ (free 16 ++ ticks [] 1 255))
    ∷ comes empty_table one one_in (front 0 ++ (runs 2 4 0 2 ++ (free 15 ++ ticks [] 0 255)))
    ∷ comes empty_table (one ++ (stepping ∷ stepping ∷ [])) (ran_last 0 (tallied (2 ∷ []) 0 (table_of 2 (running 2 4 2 0 ∷ [])))) (front 2 ++ (runs 2 4 2 0 ++ (free 15 ++ ticks (2 ∷ []) 0 0)))
    -- R86: an ask that would be granted leaves the bytes; R87: a refused admission, 8 and 5, leaves them too
    ∷ comes empty_table (one ++ (asking (new (8 ∷ []) 1 4) ∷ [])) one_in (front 0 ++ (runs 2 4 0 2 ++ (free 15 ++ ticks [] 0 255)))
    ∷ comes empty_table (one ++ (admitting (new (4 ∷ []) 3 4) ∷ admitting (new (3 ∷ []) 1 4) ∷ [])) one_in (front 0 ++ (runs 2 4 0 2 ++ (free 15 ++ ticks [] 0 255)))
    ∷ comes empty_table two at_four (front 4 ++ (runs 4 8 4 0 ++ (runs 4 8 4 4 ++ (free 14 ++ ticks (4 ∷ []) 0 0))))
    ∷ comes at_four (third ∷ []) (ran_last 0 (tallied (4 ∷ []) 0 (table_of 4 (running 4 16 4 0 ∷ running 4 8 4 4 ∷ waiting 1 4 1 ∷ [])))) (front 4 ++ (runs 4 16 4 0 ++ (runs 4 8 4 4 ++ (waits 1 4 1 ++ (free 13 ++ ticks (4 ∷ []) 0 0)))))
    ∷ comes at_four (third ∷ stepping ∷ []) (ran_last 1 (tallied (4 ∷ 1 ∷ []) 0 (table_of 5 (running 4 16 5 0 ∷ running 4 8 5 3 ∷ running 1 4 0 1 ∷ [])))) (front 5 ++ (runs 4 16 5 0 ++ (runs 4 8 5 3 ++ (runs 1 4 0 1 ++ (free 13 ++ ticks (4 ∷ 1 ∷ []) 0 1)))))
    -- R102, R105: slot 1 leaves, and four ticks later is gone, and with it who ran last; slot 2, which waits, is gone at once; what is refused leaves the bytes
    ∷ comes at_four (leaving 1 ∷ []) (ran_last 0 (tallied (4 ∷ []) 0 (table_of 4 (running 4 8 4 0 ∷ parting 4 8 4 4 ∷ [])))) (front 4 ++ (runs 4 8 4 0 ++ (parts 4 8 4 4 ++ (free 14 ++ ticks (4 ∷ []) 0 0))))
    ∷ comes at_four (leaving 1 ∷ replicate 4 stepping) (tallied_with (4 ∷ []) 0 4 (table_of 8 (running 4 8 0 4 ∷ []))) (front 8 ++ (runs 4 8 0 4 ++ (free 15 ++ ticks_with (4 ∷ []) 0 4 255)))
    ∷ comes at_four (third ∷ leaving 2 ∷ []) (ran_last 0 (tallied (4 ∷ []) 0 (table_of 4 (running 4 16 4 0 ∷ running 4 8 4 4 ∷ [])))) (front 4 ++ (runs 4 16 4 0 ++ (runs 4 8 4 4 ++ (free 14 ++ ticks (4 ∷ []) 0 0))))
    ∷ comes at_four (leaving 2 ∷ leaving 99 ∷ []) at_four (front 4 ++ (runs 4 8 4 0 ++ (runs 4 8 4 4 ++ (free 14 ++ ticks (4 ∷ []) 0 0))))
    ∷ []

-- R78: the bytes after the acts over the boundary
pub image_cases_lem : map (λ (c : ImageCase). image_run c.acts (image_of c.before)) image_cases ≡ map (λ (c : ImageCase). c.image) image_cases
unfolding euclid gcd_of lcm_of frame_from total lowest due last_end map_at periods_in every ends_before ends_of slack bound greatest soonest_of first_short start ask_in ask_of chosen settling advance step_of leave_of image_of blank_from slots_wrong length_wrong wrong_in held_in load_with store_of
image_cases_lem = refl

-- R78: they are the image of the table after the same acts
pub table_cases : (map (λ (c : ImageCase). run c.acts c.before) image_cases ≡ map (λ (c : ImageCase). c.after) image_cases)
    × (map (λ (c : ImageCase). image_of c.after) image_cases ≡ map (λ (c : ImageCase). c.image) image_cases)
unfolding euclid gcd_of lcm_of frame_from total lowest due last_end map_at periods_in every ends_before ends_of slack bound greatest soonest_of first_short start ask_in ask_of chosen settling advance step_of leave_of image_of
table_cases = (refl, refl)

-- ---- answers

-- R86, R87: what is asked or admitted over the boundary after some acts
abbrev ask_after : List Act → Request → Returned
ask_after done q = ask_for (load_of (image_run done (image_of empty_table))) q

-- R88: a step over the boundary after some acts
abbrev step_after : List Act → Returned
step_after done = step_for (load_of (image_run done (image_of empty_table)))

-- R86, R88: the start with its slot, refusals 8 and 5, the slot that ran, and 255 where none did
pub answer_cases :
    (ask_after [] (new [] 2 4) ∷ ask_after one (new (8 ∷ []) 1 4) ∷ ask_after one (new (4 ∷ []) 3 4) ∷ ask_after one (new (3 ∷ []) 1 4)
    ∷ step_after [] ∷ step_after one ∷ step_after (two ++ (third ∷ [])) ∷ step_after (one ++ (stepping ∷ stepping ∷ [])) ∷ [])
    ≡ (granted_as 0 0 ∷ granted_as 1 0 ∷ refused_as (refusal 8 0) ∷ refused_as (refusal 5 0)
    ∷ granted_as 0 255 ∷ granted_as 0 0 ∷ granted_as 0 1 ∷ granted_as 0 255 ∷ [])
unfolding euclid gcd_of lcm_of frame_from total lowest due last_end map_at periods_in every ends_before ends_of slack bound greatest soonest_of first_short start ask_in ask_of chosen settling advance step_of leave_of image_of blank_from slots_wrong length_wrong wrong_in held_in load_with store_of
answer_cases = refl

-- R74, R35: the last tick that a step goes on from, and the one after it
pub last_steps :
    map (λ (k : ℕ). step_for (load_of (image_of (table_of k [])))) ((2 ^ 48 - 1) ∷ (2 ^ 48) ∷ []) ≡ granted_as 0 255 ∷ refused_as (refusal 15 0) ∷ []
unfolding lowest chosen settling advance step_of leave_of image_of blank_from slots_wrong length_wrong wrong_in held_in load_with
last_steps = refl

-- R74: a step that reports 14 or 4 is none that is promised, at any clock
pub neither_14_nor_4 : (k i : ℕ) → (UnfailingStep k (refused_as (refusal 14 i)) → ⊥) × (UnfailingStep k (refused_as (refusal 4 i)) → ⊥)
neither_14_nor_4 k i = (
  λ u. omega (arith, ap (λ (r : Returned). r.number) (u.only_fifteen (λ z. omega arith)).0),
  λ u. omega (arith, ap (λ (r : Returned). r.number) (u.only_fifteen (λ z. omega arith)).0),
)

-- R74, R35: nor is one that reports 15 a tick before the last, or goes on at the last
pub fifteen_edges : (UnfailingStep (2 ^ 48 - 1) (refused_as (refusal 15 0)) → ⊥) × (UnfailingStep (2 ^ 48) (granted_as 0 255) → ⊥)
fifteen_edges = (
  λ u. omega (arith, (u.only_fifteen (λ z. omega arith)).1),
  λ u. omega (arith, ap (λ (r : Returned). r.number) (u.at_the_last refl)),
)

-- R74: a tick before the last every step goes on
pub before_the_last : (r : Returned) → UnfailingStep (2 ^ 48 - 1) r → r.number ≡ 0
before_the_last r u = ap (λ (x : Returned). x.number) (u.goes_on (omega arith)).1

-- ---- limits

-- R85: of other bytes, 298 become the image of the empty table, 297 are left, and of 299 one is left behind it
pub empty_edges : map (λ (n : ℕ). stored_in empty_table (replicate n 7)) (298 ∷ 297 ∷ 299 ∷ [])
    ≡ image_of empty_table ∷ replicate 297 7 ∷ (image_of empty_table ++ (7 ∷ [])) ∷ []
unfolding image_of store_of
empty_edges = refl

zeros : (n i : ℕ) → get_or (replicate n 0) i 0 < 2 ^ 16
zeros zero i = omega arith
zeros (suc n) zero = omega arith
zeros (suc n) (suc i) = zeros n i

-- R6: need, period and T' are at most 65,535, in what is asked as in what is admitted
pub narrow_edges : NarrowRequest (new [] 65535 65535)
    × (NarrowRequest (new [] 65536 65535) → ⊥) × (NarrowRequest (new [] 65535 65536) → ⊥) × (NarrowRequest (new (65536 ∷ []) 1 4) → ⊥)
narrow_edges = ((omega arith, omega arith, zeros 16), (λ n. omega (arith, n.0)), (λ n. omega (arith, n.1)), (λ n. omega (arith, n.2 0)))

-- R6, R73: every act counts, wherever it stands
pub every_act : (Narrowed (asking (new [] 65536 65536)) → ⊥) × (Narrowed (admitting (new [] 1 65536)) → ⊥) × (AllNarrowed (stepping ∷ admitting (new [] 1 65536) ∷ []) → ⊥)
every_act = ((λ n. omega (arith, n.0)), (λ n. omega (arith, n.1)), (λ n. omega (arith, n.1.0.1)))

-- a period of seventeen bits is admitted, and stepped
abbrev too_wide : List Act
too_wide = admitting (new [] 1 65536) ∷ stepping ∷ []

-- R78: where a number is wider the bytes are not the image of the run's table: its period is lost and the step is refused
pub wider_is_lost : image_run too_wide (image_of empty_table) ≡ image_of (run too_wide empty_table) → ⊥
unfolding euclid gcd_of lcm_of frame_from total lowest due last_end map_at periods_in every ends_before ends_of slack bound greatest soonest_of first_short start ask_in ask_of chosen settling advance step_of leave_of image_of blank_from slots_wrong length_wrong wrong_in held_in load_with store_of
wider_is_lost e = let z : ◌≡◌ {A = ℕ} 0 1 = ap (λ (l : List ℕ). get_or l 1 0) e in omega arith
