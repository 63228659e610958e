-- The pass at given numbers, by computation: lines that are not fit, a need of 0, an excess of 0 and of 1, the first short end, the ends that are looked at, and the starts of cases A, D and M.
use Prim.Native.Nat.{ℕ}
use mathlib.Core.Path.{◌≡◌, refl}
use mathlib.Core.List.{List, [], ◌∷◌, map}
use Rattle.std.specs.Prelude.{Result, Ok, Err}
use Rattle.line.specs.declared.Stream.{Stream}
use Rattle.line.specs.Streams.{stream, due, every, ends_before}
use Rattle.line.specs.Ends.{bound, greatest, soonest_of}
use Rattle.sums.specs.Lines.{along, sum_of, all_of}
use Rattle.sums.specs.Weighed.{fitting}
use Rattle.pass.specs.declared.NoPass.{NoPass}
use Rattle.pass.specs.declared.NoPass.TheVariants.{Short, Unfit}
use Rattle.pass.specs.Pass.{greatest_end, ends_by, pass_over, pass_of, passed_in}

-- lines with a new line, and what the pass is to say
pub record Edge : Type 0 where
  pub lines : List Stream
  pub need : ℕ
  pub period : ℕ
  pub says : Result ℕ NoPass

abbrev edge : List Stream → (need period : ℕ) → Result ℕ NoPass → Edge
edge l n p r = record { lines = l; need = n; period = p; says = r }

abbrev short_after : (after excess : ℕ) → Result ℕ NoPass
short_after d x = Err (Short (record { after = d; excess = x }))

-- a need of 0 and of 1; a first end inside its period and behind it; an excess of 0 and of 1, at an end of the first line, of the second, at the clock,
-- and at an end that two lines share; more than the time gone by at the last end, which is not looked at; ends 4 ticks apart, and so far apart
-- that there is but one; at its first end what remains, and at the next the need; short after an end that raised the start; of two short ends the first in time,
-- whichever slot's it is, and not the one with the greater excess; cases A, D and M
unfoldable pub pass_edges : List Edge
pass_edges =
    edge [] 0 4 (Err Unfit)
    ∷ edge [] 1 4 (Ok 0)
    ∷ edge (stream 8 4 4 8 ∷ []) 1 4 (Ok 0)
    ∷ edge (stream 9 4 4 8 ∷ []) 1 4 (Err Unfit)
    ∷ edge (stream 3 3 3 20 ∷ stream 20 0 10 20 ∷ []) 1 4 (Ok 0)
    ∷ edge (stream 3 4 4 20 ∷ stream 20 0 10 20 ∷ []) 1 4 (short_after 3 1)
    ∷ edge (stream 5 0 1 5 ∷ stream 3 3 3 20 ∷ stream 20 0 1 20 ∷ []) 1 4 (Ok 0)
    ∷ edge (stream 5 0 1 5 ∷ stream 3 4 4 20 ∷ stream 20 0 1 20 ∷ []) 1 4 (short_after 3 1)
    ∷ edge (stream 0 0 1 5 ∷ stream 10 0 1 10 ∷ []) 1 4 (Ok 0)
    ∷ edge (stream 0 1 1 5 ∷ stream 10 0 1 10 ∷ []) 1 4 (short_after 0 1)
    ∷ edge (stream 4 2 2 20 ∷ stream 4 2 2 20 ∷ stream 20 0 1 20 ∷ []) 1 4 (Ok 1)
    ∷ edge (stream 4 2 2 20 ∷ stream 4 3 3 20 ∷ stream 20 0 1 20 ∷ []) 1 4 (short_after 4 1)
    ∷ edge (stream 4 20 20 20 ∷ []) 1 4 (Ok 0)
    ∷ edge (stream 3 3 4 4 ∷ stream 20 0 10 20 ∷ []) 1 4 (Ok 16)
    ∷ edge (stream 3 3 4 65536 ∷ stream 20 0 10 20 ∷ []) 1 4 (Ok 0)
    ∷ edge (stream 4 1 4 4 ∷ stream 9 0 1 9 ∷ []) 1 4 (Ok 0)
    ∷ edge (stream 4 4 4 4 ∷ stream 9 0 1 9 ∷ []) 1 4 (Ok 5)
    ∷ edge (stream 4 4 4 4 ∷ stream 5 2 2 5 ∷ stream 9 0 1 9 ∷ []) 1 4 (short_after 5 1)
    ∷ edge (stream 10 18 18 20 ∷ stream 4 6 6 20 ∷ stream 20 0 1 20 ∷ []) 1 4 (short_after 4 2)
    ∷ edge (stream 4 6 6 20 ∷ stream 10 18 18 20 ∷ stream 20 0 1 20 ∷ []) 1 4 (short_after 4 2)
    ∷ edge (stream 24 0 8 32 ∷ stream 8 8 8 16 ∷ []) 1 4 (Ok 5)
    ∷ edge (stream 8 7 7 28 ∷ stream 24 0 8 32 ∷ []) 2 4 (Ok 5)
    ∷ edge (stream 8 7 7 28 ∷ stream 24 0 8 32 ∷ []) 3 6 (Ok 4)
    ∷ []

-- R30, R14, R67: the pass on each side of its edges
pub pass_edges_lem : map (λ (e : Edge). pass_of e.lines e.need e.period) pass_edges ≡ map (λ (e : Edge). e.says) pass_edges
unfolding due every ends_before bound greatest soonest_of sum_of all_of fitting greatest_end ends_by pass_over pass_of pass_edges
pass_edges_lem = refl

-- slices of one length, and one of them short
pub slices_edges : passed_in (8 ∷ []) (4 ∷ []) (4 ∷ []) (8 ∷ []) 1 4 ∷ passed_in (8 ∷ []) (4 ∷ []) (4 ∷ []) [] 1 4 ∷ [] ≡ Ok 0 ∷ Err Unfit ∷ []
unfolding due every ends_before bound greatest soonest_of along sum_of all_of fitting greatest_end ends_by pass_over pass_of
slices_edges = refl
