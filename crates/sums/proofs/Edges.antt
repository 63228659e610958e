-- Lines at given numbers, by computation: each limit, order and strictness of `fitting` and `weighed` with an example on each side of it, and slices that
-- differ in length.
use Prim.Native.Nat.{ℕ}
use mathlib.Core.Path.{◌≡◌, refl}
use mathlib.Core.Bool.{true, false}
use mathlib.Core.List.{List, [], ◌∷◌, map}
use lib.ListN.{replicate}
use Rattle.periods.specs.Multiples.{euclid, gcd_of, lcm_of, frame_from}
use Rattle.line.specs.declared.Stream.{Stream}
use Rattle.line.specs.Streams.{stream}
use Rattle.sums.specs.Lines.{along, sum_of, all_of, lines_of}
use Rattle.sums.specs.Weighed.{fitting, weighed_fit, weighed, fitting_in, weighed_in}

-- ---- fit or not

-- sixteen lines and seventeen; then each comparison of a line met and broken alone: c ≤ C, the first end, C ≤ T', 1 ≤ T', 65,536
unfoldable pub fit_edges : List (List Stream)
fit_edges =
    []
    ∷ replicate 16 (stream 8 1 1 8)
    ∷ replicate 17 (stream 8 1 1 8)
    ∷ (stream 8 4 4 8 ∷ [])
    ∷ (stream 8 5 4 8 ∷ [])
    ∷ (stream 9 4 4 8 ∷ [])
    ∷ (stream 8 4 8 8 ∷ [])
    ∷ (stream 8 4 9 8 ∷ [])
    ∷ (stream 0 0 0 1 ∷ [])
    ∷ (stream 0 0 0 0 ∷ [])
    ∷ (stream 8 4 4 65536 ∷ [])
    ∷ (stream 8 4 4 65537 ∷ [])
    ∷ (stream 8 4 4 8 ∷ stream 9 4 4 8 ∷ [])
    ∷ (stream 9 4 4 8 ∷ stream 8 4 4 8 ∷ [])
    ∷ []

-- R24, R25, R3: which of them are fit
pub fitting_edges : map fitting fit_edges
    ≡ true ∷ true ∷ false ∷ true ∷ false ∷ false ∷ true ∷ false ∷ true ∷ false ∷ true ∷ false ∷ false ∷ false ∷ []
unfolding all_of fitting fit_edges
fitting_edges = refl

-- slices of one length, and each of the other three a number short or long: what they say of being fit
pub slices_edges : fitting_in (8 ∷ []) (4 ∷ []) (4 ∷ []) (8 ∷ [])
    ∷ fitting_in (8 ∷ []) [] (4 ∷ []) (8 ∷ [])
    ∷ fitting_in (8 ∷ []) (4 ∷ []) (4 ∷ 4 ∷ []) (8 ∷ [])
    ∷ fitting_in (8 ∷ []) (4 ∷ []) (4 ∷ []) (8 ∷ 8 ∷ [])
    ∷ []
    ≡ true ∷ false ∷ false ∷ false ∷ []
unfolding along all_of fitting
slices_edges = refl

-- R18: slices of different lengths come before a new line that does not fit its period
pub slices_first : weighed_in (8 ∷ []) (4 ∷ []) (4 ∷ []) (8 ∷ 8 ∷ []) 0 5 ∷ weighed_in (8 ∷ []) (4 ∷ []) (4 ∷ []) (8 ∷ []) 0 5 ∷ [] ≡ 4 ∷ 6 ∷ []
unfolding along all_of fitting weighed
slices_first = refl

-- R9: line k has the k-th number of each slice
pub lines_edge : lines_of (8 ∷ 9 ∷ []) (1 ∷ 2 ∷ []) (3 ∷ 4 ∷ []) (10 ∷ 20 ∷ []) ≡ stream 8 1 3 10 ∷ stream 9 2 4 20 ∷ []
unfolding along
lines_edge = refl

-- ---- the first ground

-- lines with a new line, and the ground that they are to meet first
pub record Edge : Type 0 where
  pub lines : List Stream
  pub need : ℕ
  pub period : ℕ
  pub ground : ℕ

abbrev edge : List Stream → (need period ground : ℕ) → Edge
edge l n p r = record { lines = l; need = n; period = p; ground = r }

-- each limit, met and passed: a new line's need of 0, 1, T and above; frames of 1,000,000 and 1,000,001; shares of 1 and of 67/66; a lag of 0 and of 1/7;
-- then each ground with the next one holding too
unfoldable pub weigh_edges : List Edge
weigh_edges =
    edge [] 0 5 6
    ∷ edge [] 1 5 0
    ∷ edge [] 5 5 0
    ∷ edge [] 6 5 6
    ∷ edge (stream 64 1 1 64 ∷ []) 1 15625 0
    ∷ edge (stream 101 1 1 101 ∷ []) 1 9901 7
    ∷ edge (stream 2 1 1 2 ∷ stream 3 1 1 3 ∷ []) 1 6 0
    ∷ edge (stream 2 1 1 2 ∷ stream 3 1 1 3 ∷ []) 2 11 8
    ∷ edge (stream 6 3 4 8 ∷ []) 1 8 0
    ∷ edge (stream 5 3 4 7 ∷ []) 1 7 9
    ∷ edge (stream 9 4 4 8 ∷ []) 0 5 4
    ∷ edge (stream 101 1 1 101 ∷ []) 0 9901 6
    ∷ edge (stream 101 101 101 101 ∷ []) 1 9901 7
    ∷ edge (stream 101 101 101 101 ∷ []) 1 101 8
    ∷ edge (stream 4 3 4 8 ∷ []) 5 8 8
    ∷ edge (stream 4 3 4 8 ∷ []) 4 8 9
    ∷ []

-- R18, R24, R26 to R29: each ground on both sides of its edge, and its order with the next
pub weigh_edges_lem : map (λ (e : Edge). weighed e.lines e.need e.period) weigh_edges ≡ map (λ (e : Edge). e.ground) weigh_edges
unfolding euclid gcd_of lcm_of frame_from sum_of all_of fitting weighed_fit weighed weigh_edges
weigh_edges_lem = refl
