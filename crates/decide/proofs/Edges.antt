-- The decision at given numbers, by computation: the order of its grounds, the period and the gap of a line, and slices that differ in length.
use Prim.Native.Nat.{ℕ}
use mathlib.Core.Path.{◌≡◌, refl}
use mathlib.Core.List.{List, [], ◌∷◌, map}
use Rattle.periods.specs.Multiples.{euclid, gcd_of, lcm_of, frame_from}
use Rattle.line.specs.Streams.{due, every, ends_before}
use Rattle.line.specs.Ends.{bound, greatest, soonest_of}
use Rattle.sums.specs.Lines.{along, sum_of, all_of}
use Rattle.sums.specs.Weighed.{fitting, weighed_fit, weighed}
use Rattle.pass.specs.Pass.{greatest_end, ends_by, pass_over, pass_of}
use Rattle.decide.specs.Lines.{Line, line_with}
use Rattle.decide.specs.Decided.{Decision, Start, Refused, Short, decided, decided_in}

-- lines with a new line, and what is to be decided
pub record Edge : Type 0 where
  pub lines : List Line
  pub need : ℕ
  pub period : ℕ
  pub says : Decision

abbrev edge : List Line → (need period : ℕ) → Decision → Edge
edge l n p d = record { lines = l; need = n; period = p; says = d }

-- each ground alone and before the next; then a period of 16 with gaps of 16 and of 4, and a period of 4 with a gap of 16; then gaps that fit and those that do not:
-- above the longest, below the need, before the first end, and 0
unfoldable pub decide_edges : List Edge
decide_edges =
    edge (line_with 9 4 4 8 8 ∷ []) 0 5 (Refused 4)
    ∷ edge (line_with 101 1 1 101 101 ∷ []) 0 9901 (Refused 6)
    ∷ edge (line_with 101 101 101 101 101 ∷ []) 1 9901 (Refused 7)
    ∷ edge (line_with 4 3 4 8 8 ∷ []) 5 8 (Refused 8)
    ∷ edge (line_with 1 3 4 8 8 ∷ line_with 8 0 1 8 8 ∷ []) 1 8 (Refused 9)
    ∷ edge (line_with 3 4 4 20 20 ∷ line_with 20 0 10 20 20 ∷ []) 1 4 (Short (record { after = 3; excess = 1 }))
    ∷ edge (line_with 3 3 4 20 20 ∷ line_with 20 0 10 20 20 ∷ []) 1 4 (Start 0)
    ∷ edge (line_with 3 3 4 16 16 ∷ line_with 20 0 10 20 20 ∷ []) 1 4 (Start 0)
    ∷ edge (line_with 3 3 4 16 4 ∷ line_with 20 0 10 20 20 ∷ []) 1 4 (Start 16)
    ∷ edge (line_with 3 3 4 4 16 ∷ line_with 20 0 10 20 20 ∷ []) 1 4 (Refused 8)
    ∷ edge (line_with 8 4 4 8 65536 ∷ []) 1 8 (Start 0)
    ∷ edge (line_with 8 4 4 8 65537 ∷ []) 1 8 (Refused 4)
    ∷ edge (line_with 3 0 4 8 4 ∷ []) 1 8 (Start 0)
    ∷ edge (line_with 3 0 4 8 3 ∷ []) 1 8 (Refused 4)
    ∷ edge (line_with 8 4 4 8 8 ∷ []) 1 8 (Start 0)
    ∷ edge (line_with 8 4 4 8 7 ∷ []) 1 8 (Refused 4)
    ∷ edge (line_with 0 0 0 8 1 ∷ []) 1 8 (Start 0)
    ∷ edge (line_with 0 0 0 8 0 ∷ []) 1 8 (Refused 4)
    ∷ []

-- R18, R24, R26 to R30, R14: each ground in its order, and what looks at the period and what at the gap
pub decide_edges_lem : map (λ (e : Edge). decided e.lines e.need e.period) decide_edges ≡ map (λ (e : Edge). e.says) decide_edges
unfolding euclid gcd_of lcm_of frame_from due every ends_before bound greatest soonest_of sum_of all_of fitting weighed_fit weighed greatest_end ends_by pass_over pass_of decided decide_edges
decide_edges_lem = refl

-- slices of one line: all alike, and each of the last four a number short or long
pub slices_edges : decided_in (8 ∷ []) (4 ∷ []) (4 ∷ []) (8 ∷ []) (8 ∷ []) 1 8
    ∷ decided_in (8 ∷ []) [] (4 ∷ []) (8 ∷ []) (8 ∷ []) 1 8
    ∷ decided_in (8 ∷ []) (4 ∷ []) (4 ∷ 4 ∷ []) (8 ∷ []) (8 ∷ []) 1 8
    ∷ decided_in (8 ∷ []) (4 ∷ []) (4 ∷ []) (8 ∷ 8 ∷ []) (8 ∷ []) 1 8
    ∷ decided_in (8 ∷ []) (4 ∷ []) (4 ∷ []) (8 ∷ []) [] 1 8
    ∷ []
    ≡ Start 0 ∷ Refused 4 ∷ Refused 4 ∷ Refused 4 ∷ Refused 4 ∷ []
unfolding euclid gcd_of lcm_of frame_from due every ends_before bound greatest soonest_of along sum_of all_of fitting weighed_fit weighed greatest_end ends_by pass_over pass_of decided decided_in
slices_edges = refl
