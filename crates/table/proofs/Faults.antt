-- R68: what the four wrong ways give in the cases, and that their starts are not smooth.
use Prim.Native.Nat.{ℕ, ◌+◌, ◌-◌, ◌*◌, ◌/◌, ◌≤◌, ◌<◌}
use mathlib.Core.Path.{◌≡◌, refl}
use mathlib.Core.List.{List, [], ◌∷◌}
use native.Mathlib.Omega.{arith}
use native.Mathlib.Decide.{dec_le}
use lib.IntN.{pos, sub_ℕ}
use lib.Signed.{◌<ℤ◌, le_z_yes, lt_z_yes, clash_ℤ}
use borrow.Author.Tests.{le-ltb}
use Rattle.line.specs.declared.Slot.{Slot}
use Rattle.line.specs.Slots.{run_with, total, map_at}
use Rattle.line.specs.Streams.{due, every, ends_before}
use Rattle.line.specs.Demand.{new_demand, Smooth, last_end}
use Rattle.table.specs.Grounds.{asked}
use Rattle.line.specs.Ends.{ends_of}
use Rattle.line.proofs.Excess.{excess_within}
use Rattle.table.specs.Cases.{case_a, case_d, case_m}
use Rattle.table.specs.Faults.{closed_start, excess_with, floor_start, QuietAtEnds}

-- R13: an excess anywhere: not smooth
pub not_smooth : (t0 : ℕ) (l : List Slot) (Cn Tn r t : ℕ) → t0 ≤ t → pos 0 <ℤ excess_with t0 l Cn Tn r t → Smooth t0 l (new_demand Cn Tn) r → ⊥
not_smooth t0 l Cn Tn r t h x s = clash_ℤ x (s.no_excess t h)

-- R68: the closed formula gives 8 in case B
pub closed_formula_b : closed_start 6 (run_with 8 16 6 2) 32 ≡ 8
unfolding closed_start
closed_formula_b = refl

-- R68: with nothing remaining it is the end itself, and where more remains than time is left it is cut at t0
pub closed_formula_edges : (closed_start 6 (run_with 8 16 6 0) 32 ≡ 16)
    × (closed_start 6 (run_with 8 16 6 8) 32 ≡ 6)
    × (closed_start 6 (run_with 8 16 6 2) 48 ≡ 10)
unfolding closed_start
closed_formula_edges = (refl, refl, refl)

-- R68: the floor gives 103 in case D, and with 103 the line that ends at 108 is a tick short
pub floor_d : floor_start 100 (asked case_d.table case_d.request) 2 4 108 ≡ 103
unfolding floor_start total due map_at
floor_d = refl

-- R68: its last term: once Tn − Cn more in case A; once less in case M, where x is below Cn; and cut at t0 where that is below 0
pub floor_edges : (floor_start 8 (asked case_a.table case_a.request) 1 4 16 ≡ 13)
    × (floor_start 100 (asked case_m.table case_m.request) 3 6 108 ≡ 101)
    × (floor_start 100 (asked case_m.table case_m.request) 4 8 108 ≡ 100)
unfolding floor_start total due map_at
floor_edges = (refl, refl, refl)

floor_d_excess : excess_with 100 (asked case_d.table case_d.request) 2 4 103 108 ≡ pos 1
unfolding total due map_at
floor_d_excess = refl

-- R68, R13
pub floor_d_not_smooth : Smooth 100 (asked case_d.table case_d.request) (new_demand 2 4) 103 → ⊥
floor_d_not_smooth = not_smooth 100 (asked case_d.table case_d.request) 2 4 103 108 (omega arith) (rw floor_d_excess (lt_z_yes tt))

-- R68: the running lines' ends alone give 103 in case M: it is the least start with no excess there
ends_m : ends_of 100 (last_end 100 (asked case_m.table case_m.request)) (asked case_m.table case_m.request) ≡ 108 ∷ []
unfolding every ends_before ends_of last_end map_at
ends_m = refl

-- R68: in case M a start at 103 is quiet at every end of a running line
pub only_ends_m : QuietAtEnds 100 (asked case_m.table case_m.request) 3 6 103
unfolding total due map_at
only_ends_m = rw ends_m (le_z_yes tt, tt)

demand_m : (u : ℕ) → excess_with 100 (asked case_m.table case_m.request) 3 6 u 108 ≡ sub_ℕ (7 + new_demand 3 6 u 108) 8
unfolding total due map_at
demand_m u = refl

-- R68: no earlier start has none there
pub only_ends_m_least : (u : ℕ) → 100 ≤ u → QuietAtEnds 100 (asked case_m.table case_m.request) 3 6 u → 103 ≤ u
unfolding due
only_ends_m_least u h q = by (dec_le 103 u)
  where
    by : Dec (103 ≤ u) → 103 ≤ u
    by (yes b) = b
    by (no b) =
        let e : new_demand 3 6 u 108 ≡ 0 + 3 * ((108 - u) / 6) = rw (le-ltb 108 u (omega arith)) in
        let a = rw ends_m at q in
        omega (arith, excess_within (7 + new_demand 3 6 u 108) 8 (rw (demand_m u) at a.0), e)

-- R68: the new line's own first end would then be 109, with an excess of 1
pub only_ends_m_excess : excess_with 100 (asked case_m.table case_m.request) 3 6 103 109 ≡ pos 1
unfolding total due map_at
only_ends_m_excess = refl

-- R68, R13
pub only_ends_m_not_smooth : Smooth 100 (asked case_m.table case_m.request) (new_demand 3 6) 103 → ⊥
only_ends_m_not_smooth = not_smooth 100 (asked case_m.table case_m.request) 3 6 103 109 (omega arith) (rw only_ends_m_excess (lt_z_yes tt))

-- started at once in case A there is an excess of 2 at 16
at_once_a_excess : excess_with 8 (asked case_a.table case_a.request) 1 4 8 16 ≡ pos 2
unfolding total due map_at
at_once_a_excess = refl

-- R68: the new line's share, 1/4, is below the others', and a start at once is not smooth
pub at_once_a_not_smooth : (1 * 16 < 8 * 4) × (Smooth 8 (asked case_a.table case_a.request) (new_demand 1 4) 8 → ⊥)
at_once_a_not_smooth = (omega arith, not_smooth 8 (asked case_a.table case_a.request) 1 4 8 16 (omega arith) (rw at_once_a_excess (lt_z_yes tt)))
