-- The tail: with sums 8 and 9 in order there is no excess from the last end on, wherever the new line starts.
use mathlib.Core.Path.{refl}
use mathlib.Core.List.{List, [], ◌∷◌}
use Rattle.std.specs.Prelude.{Option, None, Some}
use Prim.Native.Nat.{ℕ, zero, suc, ◌+◌, ◌*◌, ◌-◌, ◌≤◌, ◌<◌}
use native.Mathlib.Nat.{le_of_mul-le-mul_left, mul-le-mul_right, not-suc-le-zero}
use native.Mathlib.Omega.{arith}
use Rattle.line.specs.declared.Held.{Held}
use Rattle.line.specs.declared.Stream.{Stream}
use Rattle.line.specs.declared.Slot.{Slot}
use Rattle.line.specs.Slots.{at, Each, total}
use Rattle.line.specs.Streams.{asks, of_stream, end_at, flow, share_of, claim_of, full_of, Measures}
use Rattle.line.specs.Demand.{demand, new_demand, demands, end_of, last_end}
use Rattle.line.specs.Shares.{Divides, share, claim, full}
use Rattle.theory.specs.Given.{Given}
use Rattle.theory.proofs.Numbers.{due_share}
use Rattle.theory.proofs.Flow.{flow_late}
use Rattle.theory.proofs.Sums.{total_le, total_add, total_mul, total_mulr}

-- the last end is at or after the clock and every first end
pub last_late : (t0 : ℕ) (l : List Slot) → t0 ≤ last_end t0 l
unfolding last_end
last_late t0 [] = omega arith
last_late t0 (s ∷ l) = omega (arith, last_late t0 l)

-- R15: no first end comes after the last end
pub last_each : (t0 : ℕ) (l : List Slot) → Each (λ h. end_of t0 h ≤ last_end t0 l) l
unfolding last_end
last_each t0 [] i b = absurd (not-suc-le-zero b)
last_each t0 (s ∷ l) zero b = omega arith
last_each t0 (s ∷ l) (suc i) b = omega (arith, last_each t0 l i (omega arith))

-- R15: nor does the last end come later than all first ends do
pub last_within : (t0 n : ℕ) (l : List Slot) → 0 < n → Each (λ h. end_of t0 h < t0 + n) l → last_end t0 l < t0 + n
unfolding last_end
last_within t0 n [] p a = omega arith
last_within t0 n (s ∷ l) p a = omega (arith, a 0 (omega arith), last_within t0 n l p (λ i b. a (suc i) (omega arith)))

-- one slot from its first end on
pub one_late : (F t0 : ℕ) (h : Held) (t : ℕ) → Divides F h → end_of t0 h ≤ t
    → F * demand t0 h t + full F h ≤ claim F h + share F h * (t - t0)
one_late F t0 h t d b = go (asks h) d b
  where
    go : (o : Option Stream) → of_stream (Unit {0}) (Measures F) o → of_stream t0 (end_at t0) o ≤ t
        → F * of_stream 0 (λ x. flow t0 x t) o + of_stream 0 (full_of F) o ≤ of_stream 0 (claim_of F) o + of_stream 0 (share_of F) o * (t - t0)
    go None d b = omega arith
    go (Some x) d b = flow_late t0 x t F d b

-- R28, R29: from the last end on, F times the demand is at most what the sum of R29 leaves and the shares of the time
pub all_late : (F t0 : ℕ) (l : List Slot) (t : ℕ) → Each (Divides F) l → last_end t0 l ≤ t
    → F * demands t0 l t + total (full F) l ≤ total (claim F) l + total (share F) l * (t - t0)
all_late F t0 l t d b =
    omega (
      arith,
      total_le (λ h. F * demand t0 h t + full F h) (λ h. claim F h + share F h * (t - t0)) l
          (λ i c. one_late F t0 (at l i) t (d i c) (omega (arith, last_each t0 l i c))),
      total_add (λ h. F * demand t0 h t) (full F) l,
      total_add (claim F) (λ h. share F h * (t - t0)) l,
      total_mul F (λ h. demand t0 h t) l,
      total_mulr (t - t0) (share F) l,
    )

-- R13, R15: from the last end on there is no excess, wherever the new line starts
pub no_excess_from_last_end : (F t0 : ℕ) (l : List Slot) (Cn Tn r : ℕ) → Given F l Cn Tn → t0 ≤ r
    → (t : ℕ) → last_end t0 l ≤ t → demands t0 l t + new_demand Cn Tn r t ≤ t - t0
no_excess_from_last_end F t0 l Cn Tn r g late t h =
    le_of_mul-le-mul_left
    (omega (
      arith,
      all_late F t0 l t g.divides h,
      due_share F t0 r 0 Cn Tn t g.new_divides late (λ _. refl),
      mul-le-mul_right (t - t0) g.eight,
      g.nine,
    ))
    g.some_frame
