-- R30 by ends: the running lines alone have excess at some tick exactly when they have it at an end before the last end, and the first such tick is an end.
use mathlib.Core.Path.{◌≡◌}
use mathlib.Core.Logic.{⊎_elim}
use mathlib.Core.Bool.{true, false}
use mathlib.Core.List.{List}
use Rattle.std.specs.Prelude.{None, Some}
use Prim.Native.Nat.{ℕ, ◌+◌, ◌-◌, ◌≤◌, ◌<◌}
use native.Mathlib.Omega.{arith}
use Rattle.line.specs.declared.Slot.{Slot}
use Rattle.line.specs.Demand.{demands, last_end}
use Rattle.line.specs.Ends.{short_at, first_short, ends_of}
use Rattle.line.proofs.Ends.{soonest_none, soonest_here, soonest_first}
use Rattle.line.proofs.Excess.{excess_short, short_excess, fine_excess}
use Rattle.theory.specs.Given.{Given, Alone, AnyEnd}
use Rattle.theory.proofs.Numbers.{split}
use Rattle.theory.proofs.Tail.{no_excess_from_last_end}
use Rattle.theory.proofs.Ends.{latest, any_late, ends_all, all_ends}

-- the running lines alone have an excess above 0 at t
pub record Excess (t0 : ℕ) (l : List Slot) (t : ℕ) : Type 0 where
  pub from_clock : t0 ≤ t
  pub above : t - t0 < demands t0 l t

-- R30: a tick with excess comes before the last end, and the latest end up to it has excess too
pub ten_at_ends : (F t0 : ℕ) (l : List Slot) (Cn Tn t : ℕ) → Given F l Cn Tn → Excess t0 l t
    → (d : ℕ) × (d ≤ t) × (d < last_end t0 l) × AnyEnd t0 l d × Excess t0 l d
ten_at_ends F t0 l Cn Tn t g x =
    split (last_end t0 l) t
    (λ h. absurd (omega (arith, no_excess_from_last_end F t0 l Cn Tn t0 g (omega arith) t h, x.above)))
    (λ h. ⊎_elim
    (λ z. absurd (omega (arith, z, x.above)))
    (λ z. let n = any_late t0 l z.0 g.sound z.2 in
    (z.0, z.1, omega (arith, z.1), z.2, record { from_clock = omega arith; above = omega (arith, z.1, z.3, x.above) }))
    (latest t0 l g.sound t x.from_clock))

-- R30: no excess at the ends before the last end: none up to n
quiet_by_ends : (F t0 : ℕ) (l : List Slot) (Cn Tn n : ℕ) → Given F l Cn Tn
    → ((d : ℕ) → AnyEnd t0 l d → d < last_end t0 l → d < n → demands t0 l d ≤ d - t0) → (t : ℕ) → t0 ≤ t → t < n → demands t0 l t ≤ t - t0
quiet_by_ends F t0 l Cn Tn n g f t h b =
    split (demands t0 l t) (t - t0) (λ c. c)
    (λ c. let w = ten_at_ends F t0 l Cn Tn t g (record { from_clock = h; above = omega arith }) in
    omega (arith, f w.0 w.3 w.2 (omega (arith, w.1, b)), w.4.above))

-- ---- the computed test

-- it finds no end: nowhere any excess
pub alone_without_short_end : (F t0 : ℕ) (l : List Slot) (Cn Tn : ℕ) → Given F l Cn Tn → first_short t0 l ≡ None → Alone t0 l
unfolding first_short
alone_without_short_end F t0 l Cn Tn g e t h =
    quiet_by_ends F t0 l Cn Tn (1 + t) g
    (λ d a b c. fine_excess (demands t0 l d) (d - t0) (all_ends (λ d. short_at t0 l d ≡ false) t0 (last_end t0 l) l g.sound (soonest_none (short_at t0 l) _ e) d a b))
    t h (omega arith)

-- R103: what is known of the first end that it finds
pub record FirstShort (t0 : ℕ) (l : List Slot) (d : ℕ) : Type 0 where
  pub an_end : AnyEnd t0 l d
  pub before_last : d < last_end t0 l
  pub short : Excess t0 l d
  pub none_before : (t : ℕ) → t0 ≤ t → t < d → demands t0 l t ≤ t - t0

-- it finds one: it is an end before the last end and short, and before it no tick has excess
pub found_short : (F t0 : ℕ) (l : List Slot) (Cn Tn d : ℕ) → Given F l Cn Tn → first_short t0 l ≡ Some d → FirstShort t0 l d
unfolding first_short
found_short F t0 l Cn Tn d g e =
    let ends = ends_of t0 (last_end t0 l) l in
    let w = soonest_here (short_at t0 l) (λ d. AnyEnd t0 l d × (d < last_end t0 l)) d ends e (ends_all _ t0 (last_end t0 l) l g.sound (λ d a b. (a, b))) in
    let n = any_late t0 l d g.sound w.1.0 in
    let first = all_ends (λ u. short_at t0 l u ≡ true → d ≤ u) t0 (last_end t0 l) l g.sound (soonest_first (short_at t0 l) d ends e) in
    record {
      an_end = w.1.0;
      before_last = w.1.1;
      short = record { from_clock = omega arith; above = short_excess (demands t0 l d) (d - t0) w.0 };
      none_before =
          quiet_by_ends F t0 l Cn Tn d g
          (λ u a b c.
          split (demands t0 l u) (u - t0) (λ h. h) (λ h. absurd (omega (arith, first u a b (excess_short (demands t0 l u) (u - t0) h)))));
    }
