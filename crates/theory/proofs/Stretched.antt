-- The lines at their T': a longer period keeps a line sound, asks for no more and does not lag more.
use mathlib.Core.Path.{◌≡◌, refl, sym, ap, ◌∙◌}
use mathlib.Core.List.{List}
use Rattle.std.specs.Prelude.{Option, None, Some}
use Prim.Native.Nat.{ℕ, ◌+◌, ◌*◌, ◌-◌, ◌/◌, ◌≤◌, ◌<◌}
use native.Mathlib.Nat.{le_of_mul-le-mul_left, mul-le-mul_left, mul-le-mul_right}
use native.Mathlib.Omega.{arith}
use lib.ListN.{length}
use Rattle.periods.proofs.Whole.{whole}
use Rattle.line.specs.declared.Held.{Held}
use Rattle.line.specs.declared.Held.TheVariants.{Nothing, Running, Waiting}
use Rattle.line.specs.declared.Stream.{Stream}
use Rattle.line.specs.declared.Slot.{Slot}
use Rattle.line.specs.Slots.{at, Each, is_waiting, Waits}
use Rattle.line.specs.Sound.{Sound}
use Rattle.line.specs.Streams.{asks, of_stream, flow, claim_of, full_of, Measures, Proper, Slower, Slowed}
use Rattle.line.specs.Demand.{demand, demands}
use Rattle.line.specs.Stretch.{stretch, stretched, Barred}
use Rattle.line.specs.Shares.{Divides, claim, full}
use Rattle.line.proofs.Streams.{sound_asks, asks_sound, asks_stretch}
use Rattle.line.proofs.Stretched.{length_stretched, at_stretched}
use Rattle.theory.specs.Fine.{Shares, Fine, Lag, Unbarred}
use Rattle.theory.proofs.Sums.{total_mul, total_le_two}
use Rattle.theory.proofs.Flow.{flow_slower}

-- a fact of each slot, taken over to the stretched lines
pub each_stretched : (Q R : Held → Type 0) (l : List Slot) (p : ℕ → ℕ) → ((x : ℕ) (h : Held) → (Barred x h → ⊥) → Q h → R (stretch x h)) → Unbarred l p → Each Q l → Each R (stretched l p)
each_stretched Q R l p f n a i b =
    let c : i < length l = rw (← length_stretched l p) b in
    rw (at_stretched l p i) (f (p i) (at l i) (n i c) (a i c))

-- R5, R25: a sound line is sound at a period that is not shorter
pub stretch_sound : (p : ℕ) (h : Held) → (Barred p h → ⊥) → Sound h → Sound (stretch p h)
stretch_sound p h n s = asks_sound (stretch p h) (go (asks h) (asks (stretch p h)) (sound_asks h s) (asks_stretch p h s n))
  where
    go : (o v : Option Stream) → of_stream (Unit {0}) Proper o → Slowed o v → of_stream (Unit {0}) Proper v
    go None None p w = tt
    go None (Some y) p w = absurd w
    go (Some x) None p w = absurd w
    go (Some x) (Some y) p w = omega (arith, w.same_need, w.same_rest, w.longer, w.same_age)

-- R5, R25: and so are all of them
pub sound_stretched : (l : List Slot) (p : ℕ → ℕ) → Unbarred l p → Each Sound l → Each Sound (stretched l p)
sound_stretched l p n a = each_stretched Sound Sound l p stretch_sound n a

stretch_waits : (p : ℕ) (h : Held) → is_waiting (stretch p h) ≡ is_waiting h
stretch_waits p Nothing = refl
stretch_waits p (Running r) = refl
stretch_waits p (Waiting w) = refl

-- R23: where no line waits none does after stretching
pub running_stretched : (l : List Slot) (p : ℕ → ℕ) → Unbarred l p → Each (λ h. Waits h → ⊥) l → Each (λ h. Waits h → ⊥) (stretched l p)
running_stretched l p n a = each_stretched (λ h. Waits h → ⊥) (λ h. Waits h → ⊥) l p (λ x h m v w. v (sym (stretch_waits x h) ∙ w)) n a

-- R10: a longer period only lowers demand
pub demand_longer : (k p : ℕ) (h : Held) (t : ℕ) → Sound h → (Barred p h → ⊥) → demand k (stretch p h) t ≤ demand k h t
demand_longer k p h t s n = go (asks h) (asks (stretch p h)) (sound_asks h s) (asks_stretch p h s n)
  where
    go : (o v : Option Stream) → of_stream (Unit {0}) Proper o → Slowed o v → of_stream 0 (λ x. flow k x t) v ≤ of_stream 0 (λ x. flow k x t) o
    go None None p w = omega arith
    go None (Some y) p w = absurd w
    go (Some x) None p w = absurd w
    go (Some x) (Some y) p w = flow_slower k x t y p w

-- R42: at longer periods no more is wanted by t
pub demands_longer : (k : ℕ) (l : List Slot) (p : ℕ → ℕ) (t : ℕ) → Each Sound l → Unbarred l p → demands k (stretched l p) t ≤ demands k l t
demands_longer k l p t a n =
    total_le_two (λ h. demand k h t) (λ h. demand k h t) (stretched l p) l (length_stretched l p)
    (λ i b. let c : i < length l = rw (← length_stretched l p) b in
    rw (at_stretched l p i) (demand_longer k (p i) (at l i) t (a i c) (n i c)))

-- R30: it does not hold of a fine table, whose lines alone, at their T', have no excess
pub never_ten : {M k : ℕ} {l : List Slot} (p : ℕ → ℕ) → Fine M k l → Unbarred l p → (t : ℕ) → k ≤ t → demands k (stretched l p) t ≤ t - k
never_ten {M} {k} {l} p f n t b = omega (arith, demands_longer k l p t f.sound n, f.no_excess t b)

-- the lag of one line, by two common multiples: with the longer period age earns less
claim_slower : (M N : ℕ) (s v : Stream) → Proper s → Measures M s → Measures N v → Slower s v → M * claim_of N v ≤ N * claim_of M s
claim_slower M N s v f d e w =
    let x : ℕ = M / s.period in
    let y : ℕ = N / v.period in
    let a : M * y ≤ N * x =
    omega (arith, ap (λ (k : ℕ). k * y) (whole s.period M d), ap (λ (k : ℕ). k * x) (whole v.period N e), mul-le-mul_right (x * y) w.longer)
    in
    let g : v.period - v.end ≡ s.period - s.end = omega (arith, w.same_age, w.longer) in
    let b : claim_of N v ≡ N * s.remaining + s.need * y * (s.period - s.end) =
    ap (λ (k : ℕ). N * k + v.need * y * (v.period - v.end)) w.same_rest ∙ ap (λ (k : ℕ). N * s.remaining + k * y * (v.period - v.end)) w.same_need ∙ ap (λ (k : ℕ). N * s.remaining + s.need * y * k) g in
    omega (arith, ap (λ (k : ℕ). M * k) b, mul-le-mul_right (s.need * (s.period - s.end)) a)

claim_longer : (M N p : ℕ) (h : Held) → Sound h → Divides M h → Divides N (stretch p h) → (Barred p h → ⊥) → M * claim N (stretch p h) ≤ N * claim M h
claim_longer M N p h s d e n = go (asks h) (asks (stretch p h)) (sound_asks h s) d e (asks_stretch p h s n)
  where
    go : (o v : Option Stream) → of_stream (Unit {0}) Proper o → of_stream (Unit {0}) (Measures M) o → of_stream (Unit {0}) (Measures N) v → Slowed o v
        → M * of_stream 0 (claim_of N) v ≤ N * of_stream 0 (claim_of M) o
    go None None p d e w = omega arith
    go None (Some y) p d e w = absurd w
    go (Some x) None p d e w = absurd w
    go (Some x) (Some y) p d e w = claim_slower M N x y p d e w

full_longer : (M N p : ℕ) (h : Held) → Sound h → (Barred p h → ⊥) → N * full M h ≤ M * full N (stretch p h)
full_longer M N p h s n = go (asks h) (asks (stretch p h)) (asks_stretch p h s n)
  where
    go : (o v : Option Stream) → Slowed o v → N * of_stream 0 (full_of M) o ≤ M * of_stream 0 (full_of N) v
    go None None w = omega arith
    go None (Some y) w = absurd w
    go (Some x) None w = absurd w
    go (Some x) (Some y) w = omega (arith, ap (λ (k : ℕ). M * (N * k)) w.same_need)

-- R29: it does not hold where the lag is at most 0
pub lag_stretched : {M : ℕ} {l : List Slot} (N : ℕ) (p : ℕ → ℕ) → Each Sound l → Shares M l → Lag M l → Each (Divides N) (stretched l p) → Unbarred l p → Lag N (stretched l p)
lag_stretched {M} {l} N p a v g d n =
    le_of_mul-le-mul_left
    (omega (
      arith,
      total_le_two (λ h. M * claim N h) (λ h. N * claim M h) (stretched l p) l (length_stretched l p)
          (λ i b. let c : i < length l = rw (← length_stretched l p) b in
          let x : Divides N (stretch (p i) (at l i)) = rw (at_stretched l p i) at (d i b) in
          rw (at_stretched l p i) (claim_longer M N (p i) (at l i) (a i c) (v.common i c) x (n i c))),
      total_le_two (λ h. N * full M h) (λ h. M * full N h) l (stretched l p) (sym (length_stretched l p)) (λ i b. rw (at_stretched l p i) (full_longer M N (p i) (at l i) (a i b) (n i b))),
      total_mul M (claim N) (stretched l p),
      total_mul N (claim M) l,
      total_mul N (full M) l,
      total_mul M (full N) (stretched l p),
      mul-le-mul_left N g,
    ))
    v.some_frame
