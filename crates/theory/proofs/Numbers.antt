-- Laws of `due`, for any end, period and clock, beside those of `line`: everything else about demand is cited from here.
use mathlib.Core.Path.{◌≡◌, ap}
use Prim.Native.Nat.{ℕ, suc, ◌+◌, ◌*◌, ◌-◌, ◌/◌, ◌∣◌, ◌≤◌, ◌<◌}
use native.Mathlib.Nat.{div-eq_of_lt, div-eq-sub-div, mul-le-mul_left, mul-le-mul_right, le_trans}
use native.Mathlib.Decide.{dec_le}
use native.Mathlib.Omega.{arith}
use Rattle.periods.proofs.Whole.{whole, div_mono, div_anti, share_of_time}
use Rattle.line.specs.Streams.{due}
use Rattle.line.proofs.Due.{due_before_lem, due_after}

by_le : {G : Type 0} (a b : ℕ) → Dec (a ≤ b) → (a ≤ b → G) → (b < a → G) → G
by_le a b (yes h) f g = f h
by_le a b (no n) f g = g (omega arith)

-- two cases, by the order of two numbers
pub split : {G : Type 0} (a b : ℕ) → (a ≤ b → G) → (b < a → G) → G
split a b f g = by_le a b (dec_le a b) f g

-- demand never falls
pub due_mono : (e x C P t u : ℕ) → 1 ≤ P → t ≤ u → due e x C P t ≤ due e x C P u
due_mono e x C P t u p h =
    split e t
    (λ g. omega (arith, due_after e x C P t g, due_after e x C P u (omega arith), mul-le-mul_left C (div_mono P (t - e) (u - e) p (omega arith))))
    (λ g. omega (arith, due_before_lem e x C P t g))

-- less due at every end after the first is no more in all
pub due_less : (e x C D P t : ℕ) → C ≤ D → due e x C P t ≤ due e x D P t
due_less e x C D P t h =
    split e t
    (λ g. omega (arith, due_after e x C P t g, due_after e x D P t g, mul-le-mul_right ((t - e) / P) h))
    (λ g. omega (arith, due_before_lem e x C P t g))

-- with nothing due after the first end, it is due from then on and nothing more
pub due_once : (e x P t : ℕ) → e ≤ t → due e x 0 P t ≡ x
due_once e x P t h = omega (arith, due_after e x 0 P t h)

-- a longer period asks for no more: of a line with the same age, whose end comes later by as much
pub due_longer : (k e v x C P Q t : ℕ) → 1 ≤ P → P ≤ Q → v + P ≡ e + Q → due (k + v) x C Q t ≤ due (k + e) x C P t
due_longer k e v x C P Q t p h z =
    split (k + v) t
    (λ g. let b : k + e ≤ k + v = omega arith in
    let n : (t - (k + v)) / Q ≤ (t - (k + e)) / P =
    le_trans (div_anti P Q (t - (k + v)) p h) (div_mono P (t - (k + v)) (t - (k + e)) p (omega arith))
    in
    omega (arith, due_after (k + v) x C Q t g, due_after (k + e) x C P t (le_trans b g), mul-le-mul_left C n))
    (λ g. omega (arith, due_before_lem (k + v) x C Q t g))

-- an end with nothing owed is a whole need owed at the next end
pub due_renew : (e C P t : ℕ) → 1 ≤ P → due (e + P) C C P t ≡ due e 0 C P t
due_renew e C P t p =
    split (e + P) t
    (λ h. let d : t - (e + P) ≡ t - e - P = omega arith in
    let q : (t - e) / P ≡ (t - e - P) / P + 1 = div-eq-sub-div p (omega arith) in
    omega (arith, due_after (e + P) C C P t h, due_after e 0 C P t (omega arith), ap (λ (n : ℕ). C * n) q, ap (λ (n : ℕ). C * (n / P)) d))
    (λ h. split e t
    (λ g. let q : (t - e) / P ≡ 0 = div-eq_of_lt (omega arith) in
    omega (arith, due_before_lem (e + P) C C P t h, due_after e 0 C P t g, ap (λ (n : ℕ). C * n) q))
    (λ g. omega (arith, due_before_lem (e + P) C C P t h, due_before_lem e 0 C P t g)))

-- at or after the first end a tick paid is a tick less
pub due_pay : (e x C P t : ℕ) → e ≤ t → due e (suc x) C P t ≡ suc (due e x C P t)
due_pay e x C P t h = omega (arith, due_after e x C P t h, due_after e (suc x) C P t h)

-- with nothing owed at an end that comes, demand is at most the share of the time since k
pub due_share : (M k e x C P t : ℕ) → P ∣ M → k ≤ e → (e ≤ t → x ≡ 0) → M * due e x C P t ≤ C * (M / P) * (t - k)
due_share M k e x C P t d b z =
    split e t
    (λ h. let u : t - e ≤ t - k = omega arith in
    omega (
      arith,
      ap (λ (n : ℕ). M * n) (due_after e x C P t h),
      ap (λ (n : ℕ). M * n) (z h),
      share_of_time P M C (t - e) d,
      mul-le-mul_left (C * (M / P)) u,
    ))
    (λ h. omega (arith, ap (λ (n : ℕ). M * n) (due_before_lem e x C P t h)))

-- from the first end on, demand is at most what is owed and the share of the time since the period began, less one need
pub due_late : (M k e x C P t : ℕ) → P ∣ M → k + e ≤ t → M * due (k + e) x C P t + M * C ≤ M * x + C * (M / P) * (P - e) + C * (M / P) * (t - k)
due_late M k e x C P t d h =
    let b : t - (k + e) + P ≤ t - k + (P - e) = omega arith in
    omega (
      arith,
      ap (λ (n : ℕ). M * n) (due_after (k + e) x C P t h),
      share_of_time P M C (t - (k + e)) d,
      ap (λ (n : ℕ). n * C) (whole P M d),
      mul-le-mul_left (C * (M / P)) b,
    )
