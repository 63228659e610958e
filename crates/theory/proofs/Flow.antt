-- Laws of one stream: its demand, its ends and its share from tick to tick. What is known of a slot derives from these.
use mathlib.Core.Path.{◌≡◌, sym, ap, ◌∙◌}
use mathlib.Core.Logic.{◌⊎◌, inl, inr}
use Prim.Native.Nat.{ℕ, suc, ◌+◌, ◌*◌, ◌-◌, ◌/◌, ◌%◌, ◌≤◌, ◌<◌}
use native.Mathlib.Nat.{div-eq_of_lt-le, div-add-mod, mod-lt, mul-le-mul_left, mul-zero}
use native.Mathlib.Decide.{ℕ_discrete}
use native.Mathlib.Omega.{arith}
use borrow.Author.Tests.{lt-ltb, le-ltb}
use Rattle.periods.proofs.Whole.{whole}
use Rattle.line.specs.declared.Follows.{Follows}
use Rattle.line.specs.declared.Follows.TheVariants.{Renews, Leaves}
use Rattle.line.specs.declared.Stream.{Stream}
use Rattle.line.specs.Slots.{by_follows}
use Rattle.line.specs.Streams.{stream, of_stream, due, end_at, again, flow, EndThen, EndAt, share_of, claim_of, full_of, Measures, Proper, paid, nearer, begun_then, onward, Slower}
use Rattle.line.proofs.After.{by_follows_lem}
use Rattle.line.proofs.Due.{due_before_lem, due_after}
use Rattle.theory.specs.Fine.{Closes}
use Rattle.theory.proofs.Numbers.{split, due_mono, due_less, due_once, due_longer, due_renew, due_pay, due_share, due_late}

-- ---- from one tick to a later one

by_dec : {A G : Type 0} → Dec A → (A → G) → ((A → ⊥) → G) → G
by_dec (yes a) f g = f a
by_dec (no n) f g = g n

-- a tick that fills no period adds none
div_same : (n P : ℕ) → 1 ≤ P → (suc n % P ≡ 0 → ⊥) → suc n / P ≡ n / P
div_same n P p h =
    let q : ℕ = suc n / P in
    let r : ℕ = suc n % P in
    let e : P * q + r ≡ suc n = div-add-mod (suc n) P in
    let b : r < P = mod-lt (suc n) p in
    let c : 1 ≤ r = split 1 r (λ g. g) (λ g. absurd (h (omega arith))) in
    sym (div-eq_of_lt-le P (omega arith) (omega arith))

due_step : (e x C P t : ℕ) → 1 ≤ P → (due e x C P (suc t) ≡ due e x C P t) ⊎ ((k : ℕ) × (suc t ≡ e + k * P))
due_step e x C P t p =
    split e t
    (λ h. let s : suc t - e ≡ suc (t - e) = omega arith in
    by_dec (ℕ_discrete (suc (t - e) % P) 0) (λ z. inr (suc (t - e) / P, omega (arith, div-add-mod (suc (t - e)) P)))
    (λ z. inl (due_after e x C P (suc t) (omega arith) ∙ ap (λ (n : ℕ). x + C * (n / P)) s ∙ ap (λ (n : ℕ). x + C * n) (div_same (t - e) P p z) ∙ sym (due_after e x C P t h))))
    (λ h. split e (suc t)
    (λ g. inr (0, omega arith))
    (λ g. inl (due_before_lem e x C P (suc t) g ∙ sym (due_before_lem e x C P t h))))

-- R10: of a line that leaves what is due rises at its end alone
once_step : (e x P t : ℕ) → (due e x 0 P (suc t) ≡ due e x 0 P t) ⊎ (suc t ≡ e)
once_step e x P t =
    split e t
    (λ h. inl (due_once e x P (suc t) (omega arith) ∙ sym (due_once e x P t h)))
    (λ h. split e (suc t) (λ g. inr (omega arith)) (λ g. inl (due_before_lem e x 0 P (suc t) g ∙ sym (due_before_lem e x 0 P t h))))

-- R99: what is due again is no more than the need
pub again_within : (s : Stream) → again s ≤ s.need
again_within s = by_follows_lem (λ (n : ℕ). n ≤ s.need) s.need 0 s.follows (omega arith) (omega arith)

module _ (k : ℕ) (s : Stream) (t : ℕ) where
  -- R10: nothing is due before its end
  pub flow_before : t < end_at k s → flow k s t ≡ 0
  flow_before h = due_before_lem (end_at k s) s.remaining (again s) s.period t h

  -- R10: its demand never falls
  pub flow_mono : (u : ℕ) → Proper s → t ≤ u → flow k s t ≤ flow k s u
  flow_mono u p h = due_mono (end_at k s) s.remaining (again s) s.period t u (omega arith) h

  -- R10: and rises only at an end
  pub flow_step : Proper s → (flow k s (suc t) ≡ flow k s t) ⊎ EndAt k s (suc t)
  flow_step p = go s.follows
    where
      go : (f : Follows) → (due (end_at k s) s.remaining (by_follows s.need 0 f) s.period (suc t) ≡ due (end_at k s) s.remaining (by_follows s.need 0 f) s.period t)
          ⊎ EndThen f (end_at k s) s.period (suc t)
      go Renews = due_step (end_at k s) s.remaining s.need s.period t (omega arith)
      go Leaves = once_step (end_at k s) s.remaining s.period t

  -- R10, R99: leaving or not, it asks for no more than one that renews
  flow_most : flow k s t ≤ due (end_at k s) s.remaining s.need s.period t
  flow_most = due_less (end_at k s) s.remaining (again s) s.need s.period t (again_within s)

  -- R42: more slowly it asks for no more
  pub flow_slower : (v : Stream) → Proper s → Slower s v → flow k v t ≤ flow k s t
  flow_slower v p w =
      let e : flow k v t ≡ due (end_at k v) s.remaining (again s) v.period t =
      ap (λ (n : ℕ). due (end_at k v) n (again v) v.period t) w.same_rest ∙ ap (λ (n : ℕ). due (end_at k v) s.remaining n v.period t) w.same_again in
      omega (arith, e, due_longer k s.end v.end s.remaining (again s) s.period v.period t (omega arith) w.longer w.same_age)

  -- R28, R29: from its end on, F times the demand is at most what the sum of R29 leaves and the share of the time
  pub flow_late : (F : ℕ) → Measures F s → end_at k s ≤ t → F * flow k s t + full_of F s ≤ claim_of F s + share_of F s * (t - k)
  flow_late F d h = omega (arith, mul-le-mul_left F flow_most, due_late F k s.end s.remaining s.need s.period t d h)

  -- R28: where nothing is owed up to t, the demand is at most the share of the time after the coming tick
  pub flow_share : (M : ℕ) → Proper s → Measures M s → (0 < s.remaining → t < end_at k s) → M * flow k s t ≤ share_of M s * (t - suc k)
  flow_share M p d q =
      let b = due_share M (suc k) (end_at k s) s.remaining s.need s.period t d (omega arith)
      (λ g. split 1 s.remaining (λ v. omega (arith, q v)) (λ v. omega arith)) in
      omega (arith, mul-le-mul_left M flow_most, b)

  -- ---- a tick

  -- R45: a tick paid is a tick less at its end and later
  pub flow_paid : 0 < s.remaining → end_at k s ≤ t → flow k s t ≡ suc (flow k (paid s) t)
  flow_paid v g =
      let e : s.remaining ≡ suc (s.remaining - 1) = omega arith in
      cc (e, due_pay (end_at k s) (s.remaining - 1) (again s) s.period t g)

  -- R45: and nothing before
  pub flow_unpaid : t < end_at k s → flow k s t ≡ flow k (paid s) t
  flow_unpaid g = flow_before g ∙ sym (due_before_lem (end_at k s) (s.remaining - 1) (again s) s.period t g)

  -- R46, R99: where a period ends with nothing owed, what follows asks for what was due
  flow_begun : Proper s → s.remaining ≡ 0 → k + s.end ≡ suc k → of_stream 0 (λ v. flow (suc k) v t) (begun_then s.follows s.need s.period) ≡ flow k s t
  flow_begun p z e = go s.follows
    where
      go : (f : Follows) → of_stream 0 (λ v. flow (suc k) v t) (begun_then f s.need s.period) ≡ due (end_at k s) s.remaining (by_follows s.need 0 f) s.period t
      go Renews = cc (due_renew (suc k) s.need s.period t (omega arith), z, e)
      go Leaves = split (end_at k s) t (λ h. omega (arith, z, due_once (end_at k s) s.remaining s.period t h)) (λ h. sym (due_before_lem (end_at k s) s.remaining 0 s.period t h))

  -- R45 to R47: a tick of the clock changes no demand: an end stays where it is, and what begins is what was due
  pub flow_onward : Proper s → Closes s → of_stream 0 (λ v. flow (suc k) v t) (onward s) ≡ flow k s t
  flow_onward p v =
      split s.end 1
      (λ g. let e : k + s.end ≡ suc k = omega arith in
      rw (le-ltb 1 s.end g) (flow_begun p (v g) e))
      (λ g. let e : suc k + (s.end - 1) ≡ k + s.end = omega arith in
      rw (lt-ltb 1 s.end g) (ap (λ (n : ℕ). due n s.remaining (again s) s.period t) e))

module _ (s : Stream) where
  -- what holds of a stream a tick later, by the three ways it can be
  pub onward_is {ℓ} : {A : Type ℓ} (Q : A → Type 0) (z : A) (f : Stream → A)
      → (1 < s.end → Q (f (nearer s)))
      → (s.end ≤ 1 → Q (f (stream s.period s.need s.need s.period)))
      → (s.end ≤ 1 → Q z)
      → Q (of_stream z f (onward s))
  onward_is Q z f a b c = split s.end 1 (λ g. rw (le-ltb 1 s.end g) (go s.follows g)) (λ g. rw (lt-ltb 1 s.end g) (a g))
    where
      go : (w : Follows) → s.end ≤ 1 → Q (of_stream z f (begun_then w s.need s.period))
      go Renews g = b g
      go Leaves g = c g

  -- at the beginning of a period the age has earned nothing
  new_age : (M : ℕ) → s.need * (M / s.period) * (s.period - s.period) ≡ 0
  new_age M = let z : s.period - s.period ≡ 0 = omega arith in ap (λ (n : ℕ). s.need * (M / s.period) * n) z ∙ mul-zero (s.need * (M / s.period))

  -- R29: a whole period's age has earned a whole need
  whole_age : (M : ℕ) → Measures M s → s.need * (M / s.period) * s.period ≡ s.need * M
  whole_age M d = omega (arith, ap (λ (n : ℕ). s.need * n) (whole s.period M d))

  -- R29: over a tick the claim, less the need, rises by the share at most
  pub lag_onward : (M : ℕ) → Proper s → Measures M s → Closes s
      → of_stream 0 (claim_of M) (onward s) + full_of M s ≤ claim_of M s + share_of M s + of_stream 0 (full_of M) (onward s)
  lag_onward M p d v =
      split s.end 1
      (λ g. let e : s.period - s.end + 1 ≡ s.period = omega arith in
      let b : full_of M s ≤ claim_of M s + share_of M s = omega (arith, whole_age M d, ap (λ (n : ℕ). M * n) (v g), ap (λ (n : ℕ). s.need * (M / s.period) * n) e) in
      rw (le-ltb 1 s.end g) (go s.follows b))
      (λ g. let b : s.period - (s.end - 1) ≤ s.period - s.end + 1 = omega arith in
      rw (lt-ltb 1 s.end g) (omega (arith, mul-le-mul_left (s.need * (M / s.period)) b)))
    where
      go : (f : Follows) → full_of M s ≤ claim_of M s + share_of M s
          → of_stream 0 (claim_of M) (begun_then f s.need s.period) + full_of M s ≤ claim_of M s + share_of M s + of_stream 0 (full_of M) (begun_then f s.need s.period)
      go Renews b = omega (arith, new_age M)
      go Leaves b = omega arith

  -- R29: a line that is owed nothing does not lag, since no age is above its period
  pub idle_onward : (M : ℕ) → Measures M s → (0 < s.remaining → ⊥) → of_stream 0 (claim_of M) (onward s) ≤ of_stream 0 (full_of M) (onward s)
  idle_onward M d n =
      let z : s.remaining ≡ 0 = split 1 s.remaining (λ g. absurd (n g)) (λ g. omega arith) in
      split s.end 1
      (λ g. rw (le-ltb 1 s.end g) (go s.follows))
      (λ g. let b : s.period - (s.end - 1) ≤ s.period = omega arith in
      rw (lt-ltb 1 s.end g)
      (omega (arith, ap (λ (n : ℕ). M * n) z, whole_age M d, mul-le-mul_left (s.need * (M / s.period)) b)))
    where
      go : (f : Follows) → of_stream 0 (claim_of M) (begun_then f s.need s.period) ≤ of_stream 0 (full_of M) (begun_then f s.need s.period)
      go Renews = omega (arith, new_age M)
      go Leaves = omega arith
