-- A line that stands at a tick t: its ends before t are taken, its next end is u, and a falls due there.
use Prim.Native.Nat.{ℕ, suc, ◌+◌, ◌*◌, ◌≤◌, ◌<◌}
use mathlib.Core.Path.{◌≡◌, refl, sym, ap, ◌∙◌}
use mathlib.Core.Logic.{◌⊎◌, inl, inr, ⊎_elim}
use native.Mathlib.Nat.{mul-le-mul_right, div-eq_of_lt-le}
use native.Mathlib.Decide.{dec_le}
use native.Mathlib.Omega.{arith}
use Rattle.line.specs.declared.Stream.{Stream}
use Rattle.line.specs.Streams.{due}
use Rattle.line.proofs.Due.{due_before_lem, due_after, due_shift}
use Rattle.pass.specs.Pass.{due_by}

-- R10: what was due before t: a line that ends a tick later has as much due by t
abbrev pub due_before : ℕ → Stream → ℕ
due_before t x = due (1 + x.end) x.remaining x.need x.period t

-- R10: what is due by t was due before the tick after it
pub before_suc : (t : ℕ) (x : Stream) → due_before (1 + t) x ≡ due_by t x
before_suc t x = due_shift 1 x.end x.remaining x.need x.period t

-- R10: from the end m on, up to the next
due_from : (e c C P t m : ℕ) → e + m * P ≤ t → t < e + suc m * P → due e c C P t ≡ c + C * m
due_from e c C P t m a b =
    due_after e c C P t (omega arith) ∙ ap (λ (q : ℕ). c + C * q) (div-eq_of_lt-le {k = m} P (omega arith) (omega arith))

-- its first end is still to come, where what remains falls due; or the end m was the latest, and its need falls due at the next
pub record NextEnd (x : Stream) (t u a : ℕ) : Type 0 where
  pub ahead : t ≤ u
  pub how : ((u ≡ x.end) × (a ≡ x.remaining)) ⊎ ((m : ℕ) × (u ≡ x.end + suc m * x.period) × (x.end + m * x.period < t) × (a ≡ x.need))

-- at the clock no end is taken
pub next_start : (x : Stream) → NextEnd x 0 x.end x.remaining
next_start x = record { ahead = omega arith; how = inl (refl, refl) }

later_end : (m k P : ℕ) → m * P < k * P → suc m * P ≤ k * P
later_end m k P h =
    elim (dec_le k m) [
      | yes l ↦ absurd (omega (arith, mul-le-mul_right P l))
      | no l ↦ mul-le-mul_right P (omega arith)
    ]

module _ {x : Stream} {t u a : ℕ} (v : NextEnd x t u a) where
  -- R9: the next end is an end
  pub next_end : (k : ℕ) × (u ≡ x.end + k * x.period)
  next_end = ⊎_elim (λ w. (0, omega (arith, w.0))) (λ w. (suc w.0, w.1)) v.how

  -- R9: and none comes between
  pub next_least : (k : ℕ) → t ≤ x.end + k * x.period → u ≤ x.end + k * x.period
  next_least k h =
      ⊎_elim (λ w. omega (arith, w.0)) (λ w. omega (arith, w.1, later_end w.0 k x.period (omega (arith, w.2)))) v.how

  -- what falls due is not above a bound on both
  pub next_small : (z : ℕ) → x.remaining ≤ z → x.need ≤ z → a ≤ z
  next_small z p q = ⊎_elim (λ w. omega (arith, w.1)) (λ w. omega (arith, w.3)) v.how

  -- up to its next end the line stands as it is, and no more was due
  module _ (d : ℕ) (le : t ≤ d) (ge : d ≤ u) where
    pub next_on : NextEnd x d u a
    next_on = record { ahead = ge; how = ⊎_elim (λ w. inl w) (λ w. inr (w.0, w.1, omega (arith, w.2), w.3)) v.how }

    pub before_on : due_before d x ≡ due_before t x
    before_on =
        ⊎_elim
        (λ w. due_before_lem (1 + x.end) x.remaining x.need x.period d (omega (arith, w.0))
        ∙ sym (due_before_lem (1 + x.end) x.remaining x.need x.period t (omega (arith, w.0, v.ahead))))
        (λ w. due_from (1 + x.end) x.remaining x.need x.period d w.0 (omega (arith, w.2)) (omega (arith, w.1))
        ∙ sym (due_from (1 + x.end) x.remaining x.need x.period t w.0 (omega (arith, w.2)) (omega (arith, w.1, v.ahead))))
        v.how

  -- R10: before its next end nothing falls due
  pub due_none : t < u → due_by t x ≡ due_before t x
  due_none h =
      ⊎_elim
      (λ w. due_before_lem x.end x.remaining x.need x.period t (omega (arith, w.0))
      ∙ sym (due_before_lem (1 + x.end) x.remaining x.need x.period t (omega (arith, w.0))))
      (λ w. due_from x.end x.remaining x.need x.period t w.0 (omega (arith, w.2)) (omega (arith, w.1))
      ∙ sym (due_from (1 + x.end) x.remaining x.need x.period t w.0 (omega (arith, w.2)) (omega (arith, w.1))))
      v.how

  module _ (p : 1 ≤ x.period) (h : t ≡ u) where
    -- R10: at its next end a falls due
    pub due_taken : due_by t x ≡ due_before t x + a
    due_taken =
        ⊎_elim
        (λ w. omega (
          arith,
          w.0,
          w.1,
          due_before_lem (1 + x.end) x.remaining x.need x.period t (omega (arith, w.0)),
          due_from x.end x.remaining x.need x.period t 0 (omega (arith, w.0)) (omega (arith, w.0)),
        ))
        (λ w. omega (
          arith,
          w.3,
          due_from (1 + x.end) x.remaining x.need x.period t w.0 (omega (arith, w.2)) (omega (arith, w.1)),
          due_from x.end x.remaining x.need x.period t (suc w.0) (omega (arith, w.1)) (omega (arith, w.1)),
        ))
        v.how

    -- R9, R10: and it moves on to the end after that, where its need falls due
    pub next_taken : NextEnd x (1 + t) (t + x.period) x.need
    next_taken = record {
      ahead = omega arith;
      how = ⊎_elim (λ w. inr (0, omega (arith, w.0), omega (arith, w.0), refl)) (λ w. inr (suc w.0, omega (arith, w.1), omega (arith, w.1), refl)) v.how;
    }
