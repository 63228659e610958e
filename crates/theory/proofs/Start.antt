-- The least smooth start is the greatest of the bounds that the ends before the last end put on it: each is necessary, together they are enough.
use mathlib.Core.Path.{◌≡◌, sym, ap, ◌∙◌}
use mathlib.Core.Logic.{⊎_elim}
use mathlib.Core.List.{List}
use Prim.Native.Nat.{ℕ, ◌+◌, ◌*◌, ◌-◌, ◌/◌, ◌%◌, ◌≤◌, ◌<◌, min}
use native.Mathlib.Nat.{mul-div-le, div-add-mod, mod-lt, mul-add, mul_comm, mul-le-mul_left, mul-le-mul_right, le_dest, le_trans, mul-pos, le-div_iff_mul-le, le_refl, le_antisymm, zero-div, mul-zero}
use native.Mathlib.Decide.{dec_lt}
use native.Mathlib.Omega.{arith}
use Rattle.periods.proofs.Whole.{share_le}
use Rattle.line.specs.declared.Slot.{Slot}
use Rattle.line.specs.Demand.{new_demand, demands, Smooth, Least, last_end}
use Rattle.line.specs.Ends.{slack, bound, greatest, start, ends_of}
use Rattle.line.proofs.Due.{due_before_lem, due_after}
use Rattle.line.proofs.Ends.{greatest_from, greatest_above, greatest_least}
use Rattle.line.proofs.Excess.{within_excess, smooth_says}
use Rattle.theory.specs.Given.{Given, Alone, AnyEnd}
use Rattle.theory.proofs.Numbers.{split}
use Rattle.theory.proofs.Tail.{last_late, no_excess_from_last_end}
use Rattle.theory.proofs.Ends.{latest, demands_mono, any_late, ends_all, all_ends}

-- ---- one end, on numbers alone

-- the new line, started at r, keeps within the slack s at d and the time since, up to last
abbrev pub FitsAt : (Cn Tn last r d s : ℕ) → Type 0
FitsAt Cn Tn last r d s = (t : ℕ) → d ≤ t → t < last → Cn * ((t - r) / Tn) ≤ s + (t - d)

-- more periods than the slack pays for: the time since d pays for the others
time_pays_the_rest : (Cn Tn last r d s t j : ℕ) → 1 ≤ Cn → Cn ≤ Tn → bound Cn Tn last d s ≤ r → d ≤ t → t < last
    → s / Cn + 1 + j ≡ (t - r) / Tn → Cn * ((t - r) / Tn) ≤ s + (t - d)
unfolding bound
time_pays_the_rest Cn Tn last r d s t j h g b p q e =
    let k = (t - r) / Tn in
    let paid = div-add-mod s Cn in
    let part = mod-lt s h in
    let fits = mul-div-le (t - r) Tn in
    let a : Tn * k ≡ (s / Cn + 1) * Tn + Tn * j = ap (λ (x : ℕ). Tn * x) (sym e) ∙ mul-add Tn (s / Cn + 1) j ∙ ap (λ (x : ℕ). x + Tn * j) (mul_comm Tn (s / Cn + 1)) in
    let f : Cn * k ≡ Cn * (s / Cn) + Cn * 1 + Cn * j = ap (λ (x : ℕ). Cn * x) (sym e) ∙ mul-add Cn (s / Cn + 1) j ∙ ap (λ (x : ℕ). x + Cn * j) (mul-add Cn (s / Cn) 1) in
    let l = mul-le-mul_right j g in
    let pos : 0 < (s / Cn + 1) * Tn = mul-pos (omega arith) (omega arith) in
    omega arith

bound_enough : (Cn Tn last r d s : ℕ) → 1 ≤ Cn → Cn ≤ Tn → bound Cn Tn last d s ≤ r → FitsAt Cn Tn last r d s
bound_enough Cn Tn last r d s h g b t p q =
    elim (dec_lt (s / Cn) ((t - r) / Tn)) [
      | yes l ↦
          let w : s / Cn + 1 ≤ (t - r) / Tn = omega arith in
          let j = le_dest w in
          time_pays_the_rest Cn Tn last r d s t j.0 h g b p q j.1
      | no n ↦
          let u : (t - r) / Tn ≤ s / Cn = omega arith in
          le_trans (le_trans (mul-le-mul_left Cn u) (mul-div-le s Cn)) (omega arith)
    ]

bound_needed : (Cn Tn last r d s : ℕ) → 1 ≤ Cn → 1 ≤ Tn → d < last → FitsAt Cn Tn last r d s → bound Cn Tn last d s ≤ r
unfolding bound
bound_needed Cn Tn last r d s h g l f =
    elim (dec_lt r (min (d + Cn - s % Cn) last - (s / Cn + 1) * Tn)) [
      | yes o ↦
          let t = min (d + Cn - s % Cn) last - 1 in
          let paid = div-add-mod s Cn in
          let part = mod-lt s h in
          let k : s / Cn + 1 ≤ (t - r) / Tn = (le-div_iff_mul-le g).1 (omega arith) in
          let b = f t (omega arith) (omega arith) in
          let m = mul-le-mul_left Cn k in
          let a = mul-add Cn (s / Cn) 1 in
          omega arith
      | no n ↦ omega arith
    ]

-- ---- the new line's demand

-- a number of whole periods, 0 of them before r
pub new_is : (Cn Tn r t : ℕ) → new_demand Cn Tn r t ≡ Cn * ((t - r) / Tn)
new_is Cn Tn r t =
    split r t (λ h. due_after r 0 Cn Tn t h ∙ omega arith)
    (λ h. let z : t - r ≡ 0 = omega arith in
    due_before_lem r 0 Cn Tn t h ∙ sym (ap (λ (n : ℕ). Cn * (n / Tn)) z ∙ ap (λ (n : ℕ). Cn * n) (zero-div Tn) ∙ mul-zero Cn))

-- ---- necessity

slack_is : (t0 : ℕ) (l : List Slot) (d : ℕ) → Alone t0 l → t0 ≤ d → slack t0 l d + demands t0 l d ≡ d - t0
unfolding slack
slack_is t0 l d a h = omega (arith, a d h)

-- R13: every smooth start is at or after the bound of every tick before the last end
pub smooth_keeps_bounds : (F t0 : ℕ) (l : List Slot) (Cn Tn r : ℕ) → Given F l Cn Tn → Alone t0 l → Smooth t0 l (new_demand Cn Tn) r
    → (d : ℕ) → t0 ≤ d → d < last_end t0 l → bound Cn Tn (last_end t0 l) d (slack t0 l d) ≤ r
smooth_keeps_bounds F t0 l Cn Tn r g a sm d h b =
    bound_needed Cn Tn (last_end t0 l) r d (slack t0 l d) g.new_some (omega (arith, g.new_some, g.new_fits)) b
    (λ t p q. omega (arith, slack_is t0 l d a h, demands_mono t0 l d t g.sound p, smooth_says sm t (omega arith), new_is Cn Tn r t))

-- ---- sufficiency

-- the bounds of the ends before the last end
abbrev pub Bounded : (t0 : ℕ) (l : List Slot) (Cn Tn r : ℕ) → Type 0
Bounded t0 l Cn Tn r = (d : ℕ) → AnyEnd t0 l d → d < last_end t0 l → bound Cn Tn (last_end t0 l) d (slack t0 l d) ≤ r

-- before the last end: the demand is that of the latest end, whose bound r keeps
before : (F t0 : ℕ) (l : List Slot) (Cn Tn r : ℕ) → Given F l Cn Tn → Alone t0 l → t0 ≤ r → Bounded t0 l Cn Tn r
    → (t : ℕ) → t0 ≤ t → t < last_end t0 l → demands t0 l t + new_demand Cn Tn r t ≤ t - t0
before F t0 l Cn Tn r g a late b t h last =
    ⊎_elim
    (λ z. omega (arith, z, new_is Cn Tn r t, share_le Cn Tn (t - r) g.new_fits))
    (λ z. let n = any_late t0 l z.0 g.sound z.2 in
    omega (
      arith,
      z.1,
      z.3,
      new_is Cn Tn r t,
      slack_is t0 l z.0 a (omega arith),
      bound_enough Cn Tn (last_end t0 l) r z.0 (slack t0 l z.0) g.new_some g.new_fits (b z.0 z.2 (omega (arith, z.1))) t z.1 last,
    ))
    (latest t0 l g.sound t h)

-- R13: a start that keeps every bound is smooth
pub bounds_make_smooth : (F t0 : ℕ) (l : List Slot) (Cn Tn r : ℕ) → Given F l Cn Tn → Alone t0 l → t0 ≤ r → Bounded t0 l Cn Tn r → Smooth t0 l (new_demand Cn Tn) r
bounds_make_smooth F t0 l Cn Tn r g a late b = record {
  from_clock = late;
  no_excess = λ t h.
      within_excess _ (t - t0) (split (last_end t0 l) t (λ e. no_excess_from_last_end F t0 l Cn Tn r g late t e) (λ e. before F t0 l Cn Tn r g a late b t h e));
}

-- ---- the least smooth start

-- R14: the least smooth start is the greatest of the clock and the bounds of the ends before the last end
pub start_least : (F t0 : ℕ) (l : List Slot) (Cn Tn : ℕ) → Given F l Cn Tn → Alone t0 l → Least t0 l (new_demand Cn Tn) (start t0 l Cn Tn)
unfolding start
start_least F t0 l Cn Tn g a =
    let last = last_end t0 l in
    let f : ℕ → ℕ = λ d. bound Cn Tn last d (slack t0 l d) in
    let ds = ends_of t0 last l in
    record {
      smooth = bounds_make_smooth F t0 l Cn Tn (greatest f t0 ds) g a (greatest_from f t0 ds)
          (all_ends (λ d. f d ≤ greatest f t0 ds) t0 last l g.sound (greatest_above f t0 _ ds (le_refl _)));
      least = λ u sm. greatest_least f t0 u ds sm.from_clock
          (ends_all (λ d. f d ≤ u) t0 last l g.sound (λ d e b. smooth_keeps_bounds F t0 l Cn Tn u g a sm d (omega (arith, any_late t0 l d g.sound e)) b));
    }

-- R14: there is only one
pub least_unique : (t0 : ℕ) (l : List Slot) (new : ℕ → ℕ → ℕ) (r u : ℕ) → Least t0 l new r → Least t0 l new u → r ≡ u
least_unique t0 l new r u p q = le_antisymm (p.least u q.smooth) (q.least r p.smooth)

-- R18, R15: the last end is smooth, so a smooth start exists
pub last_smooth : (F t0 : ℕ) (l : List Slot) (Cn Tn : ℕ) → Given F l Cn Tn → Alone t0 l → Smooth t0 l (new_demand Cn Tn) (last_end t0 l)
last_smooth F t0 l Cn Tn g a = record {
  from_clock = last_late t0 l;
  no_excess = λ t h.
      within_excess _ (t - t0)
      (split (last_end t0 l) t
      (λ e. no_excess_from_last_end F t0 l Cn Tn (last_end t0 l) g (last_late t0 l) t e)
      (λ e. omega (arith, a t h, due_before_lem (last_end t0 l) 0 Cn Tn t e)));
}

-- R75, R15: the least one comes by the last end
pub least_by_last : (F t0 : ℕ) (l : List Slot) (Cn Tn r : ℕ) → Given F l Cn Tn → Alone t0 l → Least t0 l (new_demand Cn Tn) r → r ≤ last_end t0 l
least_by_last F t0 l Cn Tn r g a m = m.least (last_end t0 l) (last_smooth F t0 l Cn Tn g a)
