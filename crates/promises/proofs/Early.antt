-- An earlier start misses a period: it is not smooth, so some tick before the last end has excess, and no run gets past that tick.
use Rattle.std.specs.Prelude.{Ok, Err, Option, None, Some}
use mathlib.Core.Path.{◌≡◌, refl, sym, ap, ◌∙◌, subst}
use mathlib.Core.Logic.{◌⊎◌, inl, inr, ⊎_elim}
use Prim.Native.Nat.{ℕ, zero, suc, ◌+◌, ◌-◌, ◌^◌, ◌≤◌, ◌<◌}
use native.Mathlib.Nat.{not-suc-le-zero}
use native.Mathlib.Numerals.{add-one}
use native.Mathlib.Omega.{arith}
use borrow.Author.Tests.{lt-leb}
use lib.ListN.{length}
use Rattle.line.specs.declared.Held.{Held}
use Rattle.line.specs.declared.Held.TheVariants.{Nothing, Running, Waiting}
use Rattle.table.specs.declared.Table.{Table}
use Rattle.table.specs.declared.Request.{Request}
use Rattle.table.specs.declared.Acted.{Acted}
use Rattle.line.specs.Slots.{at, Each, is_nothing, Waits, lowest_of}
use Rattle.table.specs.Words.{refused_act, refusal}
use Rattle.line.specs.Sound.{Sound}
use Rattle.line.specs.Demand.{demands, new_demand, end_of, last_end, Smooth}
use Rattle.table.specs.Grounds.{entry, asked}
use Rattle.line.specs.Stretch.{stretch}
use Rattle.line.specs.Shares.{frame}
use Rattle.table.specs.Counts.{accounted}
use Rattle.table.specs.Ask.{ask_of}
use Rattle.table.specs.Admit.{admitted_at}
use Rattle.table.specs.Step.{choose, serve, ticked, advance, step_of}
use Rattle.table.proofs.Counts.{booked_within, put_within}
use Rattle.line.specs.Tick.{short}
use Rattle.theory.specs.Fine.{May, Kept}
use Rattle.theory.specs.Given.{Granted}
use Rattle.theory.proofs.Numbers.{split}
use Rattle.theory.proofs.Tail.{last_within, no_excess_from_last_end}
use Rattle.theory.proofs.Granted.{says_start, granted}
use Rattle.line.proofs.Stretched.{length_stretched, at_stretched}
use Rattle.line.proofs.Excess.{within_excess}
use Rattle.theory.proofs.Pump.{sound_serve, sound_pass, earliest_may, demands_now, excess_kept}
use Rattle.theory.proofs.Step.{short_none, sound_faultless, choose_earliest, advanced}
use Rattle.theory.proofs.Admitted.{admitted_demands, admitted_sound}
use Rattle.promises.specs.Demand3.{stepped, Sixteen, Misses}
use Rattle.promises.proofs.Good.{slot_empty, admitted_slots}

-- ---- a table with excess ahead

-- the step of a sound table before the last tick is the tick of its own choice, refused or not
sound_step : (t : Table) → Each Sound t.slots → accounted t ≤ t.clock → t.clock < 2 ^ 48 → step_of t ≡ advance (choose t) t
unfolding step_of
sound_step t s w h = rw (lt-leb (2 ^ 48) t.clock h, sound_faultless t s w)

short_step : (t : Table) (i : ℕ) → Each Sound t.slots → accounted t ≤ t.clock → t.clock < 2 ^ 48 → lowest_of short (serve (choose t) t.slots) ≡ Some i
    → step_of t ≡ refused_act t 14 i
unfolding advance
short_step t i s w h e = sound_step t s w h ∙ rw e

-- R77: n ticks ahead there is excess: a step before that reports 14
pub runs_short : (n last : ℕ) (t : Table) → Each Sound t.slots → accounted t ≤ t.clock → t.clock + n < last → last ≤ 2 ^ 48
    → n < demands t.clock t.slots (t.clock + n) → Misses t last
runs_short zero last t s w b l x =
    let z : t.clock + 0 ≡ t.clock = omega arith in
    absurd (omega (arith, demands_now t.clock t.slots s, rw z at x))
runs_short (suc n) last t s within b l x = go (lowest_of short (serve o t.slots)) refl (runs_short n last next)
  where
    o : Option ℕ
    o = choose t

    next : Table
    next = (ticked o t).table

    later : Misses next last → step_of t ≡ ticked o t → Misses t last
    later w e = record {
      steps = suc w.steps;
      slot = w.slot;
      goes = goes;
      misses = subst (λ (s : Acted (Option ℕ)). (step_of (stepped w.steps s.table)).answer ≡ Err (refusal 14 w.slot)) (sym e) w.misses;
      before = omega (arith, w.before);
    }
      where
        goes : (m : ℕ) → m < suc w.steps → (p : Option ℕ) × ((step_of (stepped m t)).answer ≡ Ok p)
        goes zero h = (o, ap (λ (s : Acted (Option ℕ)). s.answer) e)
        goes (suc m) h =
            subst (λ (s : Acted (Option ℕ)). (p : Option ℕ) × ((step_of (stepped m s.table)).answer ≡ Ok p)) (sym e) (w.goes m (omega arith))

    go : (p : Option ℕ) → lowest_of short (serve o t.slots) ≡ p
        → (Each Sound next.slots → accounted next ≤ next.clock → next.clock + n < last → last ≤ 2 ^ 48 → n < demands next.clock next.slots (next.clock + n) → Misses next last)
        → Misses t last
    go (Some i) e rest = record {
      steps = 0;
      slot = i;
      goes = λ m h. absurd (not-suc-le-zero h);
      misses = ap (λ (s : Acted (Option ℕ)). s.answer) (short_step t i s within (omega arith) e);
      before = omega arith;
    }
    go None e rest =
        let v : Each Kept (serve o t.slots) = short_none (serve o t.slots) e in
        let m : May o t.slots = earliest_may o t.slots (choose_earliest t) in
        let y = excess_kept t.clock o t.slots (t.clock + suc n) s m v (omega arith) (omega arith) in
        let a : t.clock + suc n ≡ t.clock + 1 + n = omega arith in
        let c : demands (t.clock + 1) next.slots (t.clock + 1 + n) ≡ demands (suc t.clock) next.slots (t.clock + suc n) =
        rw (add-one t.clock, ← add-one t.clock, a) refl in
        later (rest (sound_pass (serve o t.slots) (sound_serve o t.slots m s)) (omega (arith, within, booked_within o t)) (omega arith) l (omega (arith, y.0, c)))
        (sound_step t s within (omega arith) ∙ advanced o t v)

-- ---- a start that is not smooth

-- a bounded search: f d is at most d at every d below n, or it is above d at one
pub search_excess : (f : ℕ → ℕ) (n : ℕ) → ((d : ℕ) → d < n → f d ≤ d) ⊎ ((d : ℕ) × (d < n) × (d < f d))
search_excess f zero = inl (λ d h. absurd (not-suc-le-zero h))
search_excess f (suc n) =
    ⊎_elim
    (λ a. split (f n) n (λ h. inl (λ d g. split n d (λ b. let z : d ≡ n = omega arith in omega (arith, h, ap f z)) (λ b. a d b))) (λ h. inr (n, omega arith, h)))
    (λ x. inr (x.0, omega (arith, x.1), x.2))
    (search_excess f n)

-- the last end is within a sixteen-bit number of the clock, where no line waits
end_near : (t0 : ℕ) (p : ℕ) (h : Held) → p < 2 ^ 16 → (Waits h → ⊥) → end_of t0 (stretch p h) < t0 + 2 ^ 16
end_near t0 p Nothing b n = omega arith
end_near t0 p (Running r) b n = omega arith
end_near t0 p (Waiting w) b n = absurd (n refl)

-- R15: so is the last end
pub last_near : (t : Table) (q : Request) → Sixteen q → Each (λ h. Waits h → ⊥) t.slots → last_end t.clock (asked t q) < t.clock + 2 ^ 16
last_near t q six n =
    last_within t.clock (2 ^ 16) (asked t q) (omega arith)
    (λ i b. let c : i < length t.slots = rw (← length_stretched t.slots (entry q)) b in
    rw (at_stretched t.slots (entry q) i) (end_near t.clock (entry q i) (at t.slots i) (six i) (n i c)))

-- an earlier start has excess at some tick before the last end
early_excess : (t : Table) (q : Request) (r r' : ℕ) → Granted t q r → t.clock ≤ r' → r' < r
    → (d : ℕ) × (t.clock + d < last_end t.clock (asked t q)) × (d < demands t.clock (asked t q) (t.clock + d) + new_demand q.need q.period r' (t.clock + d))
early_excess t q r r' g late less =
    let t0 = t.clock in
    let l = asked t q in
    let last = last_end t0 l in
    let f : ℕ → ℕ = λ d. demands t0 l (t0 + d) + new_demand q.need q.period r' (t0 + d) in
    ⊎_elim
    (λ a. let s : Smooth t0 l (new_demand q.need q.period) r' = record {
      from_clock = late;
      no_excess = λ x h.
          within_excess _ (x - t0)
          (split last x
          (λ b. omega (arith, no_excess_from_last_end (frame l q.period) t0 l q.need q.period r' g.cleared.given late x b))
          (λ b. let z : t0 + (x - t0) ≡ x = omega arith in omega (arith, rw z at (a (x - t0) (omega arith)))));
    } in
    absurd (omega (arith, g.least.least r' s)))
    (λ w. (w.0, omega (arith, w.1), w.2))
    (search_excess f (last - t0))

-- R77: admitted at any start from the clock on and before the one answered, some period is missed before the last end
pub no_earlier : (t : Table) (q : Request) (r r' : ℕ) → Sixteen q → ask_of t q ≡ Ok r → t.clock ≤ r' → r' < r
    → Misses (admitted_at t q r') (last_end t.clock (asked t q))
no_earlier t q r r' six e late less =
    let g = granted t q r (says_start (ask_of t q) r e) in
    let d = g.cleared.given in
    let k = slot_empty t q g.cleared.slot g.cleared.lowest_empty in
    let w = early_excess t q r r' g late less in
    let l = asked t q in
    let s = admitted_slots t q r' g.cleared.slot g.cleared.lowest_empty in
    let same = admitted_demands t.clock l g.cleared.slot q.need q.period r' (t.clock + w.0) k.2 k.3
    (omega (arith, d.new_some, d.new_fits)) late in
    runs_short w.0 (last_end t.clock l) (admitted_at t q r')
    (rw s (admitted_sound l g.cleared.slot q.need q.period (r' - t.clock) d.sound d.new_some d.new_fits))
    (omega (arith, g.cleared.within, put_within (lowest_of is_nothing t.slots) t.had))
    w.1 (omega (arith, last_near t q six g.cleared.none_waits, g.cleared.early))
    (rw s (omega (arith, same, w.2)))
