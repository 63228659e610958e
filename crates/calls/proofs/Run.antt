-- A run: what was counted, and what the ticks that are left say, make what all ticks say.
use Rattle.std.specs.Prelude.{Option, None, Some, Ok, Err, is_some}
use mathlib.Core.Bool.{Bool}
use mir.Val.{bool_byte}
use mathlib.Core.Path.{◌≡◌, refl, sym, ap, ◌∙◌}
use Prim.Native.Nat.{ℕ, suc, ◌+◌, ◌-◌, ◌≤◌, ◌<◌}
use native.Mathlib.Omega.{arith}
use Rattle.table.specs.declared.Table.{Table}
use Rattle.table.specs.declared.Refusal.{Refusal}
use Rattle.table.specs.declared.Acted.{Acted}
use Rattle.table.specs.Words.{Said}
use Rattle.table.specs.Step.{step_of}
use Rattle.calls.specs.Cards.{counted, more, and_then, ticks_run}

more_more : (a b : ℕ) (s : Said ℕ) → more (a + b) s ≡ more a (more b s)
more_more a b (Ok n) = ap Ok (omega arith)
more_more a b (Err x) = refl

-- nothing is counted, and all ticks are left
pub run_start : (ticks : ℕ) (t : Table) → more 0 (ticks_run (ticks - 0) t) ≡ ticks_run ticks t
run_start ticks t = ap (λ (n : ℕ). more 0 (ticks_run n t)) (omega arith) ∙ go (ticks_run ticks t)
  where
    go : (s : Said ℕ) → more 0 s ≡ s
    go (Ok n) = ap Ok (omega arith)
    go (Err x) = refl

-- no tick is left
pub run_end : (ticks i ran : ℕ) (t : Table) → ticks ≤ i → Ok ran ≡ more ran (ticks_run (ticks - i) t)
unfolding ticks_run
run_end ticks i ran t h =
    ap Ok (omega arith) ∙ ap (λ (n : ℕ). more ran (ticks_run n t)) (sym left)
  where
    left : ticks - i ≡ 0
    left = omega arith

one_tick : (n : ℕ) (t : Table) → ticks_run (suc n) t ≡ and_then ((step_of t).answer) (ticks_run n (step_of t).table)
unfolding ticks_run
one_tick n t = refl

module _ (ticks i ran : ℕ) (t : Table) (h : i < ticks) {s : Acted (Option ℕ)} (e : s ≡ step_of t) where
  next : ticks_run (ticks - i) t ≡ and_then s.answer (ticks_run (ticks - (i + 1)) s.table)
  next =
      ap (λ (n : ℕ). ticks_run n t) (omega arith) ∙ one_tick (ticks - (i + 1)) t
      ∙ ap (λ (x : Acted (Option ℕ)). and_then x.answer (ticks_run (ticks - (i + 1)) x.table)) (sym e)

  -- R66: a step that ran moves its tick from what is left to what was counted
  pub run_on : (w : Option ℕ) → s.answer ≡ Ok w → (k : ℕ) → k ≡ counted w
      → more (ran + k) (ticks_run (ticks - (i + 1)) s.table) ≡ more ran (ticks_run (ticks - i) t)
  run_on w o k n =
      let rest = ticks_run (ticks - (i + 1)) s.table in
      more_more ran k rest ∙ ap (λ (j : ℕ). more ran (more j rest)) n
      ∙ ap (λ (x : Said (Option ℕ)). more ran (and_then x rest)) (sym o) ∙ ap (more ran) (sym next)

  -- R66: a refused step settles what all ticks say
  pub run_stop : (x : Refusal) → s.answer ≡ Err x → Err x ≡ more ran (ticks_run (ticks - i) t)
  run_stop x o =
      ap (λ (y : Said (Option ℕ)). more ran (and_then y (ticks_run (ticks - (i + 1)) s.table))) (sym o)
      ∙ ap (more ran) (sym next)

-- R66: a tick in which a line ran, as a number
pub counted_is : (w : Option ℕ) {b : Bool} {k : ℕ} → b ≡ is_some w → k ≡ bool_byte b → k ≡ counted w
counted_is None e f = f ∙ ap bool_byte e
counted_is (Some j) e f = f ∙ ap bool_byte e

pub counted_small : (w : Option ℕ) → counted w ≤ 1
counted_small None = omega arith
counted_small (Some k) = omega arith
