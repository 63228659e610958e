-- What the driver holds: what it held after a refused step, and in both cases the table that the step hands back.
use Rattle.std.specs.Prelude.{ℕ, Option, Ok, Err, is_ok}
use Rattle.table.specs.Words.{Said}
use mathlib.Core.Path.{◌≡◌, refl, sym, ap, ap₂, ◌∙◌}
use mathlib.Core.Bool.{Bool, true, false, not}
use lib.Dec.{T as Holds}
use Rattle.table.specs.declared.Table.{Table}
use Rattle.table.specs.declared.Refusal.{Refusal}
use Rattle.table.specs.declared.Acted.{Acted}
use Rattle.line.specs.Slots.{pick}
use Rattle.table.specs.Step.{step_of}
use Rattle.table.proofs.Step.{refused_keeps}
use Rattle.driver.specs.Driven.{driven_of}

-- the branch of the code, both ways: z is what it tested, of the step s
module _ (t : Table) (s : Acted (Option ℕ)) (e : s ≡ step_of t) where
  held : (z : Bool) → z ≡ is_ok s.answer → pick z s.table t ≡ driven_of t
  held z f = ap (λ (w : Bool). pick w s.table t) f ∙ ap (λ (r : Acted (Option ℕ)). pick (is_ok r.answer) r.table t) e

  -- R51: where the step was made, its table is what the driver is to hold
  pub stored : (z : Bool) → z ≡ is_ok s.answer → Holds z → s.table ≡ driven_of t
  stored true f y = held true f
  stored false f y = absurd y

  -- R51: where it was refused, that is the table that was there
  pub left : (z : Bool) → z ≡ is_ok s.answer → Holds (not z) → t ≡ driven_of t
  left true f y = absurd y
  left false f y = held false f

-- R51: a refused step changes nothing in the driver
pub refused_drive_keeps : (t : Table) (x : Refusal) → (step_of t).answer ≡ Err x → driven_of t ≡ t
refused_drive_keeps t x e = simp e

-- R51: refused or not, the driver then holds the table that the step hands back
pub driven_is_stepped : (t : Table) → driven_of t ≡ (step_of t).table
driven_is_stepped t = by (step_of t).answer refl
  where
    by : (o : Said (Option ℕ)) → (step_of t).answer ≡ o → driven_of t ≡ (step_of t).table
    by (Ok w) e = simp e
    by (Err x) e = refused_drive_keeps t x e ∙ sym (refused_keeps t x e)

-- R48, R51: what `drive` answers, beside what the driver then holds, is the step
pub driven_with_answer : (t u : Table) (m : Said (Option ℕ)) → m ≡ (step_of t).answer → u ≡ driven_of t → ◌≡◌ {A = Acted (Option ℕ)} (record { table = u; answer = m }) (step_of t)
driven_with_answer t u m e f =
    ap₂ (λ (v : Table) (o : Said (Option ℕ)). let s : Acted (Option ℕ) = record { table = v; answer = o } in s) (f ∙ driven_is_stepped t) e

-- The contract of `drive` is one equation for the answer and one for what stands behind the reference at exit, so two results that it allows are equal.
module _ (t : Table) (r₁ r₂ : Said (Option ℕ)) (t₁ t₂ : Table) where
  abbrev Allowed : Said (Option ℕ) → Table → Type 0
  Allowed r u = (r ≡ (step_of t).answer) × (u ≡ driven_of t)

  -- R51, R71: one answer, and one table behind the reference
  pub drive_determined : Allowed r₁ t₁ → Allowed r₂ t₂ → (r₁ ≡ r₂) × (t₁ ≡ t₂)
  drive_determined a b = (a.0 ∙ sym b.0, a.1 ∙ sym b.1)
