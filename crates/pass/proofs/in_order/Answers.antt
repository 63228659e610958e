use Prim.Native.Nat.{ℕ, ◌+◌, ◌-◌, ◌<◌}
use mathlib.Core.Path.{◌≡◌, refl, ap, ◌∙◌}
use native.Mathlib.Omega.{arith}
use lib.IntN.{nat_abs}
use mir.Syntax.{w64}
use mir.Val.{to_z, of_z}
use Rattle.std.specs.Prelude.{Err}
use Rattle.std.proofs.lemmas.Int.{ints}
use Rattle.pass.specs.declared.NoPass.TheVariants.{Short}
use Rattle.pass.proofs.Order.{order_start, order_on, order_short, order_end, tick_later}
use Rattle.pass.proofs.in_order.Goals as goal

pub loop-d-init : goal.loop-d-init
loop-d-init c =
    (refl, order_start _ _ _ _ _ (λ k h. (c.requires.places.1 k h).some) (λ k h. refl) (λ k h. refl) c.requires.soonest)

pub returns-then-x-gt0 : goal.returns-then-x-gt0
returns-then-x-gt0 c =
    let over : nat_abs (to_z w64 (of_z w64 c.excess_at-x.result)) ≡ c.loop-d.sum + c.take_ends-taken.result.added - c.loop-d.d = omega (arith, ints) in
    let l : c.loop-d.d < c.loop-d.sum + c.take_ends-taken.result.added = omega (arith, ints) in
    let q = c.take_ends-taken.ensures in
    ap (λ (y : ℕ). Err (Short (record { after = c.loop-d.d; excess = y }))) over
    ∙ order_short _ _ _ _ _ (λ k h. (c.requires.places.1 k h).some) c.loop-d.invariant.1 c.loop-d-test.true _ _ _ q.moved.moved (λ k h. refl) (λ k h. refl) q.added_value.0 l

pub loop-d-smaller : goal.loop-d-smaller
loop-d-smaller c =
    let q = c.take_ends-taken.ensures in
    let z = tick_later _ _ _ _ _ (λ k h. (c.requires.places.1 k h).some) c.loop-d.invariant.1 c.loop-d-test.true _ _ _ q.moved.moved (λ k h. refl) (λ k h. refl) q.soonest in
    omega arith

pub loop-d-preserved : goal.loop-d-preserved
loop-d-preserved c =
    let q = c.take_ends-taken.ensures in
    let v = c.loop-d.invariant in (
      c.take_ends-taken.auto.dues ∙ v.0,
      order_on _ _ _ _ _ (λ k h. (c.requires.places.1 k h).some) v.1 c.loop-d-test.true _ _ _ q.moved.moved (λ k h. refl) (λ k h. refl) q.soonest q.added_value.0
          (omega (arith, ints)) (omega arith) c.bound_at-b.ensures c.max-start.ensures,
    )

pub returns : goal.returns
returns c = order_end _ _ _ _ _ (λ k h. (c.requires.places.1 k h).some) c.loop-d.invariant.1 c.loop-d-test.false
