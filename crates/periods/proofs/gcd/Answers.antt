use native.Mathlib.Omega.{arith}
use Prim.Native.Nat.{ℕ}
use mathlib.Core.Path.{◌≡◌, ap, sym, ◌∙◌}
use Rattle.periods.specs.Multiples.{gcd_of, IsGcd}
use Rattle.periods.proofs.GcdLcm.{gcd_is, gcd_zero, gcd_turn}
use Rattle.periods.proofs.gcd.Goals as goal

pub loop-b-preserved : goal.loop-b-preserved
loop-b-preserved c = sym (gcd_turn c.loop-b.a c.loop-b.b (omega arith)) ∙ c.loop-b.invariant

-- what equals gcd_of a b is what it is
answer : (a b r : ℕ) → r ≡ gcd_of a b → IsGcd a b r × (r ≡ gcd_of a b)
answer a b r e = (rw e (gcd_is a b), e)

pub returns : goal.returns
returns c =
    let x = c.loop-b.a in
    answer c.args.a c.args.b x
    (sym (gcd_zero x) ∙ ap (gcd_of x) (sym c.loop-b-test.false) ∙ c.loop-b.invariant)
