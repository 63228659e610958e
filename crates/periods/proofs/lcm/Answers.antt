-- `lcm` meets its contract: with a 0 the multiple is 0, and otherwise the product is the multiple.
use native.Mathlib.Omega.{arith}
use native.Mathlib.Nat.{pos_of_dvd_of_pos}
use Prim.Native.Nat.{ℕ, ◌*◌, ◌/◌}
use mathlib.Core.Path.{◌≡◌, ap, ◌∙◌}
use Rattle.periods.specs.Multiples.{gcd_of, lcm_of, capped, CappedLcm}
use Rattle.periods.proofs.GcdLcm.{lcm_is, lcm_zero_left}
use Rattle.periods.proofs.lcm.Goals as goal

answer : (a b r : ℕ) → r ≡ capped (lcm_of a b) → CappedLcm a b r
answer a b r e = record { multiple = lcm_is a b; value = e; bound = omega arith }

product : (a b g : ℕ) → g ≡ gcd_of a b → a / g * b ≡ lcm_of a b
unfolding lcm_of
product a b g e = ap (λ (x : ℕ). a / x * b) e

pub returns-then-a-eq0 : goal.returns-then-a-eq0
returns-then-a-eq0 c =
    let x = c.args in
    answer x.a x.b 0 (omega (arith, ap (λ (n : ℕ). lcm_of n x.b) c.if-a-eq0.true ∙ lcm_zero_left x.b))

pub nonzero_div-part : goal.nonzero_div-part
nonzero_div-part c = omega (arith, pos_of_dvd_of_pos c.gcd.ensures.0.left (omega arith))

pub returns : goal.returns
returns c =
    let x = c.args in
    let g = c.gcd in
    let p = product x.a x.b g.result g.ensures.1 in
    answer x.a x.b _ (omega (arith, p))
