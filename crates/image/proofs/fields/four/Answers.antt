-- `four`: the sum is the one of the law, in another order.
use mathlib.Core.Path.{◌≡◌, ap, ◌∙◌}
use Prim.Native.Nat.{◌+◌, ◌*◌}
use native.Mathlib.Omega.{arith}
use Rattle.card.specs.Bytes.{le}
use Rattle.image.proofs.Eight.{four_is}
use Rattle.image.proofs.fields.four.Goals as goal

pub returns : goal.returns
returns x =
    let a = x.args in
    let e : a.a + a.b * 65536 + (a.c + a.d * 65536) * 4294967296 ≡ a.a + 65536 * (a.b + 65536 * (a.c + 65536 * a.d)) = omega arith in
    ap (le 8) e ∙ four_is a.a a.b a.c a.d (omega arith) (omega arith) (omega arith)
