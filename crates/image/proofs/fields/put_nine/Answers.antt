-- `put_nine`: the number goes behind the byte.
use borrow.Rule.Slice.PartMut.{same_len_mid}
use mathlib.Core.Path.{refl, ap, ◌∙◌}
use mathlib.Core.List.{[], ◌∷◌}
use Prim.Native.Nat.{◌-◌}
use native.Mathlib.Omega.{arith}
use lib.ListN.{length, set, length-set, length-drop}
use lib.Seq.{sets-eq}
use Rattle.card.specs.Bytes.{le}
use Rattle.card.proofs.Parts.{part_all, put_at_lem}
use Rattle.image.proofs.fields.put_nine.Goals as goal

pub slice_bounds-put_eight-count : goal.slice_bounds-put_eight-count
slice_bounds-put_eight-count c = let a = c.args in omega (arith, length-set a.out.now 0 a.first)

pub slice_bounds-put_eight-start : goal.slice_bounds-put_eight-start
slice_bounds-put_eight-start c = let a = c.args in omega (arith, length-set a.out.now 0 a.first)

pub put_eight-requires : goal.put_eight-requires
put_eight-requires c =
    let a = c.args in
    let l = set a.out.now 0 a.first in
    omega (arith, ap length (part_all l 1), length-drop 1 l, length-set a.out.now 0 a.first)

pub shape_of-out : goal.shape_of-out
shape_of-out c =
    let p = c.put_eight in
    let a = c.args in
    let l = set a.out.now 0 a.first in
    same_len_mid 1 (length l - 1) l p.new.out p.auto.out ∙ length-set a.out.now 0 a.first

pub returns : goal.returns
returns c =
    let p = c.put_eight in
    let a = c.args in
    put_at_lem a.out.now _ (a.first ∷ []) (le 8 a.v) p.new.out 1 8 (sets-eq (a.first ∷ []) a.out.now 0 (omega arith)) refl refl p.ensures
