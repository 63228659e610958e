-- `admitted` meets its contract: the new line stands in the slot that the search named.
use mathlib.Core.Path.{refl, sym, ◌∙◌}
use native.Mathlib.Omega.{arith}
use Rattle.admit.proofs.Placing.{put_nowhere, put_at_lem, found_inside}
use Rattle.admit.proofs.place.admitted.Goals as goal

pub bounds-next-k : goal.bounds-next-k
bounds-next-k c = found_inside c.args.t c.well_formed.0.1.1.1.0.1.0.1 c.lowest.ensures c.in-Some.is

pub offset_bounds-next-k : goal.offset_bounds-next-k
offset_bounds-next-k c =
    omega (arith, found_inside c.args.t c.well_formed.0.1.1.1.0.1.0.1 c.lowest.ensures c.in-Some.is)

pub bounds-next-k-in-Some : goal.bounds-next-k-in-Some
bounds-next-k-in-Some c = found_inside c.args.t c.well_formed.0.1.1.1.0.1.0.1 c.lowest.ensures c.in-Some.is

pub offset_bounds-next-k-in-Some : goal.offset_bounds-next-k-in-Some
offset_bounds-next-k-in-Some c =
    omega (arith, found_inside c.args.t c.well_formed.0.1.1.1.0.1.0.1 c.lowest.ensures c.in-Some.is)

pub returns-in-Some : goal.returns-in-Some
returns-in-Some c =
    let x = c.args in
    let e = c.lowest.ensures in
    put_at_lem x.t x.q x.start c.stretch_all-next.ensures (sym e ∙ c.in-Some.is) c.new_line-new.ensures c.holding.ensures refl

pub returns-in_default : goal.returns-in_default
returns-in_default c =
    let x = c.args in
    let e = c.lowest.ensures in
    put_nowhere x.t x.q x.start c.stretch_all-next.ensures (sym e ∙ c.in_default.is)
