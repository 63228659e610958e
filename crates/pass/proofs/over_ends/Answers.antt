-- `over_ends` meets its contract: each way out is one case of `passed_in`; past the tests it is the pass in time order over the lines at their first ends.
use native.Mathlib.Omega.{arith}
use mathlib.Core.Path.{sym, ◌∙◌}
use Rattle.sums.specs.Lines.{Packed}
use Rattle.sums.proofs.Weighing.{packed_says}
use Rattle.pass.proofs.LastEnd.{last_near}
use Rattle.pass.proofs.LinedUp.{lined_fit, lined_room, lined_first, lined_passed}
use Rattle.pass.proofs.Passing.{ends_unfit, ends_needless, ends_passed}
use Rattle.pass.proofs.over_ends.Goals as goal
use Rattle.pass.proofs.over_ends.Goals.{then-not-fits-via-then-not-fits, then-not-fits-via-else-not-fits+then-need-lt1}

pub line_up-first-requires : goal.line_up-first-requires
line_up-first-requires c =
    let l = c.args.lines in
    let v : Packed l.ends.now l.remaining.now l.needs.now l.spans.now = packed_says _ _ _ _ (sym c.fits.ensures ∙ c.if-not-fits.false) in
    (omega arith, omega arith)

pub in_order-requires : goal.in_order-requires
in_order-requires c =
    let v = packed_says _ _ _ _ (sym c.fits.ensures ∙ c.if-not-fits.false) in
    let up = c.line_up-first.ensures in record {
      places = (
        lined_room v up.lined_up (omega arith),
        lined_fit v up.lined_up,
        record { some = omega arith; small = omega arith; wide = omega arith; near = last_near v c.last_end.ensures },
      );
      soonest = lined_first v up.lined_up up.soonest;
    }

pub returns-then-not-fits : goal.returns-then-not-fits
returns-then-not-fits c =
    elim c.then-not-fits.branch [
      | then-not-fits-via-then-not-fits w ↦ search ends_unfit
      | then-not-fits-via-else-not-fits+then-need-lt1 w ↦ search ends_needless
    ]

pub returns : goal.returns
returns c =
    let v = packed_says _ _ _ _ (sym c.fits.ensures ∙ c.if-not-fits.false) in
    let passed = lined_passed v c.line_up-first.ensures.lined_up _ _ c.last_end.ensures c.in_order.ensures in
    ends_passed _ _ _ _ _ _ c.fits.ensures c.if-not-fits.false c.if-need-lt1.false (rw (c.from.ensures, c.from-2.ensures) at passed)
