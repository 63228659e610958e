-- `measure`: each way through the loop is one law.
use Rattle.std.proofs.Common.{◌≡◌, ◌<◌, length, sym, ◌∙◌, arith, rules}
use Rattle.writer.proofs.Slots.{counted_small, counted_free, counted_line, counted_stop, measured_end}
use Rattle.writer.proofs.measure.Goals as goal
use Rattle.writer.proofs.measure.Goals.{then-not-is_free, else-not-is_free}

pub returns-in_default : goal.returns-in_default
returns-in_default c =
    let n : length c.args.card.now.table.slots ≡ 16 = search rules in
    (c.loop-i.i, counted_stop c.loop-i.invariant.1 (omega arith) (sym c.of.ensures ∙ c.in_default.is), c.new.ensures)

pub overflow_add-all : goal.overflow_add-all
overflow_add-all c = omega (arith, counted_small c.loop-i.invariant.1, c.length-all.ensures.1)

pub loop-i-preserved : goal.loop-i-preserved
loop-i-preserved c =
    let m = c.loop-i.invariant.1 in
    let n : length c.args.card.now.table.slots ≡ 16 = search rules in
    let h : c.loop-i.i < length c.args.card.now.table.slots = omega arith in
    let e = sym c.of.ensures ∙ c.in-Some.is in
    let l = c.length-all.ensures.0 in
    elim c.if-not-is_free.branch [
      | then-not-is_free w ↦ ((λ z. n), rw w.used-is (counted_line m h c.in-Some.r e _ l (sym c.is_free.ensures ∙ w.if-not-is_free.true)))
      | else-not-is_free w ↦ ((λ z. n), rw w.used-is (counted_free m h c.in-Some.r e _ l (sym c.is_free.ensures ∙ w.if-not-is_free.false)))
    ]

pub returns : goal.returns
returns c = let m = c.loop-i.invariant in measured_end m.1 (m.0 (omega (arith, c.loop-i-test.false))) c.loop-i-test.false
