use mathlib.Core.Path.{sym, ap, ◌∙◌}
use Prim.Native.Nat.{◌+◌, ◌*◌}
use native.Mathlib.Omega.{arith}
use Rattle.image.specs.Loading.{slot_wrong}
use Rattle.image.proofs.Judging.{part_wrong, judge_start, judge_past, judge_below, judge_stop, judge_cut, judge_end}
use Rattle.image.proofs.judge.slots_wrong.Goals as goal

pub returns-in_err-get : goal.returns-in_err-get
returns-in_err-get c = c.from_residual.ensures ∙ judge_cut c.loop-k.invariant (omega arith) (omega (arith, c.in_err-get.ensures.lookup))

pub overflow_add-result : goal.overflow_add-result
overflow_add-result c =
    let w = c.slot_wrong.ensures ∙ ap slot_wrong c.in_ok-get.ensures.lookup.0.2 ∙ part_wrong c.args.image.now (9 + 9 * c.loop-k.k) in
    omega (arith, judge_below c.loop-k.invariant (omega arith) _ _ w c.in-Some.is)

pub returns-in-Some : goal.returns-in-Some
returns-in-Some c =
    let w = c.slot_wrong.ensures ∙ ap slot_wrong c.in_ok-get.ensures.lookup.0.2 ∙ part_wrong c.args.image.now (9 + 9 * c.loop-k.k) in
    judge_stop c.loop-k.invariant (omega arith) _ _ w c.in-Some.is

pub loop-k-preserved : goal.loop-k-preserved
loop-k-preserved c =
    let w = c.slot_wrong.ensures ∙ ap slot_wrong c.in_ok-get.ensures.lookup.0.2 ∙ part_wrong c.args.image.now (9 + 9 * c.loop-k.k) in
    judge_past c.loop-k.invariant (omega arith) (sym w ∙ c.in_default.is)

pub loop-k-init : goal.loop-k-init
loop-k-init c = judge_start 16 _

pub returns : goal.returns
returns c = judge_end c.loop-k.invariant (omega arith)
