use native.Mathlib.Nat.{pos_of_ne-zero}
use Prim.Native.Nat.{◌≤◌}
use mathlib.Core.Path.{◌∙◌}
use lib.ListN.{get_or}
use Rattle.periods.proofs.Frames.{frame_first_zero, framing_start, framing_on, framing_past, framing_stop, framing_end}
use Rattle.periods.proofs.frame.Goals as goal
use Rattle.periods.proofs.frame.Goals.{then-m-le-LIMIT, else-m-le-LIMIT}

pub returns-then-first-eq0 : goal.returns-then-first-eq0
returns-then-first-eq0 c = frame_first_zero _ _ c.if-first-eq0.true

pub loop-p-init : goal.loop-p-init
loop-p-init c = framing_start _ _ _ (pos_of_ne-zero c.if-first-eq0.false) (rw c.from.ensures at c.lcm-m.ensures.value)

pub returns-then-p-eq0 : goal.returns-then-p-eq0
returns-then-p-eq0 c = search framing_stop

pub loop-p-preserved : goal.loop-p-preserved
loop-p-preserved c =
    let ps = c.args.periods.now in
    let l = c.loop-p in
    let p : 1 ≤ get_or ps l.p-index 0 = pos_of_ne-zero c.if-p-eq0.false in
    elim c.if-m-le-LIMIT.branch [
      | then-m-le-LIMIT w ↦ framing_on ps l.p-index l.m l.invariant c.if-m-le-LIMIT.m c.loop-p-test.true p (w.m-is ∙ rw w.from-then-m-le-LIMIT.ensures at w.lcm-m-then-m-le-LIMIT.ensures.value)
      | else-m-le-LIMIT w ↦ rw w.m-is (framing_past ps l.p-index l.m l.invariant c.loop-p-test.true p w.if-m-le-LIMIT.false)
    ]

pub returns : goal.returns
returns c = search framing_end
