use native.Mathlib.Omega.{arith}
use Rattle.pass.proofs.TakingEnds.{taking_hit, taking_miss, taking_end}
use Rattle.pass.proofs.take_ends.Goals as goal
use Rattle.pass.proofs.take_ends.Goals.{then-at-d, else-at-d}

pub loop-i-preserved : goal.loop-i-preserved
loop-i-preserved c =
    let pre = c.requires.0 in
    let v = c.loop-i.invariant in
    elim c.if-at-d.branch [
      | then-at-d w ↦ taking_hit _ _ _ _ _ v c.loop-i-test.true pre.room (pre.small c.loop-i.i c.loop-i-test.true) w.if-at-d.true w.dues-is w.added-is w.at-is (omega arith)
      | else-at-d w ↦ taking_miss _ _ _ _ _ v c.loop-i-test.true w.if-at-d.false w.dues-is w.added-is w.at-is (omega arith)
    ]

pub returns : goal.returns
returns c =
    let e = taking_end _ _ _ _ _ c.loop-i.invariant c.requires.0.few c.loop-i-test.false in
    record { moved = e.0; added_value = e.1; soonest = e.2 }
