use Rattle.line.proofs.Loops.{map_start, map_first, map_end}
use Rattle.table.proofs.Step.{only_none, only_on, only_end_lem}
use Rattle.admit.proofs.place.stretch_all.Goals as goal

pub loop-i-init : goal.loop-i-init
loop-i-init c = (only_none, map_start _ c.well_formed.0.1.1.1.0.1.0.1)

pub loop-i-preserved : goal.loop-i-preserved
loop-i-preserved c =
    let v = c.loop-i.invariant in
    (only_on v.0 _, map_first v.1 _ c.loop-i-test.true c.stretched.ensures)

pub returns : goal.returns
returns c = let v = c.loop-i.invariant in only_end_lem v.0 (map_end v.1 c.loop-i-test.false)
