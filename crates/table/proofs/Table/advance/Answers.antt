use mathlib.Core.Path.{◌∙◌}
use native.Mathlib.Omega.{arith}
use Rattle.table.proofs.Step.{tick_start, tick_short, tick_on, tick_off, tick_room, tick_end, advance_short, advance_fine}
use Rattle.table.proofs.Table.advance.Goals as goal
use Rattle.table.proofs.Table.advance.Goals.{then-departs, else-departs}

pub loop-i-init : goal.loop-i-init
loop-i-init c = tick_start _ (omega arith) c.counting-next.ensures

pub returns-then-short : goal.returns-then-short
returns-then-short c =
    let a = c.args in
    c.refused.ensures
    ∙ advance_short a.self a.w (tick_short c.loop-i.invariant _ c.loop-i-test.true c.served-s.ensures c.short.ensures c.if-short.true)

pub settled-next-requires : goal.settled-next-requires
settled-next-requires c =
    let p = c.requires in
    (c.loop-i-test.true, tick_room c.loop-i.invariant p.0 p.1)

pub loop-i-preserved : goal.loop-i-preserved
loop-i-preserved c =
    elim c.if-departs.branch [
      | then-departs w ↦ rw w.next-is (tick_off c.loop-i.invariant _ c.loop-i-test.true c.served-s.ensures c.short.ensures c.if-short.false c.passed.ensures c.departs.ensures w.if-departs.true w.settled-next.ensures)
      | else-departs w ↦ rw w.next-is (tick_on c.loop-i.invariant _ c.loop-i-test.true c.served-s.ensures c.short.ensures c.if-short.false c.passed.ensures c.departs.ensures w.if-departs.false)
    ]

pub returns : goal.returns
returns c =
    let a = c.args in
    advance_fine a.self a.w (tick_end c.loop-i.invariant c.loop-i-test.false)
