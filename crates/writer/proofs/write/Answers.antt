-- `write`: what is measured decides, and then the room.
use Rattle.std.proofs.Common.{arith}
use Rattle.std.proofs.lemmas.Result.{err_from_is_err_and}
use Rattle.card.proofs.Length.{used_slots, records_length}
use Rattle.writer.proofs.Laid.{and_then}
use Rattle.writer.proofs.Whole.{waiting_writing, measured_short, measured_whole}
use Rattle.writer.proofs.write.Goals as goal

pub returns-in_err-used : goal.returns-in_err-used
returns-in_err-used c =
    let a = c.args in
    let p = err_from_is_err_and c.from_residual.result c.from_residual.ensures.1 in
    rw (p.1, p.2) (waiting_writing a.card.now.table a.card.now.request a.out.now _ c.in_err-used.ensures)

pub overflow_add-used : goal.overflow_add-used
overflow_add-used c =
    let a = c.args.card.now in
    let w = c.in_ok-used.ensures in
    omega (arith, w.2, w.3, records_length c.in_ok-used.used.slots a.table.slots a.request.stretched)

pub overflow_add-used-2 : goal.overflow_add-used-2
overflow_add-used-2 c =
    let a = c.args.card.now in
    let w = c.in_ok-used.ensures in
    omega (arith, w.2, w.3, records_length c.in_ok-used.used.slots a.table.slots a.request.stretched)

pub returns-then-out-used : goal.returns-then-out-used
returns-then-out-used c =
    let a = c.args in
    measured_short a.card.now.table a.card.now.request a.out.now c.in_ok-used.used c.in_ok-used.ensures c.if-out-used.true c.new.result c.new.ensures

pub put_records-at-requires : goal.put_records-at-requires
put_records-at-requires c =
    let w = c.in_ok-used.ensures in
    (w.2, omega (arith, w.1, used_slots c.args.card.now.table.slots), omega (arith, w.3, c.put_clock-at.ensures.end, c.put_clock-at.auto.out, c.if-out-used.false))

pub returns : goal.returns
returns c =
    let a = c.args in
    measured_whole a.card.now.table a.card.now.request a.out.now c.in_ok-used.used c.in_ok-used.ensures c.if-out-used.false _ _
    (and_then c.put_clock-at.ensures (and_then c.put_records-at.ensures c.put_request.ensures))
