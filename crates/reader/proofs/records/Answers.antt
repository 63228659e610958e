-- `records`: each way through the loop is one law.
use Rattle.std.proofs.Common.{Some, sym, ap, ◌∙◌}
use Rattle.std.proofs.lemmas.Result.{err_from_is_err_and}
use Rattle.card.specs.Answers.{reading_of}
use Rattle.reader.proofs.Loop.{bit_set, slot_room, last_room, mid_refused, kept_start, kept_room, kept_slot, kept_last}
use Rattle.reader.proofs.records.Goals as goal

pub loop-i-init : goal.loop-i-init
loop-i-init c = rw (c.new-request.ensures, c.new-table.ensures, c.clock.ensures, c.empty.ensures) (kept_start c.args.bytes.now c.requires)

pub returns-in_err-r : goal.returns-in_err-r
returns-in_err-r c =
    let p = err_from_is_err_and c.from_residual.result c.from_residual.ensures.1 in
    rw (p.1, p.2, c.in_err-r.ensures.1) (ap reading_of (sym (mid_refused c.loop-i.invariant.mid c.in_err-r.ensures.0)))

pub overflow_shl-turned : goal.overflow_shl-turned
overflow_shl-turned c = (slot_room c.loop-i.invariant.mid (c.in_ok-r.ensures ∙ ap Some c.in-Slot.is)).0

pub bounds-request-i : goal.bounds-request-i
bounds-request-i c = (slot_room c.loop-i.invariant.mid (c.in_ok-r.ensures ∙ ap Some c.in-Slot.is)).0

pub bounds-table-i : goal.bounds-table-i
bounds-table-i c = (slot_room c.loop-i.invariant.mid (c.in_ok-r.ensures ∙ ap Some c.in-Slot.is)).0

pub close-requires : goal.close-requires
close-requires c = last_room c.loop-i.invariant.mid (c.in_ok-r.ensures ∙ ap Some c.in-Last.is)

pub returns-in_err-close-in-Last : goal.returns-in_err-close-in-Last
returns-in_err-close-in-Last c =
    let q = c.from_residual-in_err-close-in-Last in
    let p = err_from_is_err_and q.result q.ensures.1 in
    rw (p.1, p.2)
    (kept_last c.loop-i.invariant _ _ (c.in_ok-r.ensures ∙ ap Some c.in-Last.is) (sym c.in_err-close-in-Last.was ∙ c.close.ensures))

pub returns-in-Last : goal.returns-in-Last
returns-in-Last c =
    kept_last c.loop-i.invariant _ _ (c.in_ok-r.ensures ∙ ap Some c.in-Last.is) (sym c.in_ok-close-in-Last.was ∙ c.close.ensures)

pub loop-i-preserved : goal.loop-i-preserved
loop-i-preserved c =
    let v = c.loop-i.invariant in
    let e = c.in_ok-r.ensures ∙ ap Some c.in-Slot.is in
    rw (c.slot.ensures, c.length-at.ensures.0, c.is_free-gap.ensures, c.from.ensures, c.is_turned.ensures, bit_set _ _ _ (slot_room v.mid e).0 (kept_room v))
    (kept_slot v c.in-Slot.r e)
