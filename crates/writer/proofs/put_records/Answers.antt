-- `put_records`: each record goes behind the last one.
use Rattle.std.proofs.Common.{sym, ◌∙◌, arith}
use Rattle.writer.proofs.Slots.{recorded_length, put_start, put_room, put_next, put_none}
use Rattle.writer.proofs.put_records.Goals as goal
use Rattle.writer.proofs.put_records.Goals.{in-Some, in_default}

pub loop-i-init : goal.loop-i-init
loop-i-init c = let a = c.args in put_start a.out.now _ _ a.n a.at c.requires.1 c.requires.2

pub put_record-at-requires : goal.put_record-at-requires
put_record-at-requires c =
    omega (arith, put_room c.loop-i.invariant c.loop-i-test.true, recorded_length _ _ c.in-Some.r (sym c.of.ensures ∙ c.in-Some.is))

pub loop-i-preserved : goal.loop-i-preserved
loop-i-preserved c =
    elim c.match-of.branch [
      | in-Some w ↦ rw (w.out-is, w.at-is) (put_next c.loop-i.invariant c.loop-i-test.true (rw (sym c.of.ensures ∙ w.in-Some.is) w.put_record-at.ensures))
      | in_default w ↦ rw (w.out-is, w.at-is) (put_none c.loop-i.invariant c.loop-i-test.true (sym c.of.ensures ∙ w.in_default.is))
    ]
