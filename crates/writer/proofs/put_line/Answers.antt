-- `put_line`: the mark, and then each number.
use Rattle.writer.proofs.Laid.{and_then}
use Rattle.writer.proofs.put_line.Goals as goal

pub returns : goal.returns
returns c =
    and_then c.put-at.ensures
    (and_then c.put16-at.ensures (and_then c.put16-at-2.ensures (and_then c.put16-at-3.ensures (and_then c.put16-at-4.ensures c.put16.ensures))))
