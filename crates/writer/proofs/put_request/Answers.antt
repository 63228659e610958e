-- `put_request`: the mark, and then each number.
use Rattle.writer.proofs.Laid.{and_then}
use Rattle.writer.proofs.put_request.Goals as goal

pub returns : goal.returns
returns c = and_then c.put-at.ensures (and_then c.put16-at.ensures c.put16.ensures)
