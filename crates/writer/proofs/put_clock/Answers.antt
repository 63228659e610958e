-- `put_clock`: the mark, and then the number.
use Rattle.card.proofs.Numbers.{bytes_eight}
use Rattle.writer.proofs.Laid.{and_then}
use Rattle.writer.proofs.put_clock.Goals as goal

pub returns : goal.returns
returns c = and_then c.put-at.ensures (rw (c.to_le_bytes.ensures, bytes_eight) at c.put.ensures)
