-- `reply::reply_to` meets its contract: the line is laid on 72 bytes that are 0.
use Rattle.reply.proofs.Laid.{replied}
use Rattle.reply.proofs.reply_to.Goals as goal

pub returns : goal.returns
returns c = replied _ _ c.line_len-len.ensures.0 c.put_line.ensures
