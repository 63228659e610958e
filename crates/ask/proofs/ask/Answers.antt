-- `ask` meets its contract: the answer is the computed one, which the theory shows to be the right one.
use Rattle.ask.proofs.Right.{asked}
use Rattle.ask.proofs.ask.Goals as goal

pub returns : goal.returns
returns c = (asked c.args.t c.args.q c.answer.ensures.0, c.answer.ensures.1)
