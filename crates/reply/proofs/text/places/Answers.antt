-- `places` meets its contract: the logarithm of the number, or of 1.
use Rattle.reply.proofs.Digits.{places_log}
use Rattle.reply.proofs.text.places.Goals as goal

pub returns : goal.returns
returns c = places_log c.args.n c.max.result c.ilog10.result c.max.ensures c.ilog10.ensures.power_le c.ilog10.ensures.next_power_gt
