-- `reply::put_lateness` meets its contract: the pieces one after the other, where there are any.
use Rattle.std.proofs.Common.{true}
use Rattle.reply.proofs.Laid.{grown_on}
use Rattle.reply.proofs.Line.{late_is}
use Rattle.reply.proofs.put_lateness.Goals as goal

pub returns-then-carries : goal.returns-then-carries
returns-then-carries c =
    rw (late_is c.args.x c.carries.ensures true c.if-carries.true)
    (grown_on (grown_on (grown_on c.text.ensures c.number.ensures) c.text-then-carries.ensures) (rw c.from.ensures at c.number-then-carries.ensures))
