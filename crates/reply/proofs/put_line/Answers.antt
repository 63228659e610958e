-- `reply::put_line` meets its contract, in each case of the answer: the pieces of the line, one after the other.
use Rattle.std.proofs.Common.{◌≡◌, arith}
use Rattle.reply.specs.Line.{answer_line, laid}
use Rattle.reply.proofs.Laid.{grown_on}
use Rattle.reply.proofs.put_line.Goals as goal
use Rattle.reply.proofs.put_line.Goals.{in-Ok, in-Err}

pub returns : goal.returns
unfolding answer_line
returns c =
    elim c.match-a.branch [
      | in-Ok w ↦
          let g = grown_on (rw (← w.line-is) at (grown_on w.text.ensures w.number.ensures)) c.text-2.ensures in
          let n = g.same_buffer in
          let e : c.text-2.new.self.out.now ≡ laid (answer_line c.args.a) c.args.out.now = rw w.in-Ok.is g.same in
          grind arith
      | in-Err w ↦
          let number = grown_on w.text-in-Err.ensures (rw w.from.ensures at w.number-in-Err.ensures) in
          let place = grown_on (grown_on number w.text-in-Err-2.ensures) w.number-in-Err-2.ensures in
          let g = grown_on (rw (← w.line-is) at (grown_on place w.put_lateness.ensures)) c.text-2.ensures in
          let n = g.same_buffer in
          let e : c.text-2.new.self.out.now ≡ laid (answer_line c.args.a) c.args.out.now = rw w.in-Err.is g.same in
          grind arith
    ]
