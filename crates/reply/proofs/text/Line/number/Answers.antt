-- `number` meets its contract: what std prints of n are its digits, and they start where the line ended.
use Rattle.std.proofs.Common.{◌≡◌, length, arith, ap, refl, rules}
use Rattle.reply.proofs.Digits.{digits_decimal}
use Rattle.reply.proofs.Laid.{written}
use Rattle.reply.proofs.text.Line.number.Goals as goal

pub write_digits-requires : goal.write_digits-requires
write_digits-requires c = let e = ap length (digits_decimal c.args.n (omega arith)) in (omega arith, omega arith)

pub returns : goal.returns
returns c =
    let d = digits_decimal c.args.n (omega arith) in
    let e = ap length d in
    let s : c.write_digits.result ≡ c.args.self.now.at = omega arith in
    let w = rw (d, s) at c.write_digits.ensures.written in
    let b = rw s at c.write_digits.ensures.before in
    record { same_buffer = refl; size = search rules; end = omega arith; within = omega arith; same = written _ _ _ _ _ (omega arith) w b }
