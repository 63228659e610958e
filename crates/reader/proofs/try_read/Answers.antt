-- `card`: the clock's record is missing, cut or whole.
use Rattle.std.proofs.Common.{sym, ap, ◌∙◌}
use Rattle.card.specs.Twin.{turned_of}
use Rattle.card.specs.Answers.{reading_with}
use Rattle.card.proofs.Refusals.{no_clock, cut_clock}
use Rattle.reader.proofs.Loop.{read_clock}
use Rattle.reader.proofs.try_read.Goals as goal
use Rattle.reader.proofs.try_read.Goals.{then-bytes-lt-CLOCK_LENGTH-via-then-bytes-lt-CLOCK_LENGTH, then-bytes-lt-CLOCK_LENGTH-via-else-bytes-lt-CLOCK_LENGTH+then-not-opens}

pub returns-then-bytes-lt-CLOCK_LENGTH : goal.returns-then-bytes-lt-CLOCK_LENGTH
returns-then-bytes-lt-CLOCK_LENGTH c =
    let l = c.args.bytes.now in
    rw c.broken.ensures
    (ap (reading_with (turned_of l))
    (sym (elim c.then-bytes-lt-CLOCK_LENGTH.branch [
      | then-bytes-lt-CLOCK_LENGTH-via-then-bytes-lt-CLOCK_LENGTH w ↦ cut_clock 16 l w.if-bytes-lt-CLOCK_LENGTH.true
      | then-bytes-lt-CLOCK_LENGTH-via-else-bytes-lt-CLOCK_LENGTH+then-not-opens w ↦ no_clock 16 l (sym w.opens.ensures ∙ w.if-not-opens.true)
    ])))

pub returns : goal.returns
returns c = c.records.ensures ∙ read_clock c.args.bytes.now c.if-bytes-lt-CLOCK_LENGTH.false (sym c.opens.ensures ∙ c.if-not-opens.false)
