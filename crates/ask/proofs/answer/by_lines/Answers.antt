-- `by_lines` meets its contract: what is decided of the slices, which hold the lines gathered.
use Rattle.ask.proofs.LastGrounds.{fronts_answer}
use Rattle.ask.proofs.answer.by_lines.Goals as goal

pub returns : goal.returns
returns c =
    let x = c.args in
    let l = c.lines.ensures in
    let d = c.decide.ensures in
    fronts_answer x.g.now x.clock x.need x.period c.requires.0
    (rw (← l.ends, ← l.remaining, ← l.needs, ← l.spans, ← c.gaps.ensures) d.says, d.near) c.answered.ensures
