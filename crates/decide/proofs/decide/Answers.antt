-- `decide` meets its contract: each way out is one case of `decided_in`, over the values that the calls gave.
use Rattle.std.proofs.lemmas.Result.{err_from_is_err_and}
use Rattle.decide.proofs.Deciding.{decide_apart, decide_weighed, decide_starts, decide_not, start_within}
use Rattle.decide.proofs.decide.Goals as goal

pub returns-then-gaps-lines-clause-says : goal.returns-then-gaps-lines-clause-says
returns-then-gaps-lines-clause-says c = search decide_apart

pub returns-in_err-weigh-clause-says : goal.returns-in_err-weigh-clause-says
returns-in_err-weigh-clause-says c =
    let p = err_from_is_err_and c.from_residual.result c.from_residual.ensures.1 in
    rw p.1 (decide_weighed _ _ _ _ _ _ _ c.if-gaps-lines.false c.in_err-weigh.ensures p.2)

pub returns-in_err-over_ends-clause-says : goal.returns-in_err-over_ends-clause-says
returns-in_err-over_ends-clause-says c =
    let p = err_from_is_err_and c.from_residual-in_err-over_ends.result c.from_residual-in_err-over_ends.ensures.1 in
    rw p.1 (decide_not _ _ _ _ _ _ _ c.if-gaps-lines.false c.in_ok-weigh.ensures c.in_err-over_ends.ensures p.2)

pub returns-clause-says : goal.returns-clause-says
returns-clause-says c = decide_starts _ _ _ _ _ _ _ c.if-gaps-lines.false c.in_ok-weigh.ensures c.in_ok-over_ends.ensures

pub returns-clause-near : goal.returns-clause-near
returns-clause-near c =
    let l = c.args.lines in
    start_within l.ends.now l.remaining.now l.needs.now l.spans.now c.args.gaps.now c.args.need c.args.period c.if-gaps-lines.false c.in_ok-weigh.ensures c.in_ok-over_ends.ensures
