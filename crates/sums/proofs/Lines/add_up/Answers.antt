use Rattle.std.proofs.lemmas.List.{length_push}
use Rattle.std.proofs.lemmas.Iterator.Consumers.{YieldsList-turn, YieldsList-end}
use Rattle.sums.proofs.Zipped.{yields_four}
use Rattle.sums.proofs.Adding.{up_on, up_end}
use Rattle.sums.proofs.Lines.add_up.Goals as goal

pub loop-end-preserved : goal.loop-end-preserved
loop-end-preserved c =
    let l = c.args.self in
    up_on _ _ _ _ _ c.requires c.loop-end.invariant
    (YieldsList-turn (yields_four l.ends.now l.remaining.now l.needs.now l.spans.now (cc) (cc) (cc) (cc)) c.loop-end.yielded _ c.loop-end.yielded_by _ c.next.new.self _ c.in-Some.is c.next.ensures.steps)
    c.line_weights-w.ensures
    (length_push c.loop-end.yielded _)

pub returns : goal.returns
returns c =
    let l = c.args.self in
    up_end _ _ _ _ _ c.requires c.loop-end.invariant
    (YieldsList-end (yields_four l.ends.now l.remaining.now l.needs.now l.spans.now (cc) (cc) (cc) (cc)) c.loop-end.yielded _ c.loop-end.yielded_by _ c.next.new.self c.in-None.is c.next.ensures.steps).1
