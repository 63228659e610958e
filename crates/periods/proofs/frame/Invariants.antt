-- `frame` meets its contract. The invariant is `Framing`: what is left of the periods, taken from m, gives the frame; each way through the loop
-- is one of its laws.
use Rattle.periods.proofs.Frames.{Framing}
use Rattle.periods.proofs.frame.Given as goal

abbrev pub invariant-loop-p : goal.invariant-loop-p
invariant-loop-p l = Framing l.first l.periods l.p-index l.m
