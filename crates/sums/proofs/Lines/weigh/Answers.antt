-- `weigh` meets its contract: each way out is one case of `weighed_in`.
use Rattle.sums.proofs.Weighing.{weigh_4, weigh_6, weigh_packed, ladder_7, ladder_8, ladder_9, ladder_0}
use Rattle.sums.proofs.Lines.weigh.Goals as goal

pub returns-then-not-fits : goal.returns-then-not-fits
returns-then-not-fits c = search weigh_4

pub returns-then-not-need_fits : goal.returns-then-not-need_fits
returns-then-not-need_fits c = search weigh_6

pub returns-then-ticks-gt-LIMIT : goal.returns-then-ticks-gt-LIMIT
returns-then-ticks-gt-LIMIT c = search ladder_7

pub add_up-all-requires : goal.add_up-all-requires
add_up-all-requires c = search weigh_packed

pub returns-then-all-share : goal.returns-then-all-share
returns-then-all-share c = search ladder_8

pub returns-then-all : goal.returns-then-all
returns-then-all c = search ladder_9

pub returns : goal.returns
returns c = search ladder_0
