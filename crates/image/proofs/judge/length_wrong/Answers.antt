use Rattle.image.proofs.Judging.{length_tested}
use Rattle.image.proofs.judge.length_wrong.Goals as goal

pub returns : goal.returns
returns c = let e = length_tested 298 c.args.len in cc
