use Rattle.image.proofs.Judging.{load_broken}
use Rattle.image.proofs.judged.Goals as goal

pub returns-in-Some : goal.returns-in-Some
returns-in-Some c = search load_broken
