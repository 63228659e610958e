-- `wrong_in`: the version, then the slots, then the length.
use borrow.Author.Rules.{rules}
use lib.ListN.{length, drop}
use Rattle.image.specs.Loading.{slots_wrong, length_wrong}
use Rattle.image.proofs.Judging.{or_found, in_turn}
use Rattle.image.proofs.judge.wrong_in.Goals as goal

pub returns : goal.returns
returns c =
    let l = c.args.image.now in
    in_turn 16 l c.version_wrong.ensures (or_found c.version_wrong.result (slots_wrong 16 9 (drop 9 l)) _ c.or_else.ensures (λ m. search rules))
    (or_found c.or_else.result (length_wrong 298 (length l)) _ c.or_else-2.ensures (λ m. search rules))
