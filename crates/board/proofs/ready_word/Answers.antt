use native.Mathlib.Omega.{arith}
use mathlib.Core.Path.{◌∙◌, sym}
use Rattle.board.proofs.Word.{word_set, word_skip}
use Rattle.board.proofs.ready_word.Goals as goal
use Rattle.board.proofs.ready_word.Goals.{then-owed, else-owed}

pub loop-i-preserved : goal.loop-i-preserved
loop-i-preserved c =
    elim c.if-owed.branch [
      | then-owed a ↦ rw a.w-is (word_set c.loop-i.invariant (omega arith) (omega arith) (sym c.owed.ensures ∙ a.if-owed.true))
      | else-owed a ↦ rw a.w-is (word_skip c.loop-i.invariant (omega arith) (sym c.owed.ensures ∙ a.if-owed.false))
    ]
