-- `ready_word` meets its contract: slot i sets bit i above the word of the slots below, or leaves it.
use Rattle.board.proofs.Word.{Wording}
use Rattle.board.proofs.ready_word.Given as goal

abbrev pub invariant-loop-i : goal.invariant-loop-i
invariant-loop-i l = Wording l.s-items l.i l.w
