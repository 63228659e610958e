-- What was written reads back (R72).
use Rattle.std.specs.Prelude.{Ok, Err, Option, None, Some}
use mathlib.Core.Path.{◌≡◌, sym, ap, ◌∙◌}
use mathlib.Core.Bool.{Bool, true, false}
use mathlib.Core.List.{List}
use Prim.Native.Nat.{ℕ}
use lib.ListN.{length, take, drop}
use lib.Seq.{take_at}
use lib.Dec.{leb}
use Rattle.table.specs.declared.Table.{Table}
use Rattle.table.specs.declared.Request.{Request}
use Rattle.line.specs.Slots.{pick, is_waiting, lowest_of}
use Rattle.table.specs.Words.{unbooked, Said, refusal}
use Rattle.card.specs.Card.{card_of, carrying, cleared, Fits}
use Rattle.card.specs.Reading.{read_with}
use Rattle.card.specs.Answers.{length_of, unless_waiting, filled, write_of, buffer_of}
use Rattle.card.proofs.ReadsBack.{reads_back}

-- R59: the length that the writer answers is the card's
pub length_written : (t : Table) (q : Request) (room n : ℕ) → write_of t q room ≡ Ok n → n ≡ length (card_of t q)
unfolding length_of
length_written t q room n e = go (lowest_of is_waiting t.slots) (leb (length (card_of t q)) room) e
  where
    go : (o : Option ℕ) (b : Bool) → unless_waiting o (pick b (Ok (length (card_of t q))) (Err (refusal 13 0))) ≡ Ok n → n ≡ length (card_of t q)
    go (Some k) b p = cc
    go None true p = cc
    go None false p = cc

-- R72: what stands in the buffer after writing reads back, but for the counts and who ran last
pub written_reads : (n : ℕ) (t : Table) (q : Request) → Fits n t q → (l : List ℕ) (m : ℕ) → write_of t q (length l) ≡ Ok m
    → read_with n (take m (buffer_of t q l)) ≡ Ok (carrying (unbooked t) (cleared t q))
written_reads n t q f l m e =
    ap (λ (s : Said ℕ). read_with n (take m (filled (card_of t q) l s))) e
    ∙ ap (read_with n) (take_at (card_of t q) (drop m l) m (sym (length_written t q (length l) m e)))
    ∙ reads_back n t q f
