-- What the reader and the loader hand out says what was read.
use Rattle.std.specs.Prelude.{Ok, Err}
use mathlib.Core.Path.{◌≡◌, sym, ap, ◌∙◌}
use mathlib.Core.List.{List}
use Prim.Native.Nat.{ℕ}
use Rattle.table.specs.declared.Refusal.{Refusal}
use Rattle.table.specs.Words.{Said}
use Rattle.card.specs.declared.ReadCard.{ReadCard}
use Rattle.card.specs.declared.Card.{Card}
use Rattle.card.specs.Reading.{read_of}
use Rattle.card.specs.Twin.{turned_of}
use Rattle.card.specs.Answers.{handed, said_read, said_with}
use Rattle.card.proofs.Answers.{said_handed}
use Rattle.image.specs.declared.Loaded.{Loaded}
use Rattle.image.specs.Loading.{load_of}
use Rattle.image.specs.Answers.{handed_out, said_beside, said_loaded}
use Rattle.image.proofs.Exactly.{said_loaded_lem}

module _ (card : List ℕ) {c : ReadCard} (e : c ≡ handed (turned_of card) (read_of card)) where
  said : read_of card ≡ said_read c
  said = sym (said_handed (turned_of card) (read_of card)) ∙ ap said_read (sym e)

  -- R56: where the answer is that the card was read, it reads as the card beside it
  pub was_read : c.answer ≡ Ok tt → read_of card ≡ Ok c.card
  was_read h = said ∙ ap (said_with c.card.table c.card.request) h

  -- R58: and the word beside it has the slots whose records were TA
  pub was_turned : c.answer ≡ Ok tt → c.turned ≡ turned_of card
  was_turned h = ap (λ (x : ReadCard). x.turned) e ∙ ap (λ (s : Said Card). (handed (turned_of card) s).turned) (was_read h)

  -- R56: where the answer is a refusal, the card is refused by it
  pub was_refused : (x : Refusal) → c.answer ≡ Err x → read_of card ≡ Err x
  was_refused x h = said ∙ ap (said_with c.card.table c.card.request) h

module _ (l : List ℕ) {x : Loaded} (e : x ≡ handed_out (load_of l)) where
  told : load_of l ≡ said_loaded x
  told = sym (said_loaded_lem (load_of l)) ∙ ap said_loaded (sym e)

  -- R84: where the answer is that the image was read, it loads as the table beside it
  pub was_loaded : x.answer ≡ Ok tt → load_of l ≡ Ok x.table
  was_loaded h = told ∙ ap (said_beside x.table) h

  -- R84: where the answer is a refusal, the image is refused by it
  pub not_loaded : (r : Refusal) → x.answer ≡ Err r → load_of l ≡ Err r
  not_loaded r h = told ∙ ap (said_beside x.table) h
