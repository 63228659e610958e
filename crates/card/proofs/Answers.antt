-- The answers say all: two that a contract allows are the same.
use Rattle.std.specs.Prelude.{Ok, Err}
use mathlib.Core.Path.{◌≡◌, refl, sym, ◌∙◌}
use mathlib.Core.List.{List}
use Prim.Native.Nat.{ℕ}
use lib.ListN.{length}
use Rattle.table.specs.declared.Table.{Table}
use Rattle.table.specs.declared.Request.{Request}
use Rattle.table.specs.Words.{Said}
use Rattle.card.specs.declared.ReadCard.{ReadCard}
use Rattle.card.specs.declared.Card.{Card}
use Rattle.card.specs.Reading.{read_of}
use Rattle.card.specs.Twin.{turned_of}
use Rattle.card.specs.Answers.{handed, said_read, write_of, buffer_of}

-- R56: what is handed out says what was read
pub said_handed : (w : ℕ) (s : Said Card) → said_read (handed w s) ≡ s
said_handed w (Ok c) = refl
said_handed w (Err r) = refl

-- R71: what the reader's contract allows is one thing
pub one_reading : (l : List ℕ) (a b : ReadCard) → a ≡ handed (turned_of l) (read_of l) → b ≡ handed (turned_of l) (read_of l) → a ≡ b
one_reading l a b p q = p ∙ sym q

-- R59: the answer a and the buffer m that the writer's contract allows for a buffer l
abbrev pub Written : Table → Request → List ℕ → Said ℕ → List ℕ → Type 0
Written t q l a m = (a ≡ write_of t q (length l)) × (m ≡ buffer_of t q l)

-- R71: what the writer's contract allows is one answer and one buffer
pub one_writing : (t : Table) (q : Request) (l : List ℕ) (a b : Said ℕ) (m n : List ℕ)
    → Written t q l a m → Written t q l b n → (a ≡ b) × (m ≡ n)
one_writing t q l a b m n p r =
    (p.0 ∙ sym r.0, p.1 ∙ sym r.1)
