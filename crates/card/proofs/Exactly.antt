-- Which bytes read: exactly those whose twin is the card of a table without waiting lines; and which read alike: those that have the same twin.
use Rattle.std.specs.Prelude.{Ok}
use mathlib.Core.Path.{◌≡◌, sym, ap, ◌∙◌}
use mathlib.Core.List.{List}
use Prim.Native.Nat.{ℕ}
use Rattle.table.specs.declared.Table.{Table}
use Rattle.table.specs.declared.Request.{Request}
use Rattle.table.specs.Words.{unbooked, Said}
use Rattle.card.specs.Bytes.{Bytes}
use Rattle.card.specs.declared.Card.{Card}
use Rattle.card.specs.Card.{carrying, card_of, cleared, Fits}
use Rattle.card.specs.Reading.{read_with}
use Rattle.card.specs.Twin.{turned_with, twin_with}
use Rattle.card.proofs.ReadsBack.{reads_back, no_old}
use Rattle.card.proofs.Twins.{twin_reads}
use Rattle.card.proofs.WritesBack.{writes_twin, read_fits}

module _ (n : ℕ) where
  -- the bytes read as some card
  abbrev pub Reads : List ℕ → Type 0
  Reads l = (c : Card) × (read_with n l ≡ Ok c)

  -- the bytes are the card of some table of n slots without waiting lines and some request
  abbrev pub IsCard : List ℕ → Type 0
  IsCard l = (t : Table) × (q : Request) × Fits n t q × (card_of t q ≡ l)

  -- R55, R56, R72: bytes read where their twin is a card, and nowhere else
  pub reads_exactly : (l : List ℕ) → Bytes l → (Reads l → IsCard (twin_with n l)) × (IsCard (twin_with n l) → Reads l)
  reads_exactly l b = (
    λ r. (r.0.table, r.0.request, read_fits n l b r.0 r.1, writes_twin n l b r.0 r.1),
    λ k. (carrying (unbooked k.0) (cleared k.0 k.1), sym (twin_reads n l b) ∙ ap (read_with n) (sym k.3) ∙ reads_back n k.0 k.1 k.2),
  )

  -- R72: the twin of a card that reads has no TA
  pub twin_is_new : (l : List ℕ) → Bytes l → (c : Card) → read_with n l ≡ Ok c → turned_with n (twin_with n l) ≡ 0
  twin_is_new l b c e = ap (turned_with n) (sym (writes_twin n l b c e)) ∙ no_old n c.table c.request (read_fits n l b c e)

  -- R72: cards that read as the same table and request have the same twin, and no others do
  pub read_alike : (l m : List ℕ) → Bytes l → Bytes m → (c d : Card) → read_with n l ≡ Ok c → read_with n m ≡ Ok d
      → (c ≡ d → twin_with n l ≡ twin_with n m) × (twin_with n l ≡ twin_with n m → c ≡ d)
  read_alike l m a b c d p q = (
    λ e. sym (writes_twin n l a c p) ∙ ap (λ (x : Card). card_of x.table x.request) e ∙ writes_twin n m b d q,
    λ e. gives_is c d (sym p ∙ sym (twin_reads n l a) ∙ ap (read_with n) e ∙ twin_reads n m b ∙ q),
  )
    where
      gives_is : (c d : Card) → ◌≡◌ {A = Said Card} (Ok c) (Ok d) → c ≡ d
      gives_is c d e = cc
