-- What was read is written: what the writer says of it, and what the buffer then holds, its twin (R59, R72).
use Rattle.std.specs.Prelude.{Ok, Err, Option, None}
use mathlib.Core.Path.{◌≡◌, ap, ◌∙◌}
use mathlib.Core.List.{List, [], ◌∷◌}
use mathlib.Core.Bool.{Bool, false}
use Prim.Native.Nat.{ℕ, zero, suc, ◌<◌}
use native.Mathlib.Omega.{arith}
use lib.ListN.{length}
use lib.Dec.{leb}
use Rattle.line.specs.declared.Slot.{Slot}
use Rattle.line.specs.Slots.{pick, at, is_waiting, lowest_of}
use Rattle.table.specs.Words.{refusal, Said}
use Rattle.line.proofs.Search.{none_found}
use Rattle.card.specs.Bytes.{Bytes}
use Rattle.card.specs.declared.Card.{Card}
use Rattle.card.specs.Card.{card_of, AllCarried}
use Rattle.card.specs.Reading.{read_with}
use Rattle.card.specs.Twin.{twin_with}
use Rattle.card.specs.Answers.{length_of, unless_waiting, write_of, filled, buffer_of}
use Rattle.card.proofs.Slots.{carried}
use Rattle.card.proofs.Twins.{twin_length}
use Rattle.card.proofs.WritesBack.{writes_twin, read_fits}

-- no card carries a waiting line
none_waits : (ss : List Slot) (ts : List ℕ) → AllCarried ss ts → (i : ℕ) → i < length ss → is_waiting (at ss i) ≡ false
none_waits [] ts f i h = absurd (omega arith)
none_waits (s ∷ ss) [] f i h = absurd f
none_waits (s ∷ ss) (t ∷ ts) f zero h = (carried s.held t f.0).1.started
none_waits (s ∷ ss) (t ∷ ts) f (suc i) h = none_waits ss ts f.1 i (omega arith)

-- a length if it fits, or 13
abbrev pub fitting : (length : ℕ) → Bool → Said ℕ
fitting k o = pick o (Ok k) (Err (refusal 13 0))

-- a card that reads, before a buffer; o is whether it fits
module _ (n : ℕ) (card buffer : List ℕ) (b : Bytes card) (c : Card) (e : read_with n card ≡ Ok c) {o : Bool} (h : leb (length card) (length buffer) ≡ o) where
  -- R59: what the writer says of it
  pub write_is : write_of c.table c.request (length buffer) ≡ fitting (length card) o
  unfolding length_of
  write_is =
      let w : length (card_of c.table c.request) ≡ length card = ap length (writes_twin n card b c e) ∙ twin_length n card in
      let none-waiting : lowest_of is_waiting c.table.slots ≡ None =
      none_found (λ i. is_waiting (at c.table.slots i)) (length c.table.slots) (none_waits c.table.slots c.request.stretched (read_fits n card b c e).lines) in
      ap (λ (p : Option ℕ). unless_waiting p (length_of c.table c.request (length buffer))) none-waiting
      ∙ ap (λ (k : ℕ). fitting k (leb k (length buffer))) w
      ∙ ap (fitting (length card)) h

  -- R59, R72: what the buffer then holds
  pub buffer_is : buffer_of c.table c.request buffer ≡ filled (twin_with n card) buffer (fitting (length card) o)
  buffer_is =
      ap (filled (card_of c.table c.request) buffer) write_is
      ∙ ap (λ (l : List ℕ). filled l buffer (fitting (length card) o)) (writes_twin n card b c e)
