-- The answer and the buffer of the whole writer.
use Rattle.std.proofs.Common.{◌≡◌, ℕ, ◌+◌, ◌≤◌, ◌<◌, Bool, true, leb, List, ◌++◌, length, drop, refl, sym, ap, ap₂, ◌∙◌, append_assoc, arith}
use Rattle.std.specs.Prelude.{Ok, Err, None}
use borrow.Author.Tests.{le-leb, lt-leb}
use Rattle.table.specs.declared.Table.{Table}
use Rattle.table.specs.declared.Request.{Request}
use Rattle.table.specs.declared.Refusal.{Refusal}
use Rattle.line.specs.Slots.{pick, is_waiting, lowest_of}
use Rattle.table.specs.Words.{refusal, Said}
use Rattle.card.specs.Layout.{clock_length, last_length}
use Rattle.card.specs.Card.{clock_record, slot_records, request_record, used, card_of}
use Rattle.card.specs.Answers.{length_of, filled, write_of, buffer_of}
use Rattle.card.proofs.Length.{length_card}
use Rattle.writer.specs.declared.Used.{Used}
use Rattle.writer.specs.Laid.{Laid}
use Rattle.writer.specs.Measured.{MeasuredRecords}

-- the answer and the buffer m that the contract allows for the buffer l
abbrev pub Writes : Table → Request → (l m : List ℕ) → Said ℕ → Type 0
Writes t q l m s = (s ≡ write_of t q (length l)) × (m ≡ buffer_of t q l)

module _ (t : Table) (q : Request) where
  -- R33: there is no room
  too_short_lem : (room : ℕ) → room < length (card_of t q) → length_of t q room ≡ Err (refusal 13 0)
  unfolding length_of
  too_short_lem room h = ap (λ (o : Bool). pick o (Ok (length (card_of t q))) (Err (refusal 13 0))) (lt-leb (length (card_of t q)) room h)

  -- R33: the room decides
  by_room : (l : List ℕ) (o : Bool) → leb (length (card_of t q)) (length l) ≡ o → length_of t q (length l) ≡ pick o (Ok (length (card_of t q))) (Err (refusal 13 0))
  unfolding length_of
  by_room l o e = ap (λ (b : Bool). pick b (Ok (length (card_of t q))) (Err (refusal 13 0))) e

  -- R17, R33: a refusal leaves the buffer l
  pub short_writing : (l : List ℕ) (r : Refusal) → r ≡ refusal 13 0 → length l < length (card_of t q)
      → (Err r ≡ length_of t q (length l)) × (l ≡ filled (card_of t q) l (length_of t q (length l)))
  short_writing l r e h = rw (e, too_short_lem (length l) h) (refl, refl)

  -- n slots, where n are used
  module _ (n : ℕ) (e : n ≡ used t.slots) where
    -- R53: CK and RQ, and the slots' records
    parts_length : clock_length + last_length + length (slot_records n t.slots q.stretched) ≡ length (card_of t q)
    parts_length = ap (λ (j : ℕ). clock_length + last_length + length (slot_records j t.slots q.stretched)) e ∙ sym (length_card t q)

    -- R33: the length that the code works out
    pub card_length : (m : ℕ) → m ≡ length (slot_records n t.slots q.stretched) → clock_length + last_length + m ≡ length (card_of t q)
    card_length m f = ap (λ (x : ℕ). clock_length + last_length + x) f ∙ parts_length

    -- R54: the parts are the card
    parts_card : (clock_record t.clock ++ slot_records n t.slots q.stretched) ++ request_record q.need q.period ≡ card_of t q
    unfolding card_of
    parts_card =
        append_assoc (clock_record t.clock) (slot_records n t.slots q.stretched) (request_record q.need q.period)
        ∙ ap (λ (j : ℕ). clock_record t.clock ++ (slot_records j t.slots q.stretched ++ request_record q.need q.period)) e

    -- R59: the buffer m, which was l, holds the parts, and the card's length is answered
    pub whole_writing : (l m : List ℕ) (len : ℕ) → len ≡ length (card_of t q) → length (card_of t q) ≤ length l
        → m ≡ ((clock_record t.clock ++ slot_records n t.slots q.stretched) ++ request_record q.need q.period)
        ++ drop (clock_length + last_length + length (slot_records n t.slots q.stretched)) l
        → (Ok len ≡ length_of t q (length l)) × (m ≡ filled (card_of t q) l (length_of t q (length l)))
    whole_writing l m len f h w =
        rw (by_room l true (le-leb (length (card_of t q)) (length l) h), f) (refl, w ∙ ap₂ (λ (x : List ℕ) (j : ℕ). x ++ drop j l) parts_card parts_length)

  -- R59: where none waits the room decides
  pub other_writing : lowest_of is_waiting t.slots ≡ None → (l m : List ℕ) (s : Said ℕ)
      → (s ≡ length_of t q (length l)) × (m ≡ filled (card_of t q) l (length_of t q (length l)))
      → (s ≡ write_of t q (length l)) × (m ≡ buffer_of t q l)
  other_writing w l m s p = rw w p

module _ (t : Table) (q : Request) (l : List ℕ) where
  -- R23: a waiting line is refused at its slot, whatever the buffer
  pub waiting_writing : (r : Refusal) → MeasuredRecords t.slots q.stretched (Err r) → Writes t q l l (Err r)
  waiting_writing r w = rw (w.1, w.2) (refl, refl)

  -- where none waits
  module _ (u : Used) (w : MeasuredRecords t.slots q.stretched (Ok u)) where
    -- R53: CK and RQ, and the slots' records
    whole_length : clock_length + u.length + last_length ≡ length (card_of t q)
    whole_length = omega (arith, card_length t q u.slots w.1 u.length w.3)

    -- R17, R33: there is no room, and a refusal leaves the buffer
    pub measured_short : length l < clock_length + u.length + last_length → (r : Refusal) → r ≡ refusal 13 0 → Writes t q l l (Err r)
    measured_short h r e = other_writing t q w.0 l l (Err r) (short_writing t q l r e (omega (arith, whole_length)))

    -- R54: the parts are the card
    measured_card : clock_record t.clock ++ (slot_records u.slots t.slots q.stretched ++ request_record q.need q.period) ≡ card_of t q
    unfolding card_of
    measured_card =
        sym (append_assoc (clock_record t.clock) (slot_records u.slots t.slots q.stretched) (request_record q.need q.period)) ∙ parts_card t q u.slots w.1

    -- R59: the buffer m holds the parts, and the card's length is answered
    pub measured_whole : clock_length + u.length + last_length ≤ length l → (m : List ℕ) (n : ℕ)
        → Laid l m 0 n (clock_record t.clock ++ (slot_records u.slots t.slots q.stretched ++ request_record q.need q.period)) → Writes t q l m (Ok n)
    measured_whole h m n p =
        let e : n ≡ length (card_of t q) = omega (arith, p.end, ap length measured_card) in
        rw (w.0, by_room t q l true (le-leb (length (card_of t q)) (length l) (omega (arith, whole_length))))
        (ap Ok e, p.laid ∙ ap₂ (λ (x : List ℕ) (j : ℕ). x ++ drop j l) measured_card e)
