-- What follows for bytes: 209 of them settle a card's answer, a card that reads is written anew as its twin, and an image that was changed is the new table's.
use Rattle.std.specs.Prelude.{Ok, Err, Option, None, Some}
use mathlib.Core.Path.{◌≡◌, refl, ap, ap₂, ◌∙◌}
use mathlib.Core.List.{List, ◌++◌, append-nil}
use mathlib.Core.Bool.{Bool, true, false}
use Prim.Native.Nat.{ℕ, ◌≤◌, ◌<◌}
use native.Mathlib.Omega.{arith}
use lib.ListN.{length, take, drop, drop_of_length-le}
use lib.Dec.{leb}
use borrow.Author.Tests.{leb-true, le-leb, lt-leb}
use Rattle.line.specs.Slots.{pick, is_waiting, lowest_of}
use Rattle.table.specs.declared.Table.{Table}
use Rattle.table.specs.declared.Request.{Request}
use Rattle.table.specs.Words.{refusal, Said}
use Rattle.table.specs.Ask.{ask_of}
use Rattle.table.specs.Admit.{admit_of}
use Rattle.table.specs.Step.{step_of}
use Rattle.table.specs.Leave.{leave_of}
use Rattle.card.specs.Bytes.{Bytes}
use Rattle.card.specs.declared.Card.{Card}
use Rattle.card.specs.Card.{card_of}
use Rattle.card.specs.Reading.{read_of}
use Rattle.card.specs.Twin.{turned_of, twin_of}
use Rattle.card.specs.Answers.{length_of, unless_waiting, filled}
use Rattle.card.proofs.WritesBack.{own_twin}
use Rattle.card.proofs.Rewritten.{fitting, write_is, buffer_is}
use Rattle.card.proofs.Prefix.{verdict_by_209}
use Rattle.image.specs.Image.{image_of}
use Rattle.image.specs.Loading.{load_of}
use Rattle.image.specs.Answers.{stored_in}
use Rattle.image.proofs.WritesBack.{loaded_length}
use Rattle.image.proofs.Stored.{stored_is}
use Rattle.calls.specs.Tables.{changed, after_admit, after_step, after_leave}
use Rattle.calls.specs.Results.{granted_as, refused_as, result_at}
use Rattle.calls.specs.Cards.{answer_for, answer_of, rewrite_for, rewrite_as, rewritten_for, rewritten_of}

-- R60: the first 209 bytes settle the answer
pub answer_by_209 : (l m : List ℕ) → take 209 l ≡ take 209 m → answer_of l ≡ answer_of m
answer_by_209 l m e = ap answer_for (verdict_by_209 l m e).0

-- R94: and what is written anew
pub rewrite_by_209 : (l m buffer : List ℕ) → take 209 l ≡ take 209 m
    → (rewrite_as l (length buffer) ≡ rewrite_as m (length buffer)) × (rewritten_of l buffer ≡ rewritten_of m buffer)
rewrite_by_209 l m buffer e =
    let v = verdict_by_209 l m e in
    (ap₂ (λ (k : ℕ) (s : Said Card). result_at k (rewrite_for s (length buffer))) v.1 v.0, ap (λ (s : Said Card). rewritten_for s buffer) v.0)

-- a card that reads, before a buffer
module _ (card buffer : List ℕ) (b : Bytes card) (c : Card) (e : read_of card ≡ Ok c) where
  -- what is answered and held once the test of the length has come out
  answered : {o : Bool} → leb (length card) (length buffer) ≡ o
      → (rewrite_as card (length buffer) ≡ result_at (turned_of card) (fitting (length card) o)) × (rewritten_of card buffer ≡ filled (twin_of card) buffer (fitting (length card) o))
  answered h = (
    ap (result_at (turned_of card)) (ap (λ (s : Said Card). rewrite_for s (length buffer)) e ∙ write_is 16 card buffer b c e h),
    ap (λ (s : Said Card). rewritten_for s buffer) e ∙ buffer_is 16 card buffer b c e h,
  )

  -- R65, R72: the twin of a card that reads is put into the buffer, the slots whose records were TA are named, and what stands after it in the buffer stays
  pub rewrites_twin : length card ≤ length buffer
      → (rewrite_as card (length buffer) ≡ granted_as (turned_of card) (length card)) × (rewritten_of card buffer ≡ twin_of card ++ drop (length card) buffer)
  rewrites_twin h = answered (le-leb (length card) (length buffer) h)

  -- R65, R72: a card without TA is put back byte for byte, and no slot is named
  pub rewrites_back : turned_of card ≡ 0 → length card ≤ length buffer
      → (rewrite_as card (length buffer) ≡ granted_as 0 (length card)) × (rewritten_of card buffer ≡ card ++ drop (length card) buffer)
  rewrites_back z h =
      let a = rewrites_twin h in
      (a.0 ∙ ap (λ (w : ℕ). granted_as w (length card)) z, a.1 ∙ ap (λ (l : List ℕ). l ++ drop (length card) buffer) (own_twin 16 card b c e z))

  -- R33, R65: a buffer that is too short gets refusal 13, and every byte stays
  pub short_buffer : length buffer < length card → (rewrite_as card (length buffer) ≡ refused_as (refusal 13 0)) × (rewritten_of card buffer ≡ buffer)
  short_buffer h = answered (lt-leb (length card) (length buffer) h)

-- R33, R65: what was written is no longer than the buffer
pub rewritten_fits : (card : List ℕ) (room : ℕ) → (rewrite_as card room).value ≤ room
unfolding length_of
rewritten_fits card room = go (turned_of card) (read_of card)
  where
    unless : (k n : ℕ) (o : Option ℕ) (b : Bool) → leb n room ≡ b → (result_at k (unless_waiting o (pick b (Ok n) (Err (refusal 13 0))))).value ≤ room
    unless k n (Some i) b e = omega arith
    unless k n None true e = leb-true n room e
    unless k n None false e = omega arith

    go : (k : ℕ) (s : Said Card) → (result_at k (rewrite_for s room)).value ≤ room
    go k (Ok c) = unless k (length (card_of c.table c.request)) (lowest_of is_waiting c.table.slots) (leb (length (card_of c.table c.request)) room) refl
    go k (Err x) = omega arith

-- R84: a buffer that an image fills holds a stored table's image and nothing else
pub stored_image : (l : List ℕ) (t u : Table) → load_of l ≡ Ok t → stored_in u l ≡ image_of u
stored_image l t u e =
    let n : length l ≡ 298 = loaded_length 16 l t e in
    stored_is u l (omega arith) ∙ ap (λ (x : List ℕ). image_of u ++ x) (drop_of_length-le l {i = 298} (omega arith)) ∙ append-nil (image_of u)

-- bytes that load as a table
module _ (l : List ℕ) (t : Table) (e : load_of l ≡ Ok t) where
  -- R88: where a step is not refused they are the stepped table's image
  pub step_leaves : (o : Option ℕ) → (step_of t).answer ≡ Ok o → after_step (load_of l) l ≡ image_of (step_of t).table
  step_leaves o h =
      ap (λ (s : Said Table). after_step s l) e ∙ ap (λ (s : Said (Option ℕ)). changed s (stored_in (step_of t).table l) l) h
      ∙ stored_image l t (step_of t).table e

  -- R87: where a request is granted they are the admitted table's image
  pub admit_leaves : (q : Request) (r : ℕ) → ask_of t q ≡ Ok r → after_admit (load_of l) q l ≡ image_of (admit_of t q).table
  admit_leaves q r h =
      ap (λ (s : Said Table). after_admit s q l) e ∙ ap (λ (s : Said ℕ). changed s (stored_in (admit_of t q).table l) l) h
      ∙ stored_image l t (admit_of t q).table e

  -- R102: where a line is let go they are the image of the table that this leaves
  pub leave_leaves : (n k : ℕ) → (leave_of t n).answer ≡ Ok k → after_leave (load_of l) n l ≡ image_of (leave_of t n).table
  leave_leaves n k h =
      ap (λ (s : Said Table). after_leave s n l) e ∙ ap (λ (s : Said ℕ). changed s (stored_in (leave_of t n).table l) l) h
      ∙ stored_image l t (leave_of t n).table e
