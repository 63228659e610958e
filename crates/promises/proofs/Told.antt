-- Grants and refusals are told apart (R63): no refusal has the number 0. And none but 10 says a tick and an excess (R103).
use Rattle.std.specs.Prelude.{Ok, Err, Option}
use mathlib.Core.Path.{◌≡◌, refl, sym, ap, subst, ◌∙◌}
use Prim.Native.Nat.{ℕ}
use mathlib.Core.List.{List}
use lib.ListN.{length}
use Rattle.line.specs.Slots.{is_nothing, lowest_of}
use Rattle.table.specs.declared.Table.{Table}
use Rattle.table.specs.declared.Request.{Request}
use Rattle.table.specs.Words.{Said, slot_number}
use Rattle.table.specs.Ask.{ask_of}
use Rattle.table.specs.Step.{step_of}
use Rattle.table.specs.Leave.{leave_of}
use Rattle.theory.proofs.Answers.{ask_answers}
use Rattle.theory.proofs.Unique.{answers_unique}
use Rattle.card.specs.Reading.{read_of}
use Rattle.card.specs.Twin.{turned_of}
use Rattle.image.specs.Loading.{load_of}
use Rattle.image.specs.Answers.{store_of}
use Rattle.calls.specs.declared.Returned.{Returned}
use Rattle.calls.specs.Cards.{line_for, put_of, rewrite_of, run_of}
use Rattle.calls.specs.Moves.{write_card_for, read_card_for}
use Rattle.calls.specs.Tables.{asked_as, ask_for, ran_as, step_for, leave_for, ReadyFor, all_counts, counts_for, counts_after}
use Rattle.promises.specs.Demand1.{ToldApart, TensOf, TenAlone}
use Rattle.promises.proofs.Numbered.{Numbered, zero_grants, result_tens, ask_numbered, step_numbered, leave_numbered, load_numbered, store_numbered, put_numbered, rewrite_numbered, run_numbered, card_numbered, image_numbered}

number_is : {r s : Returned} → r ≡ s → r.number ≡ 0 → s.number ≡ 0
number_is e z = ap (λ (x : Returned). x.number) (sym e) ∙ z

ask_told : (s : Said Table) (q : Request) → Numbered s → (ask_for s q).number ≡ 0 → (t : Table) × (s ≡ Ok t) × ((k : ℕ) × (ask_of t q ≡ Ok k))
ask_told (Err x) q h e = absurd (h.0 e)
ask_told (Ok t) q h e = (t, refl, go ((ask_of t q)) (ask_numbered t q) e)
  where
    go : (w : Said ℕ) → Numbered w → (asked_as t w).number ≡ 0 → (k : ℕ) × (w ≡ Ok k)
    go (Ok k) n z = (k, refl)
    go (Err x) n z = absurd (n.0 z)

step_told : (s : Said Table) → Numbered s → (step_for s).number ≡ 0 → (t : Table) × (s ≡ Ok t) × ((o : Option ℕ) × ((step_of t).answer ≡ Ok o))
step_told (Err x) h e = absurd (h.0 e)
step_told (Ok t) h e = (t, refl, go ((step_of t).answer) (step_numbered t) e)
  where
    go : (w : Said (Option ℕ)) → Numbered w → (ran_as w).number ≡ 0 → (o : Option ℕ) × (w ≡ Ok o)
    go (Ok o) n z = (o, refl)
    go (Err x) n z = absurd (n.0 z)

leave_told : (s : Said Table) (n : ℕ) → Numbered s → (leave_for s n).number ≡ 0 → (t : Table) × (s ≡ Ok t) × ((k : ℕ) × ((leave_of t n).answer ≡ Ok k))
leave_told (Err x) n h e = absurd (h.0 e)
leave_told (Ok t) n h e = (t, refl, zero_grants 0 ((leave_of t n).answer) (leave_numbered t n) e)

ready_told : (s : Said Table) (r : Returned) → Numbered s → ReadyFor s r → r.number ≡ 0 → (t : Table) × (s ≡ Ok t)
ready_told (Ok t) r h k e = (t, refl)
ready_told (Err x) r h k e = absurd (h.0 (number_is k e))

counts_told : (s : Said Table) (ns : List ℕ) → Numbered s → (counts_for s).number ≡ 0 → (t : Table) × (s ≡ Ok t) × (counts_after s ns ≡ all_counts t)
counts_told (Ok t) ns h e = (t, refl, refl)
counts_told (Err x) ns h e = absurd (h.0 e)

-- R63: a result with the number 0 is a grant, whichever operation gave it
pub told_apart : ToldApart
told_apart = record {
  answer_card = λ card l r m h e. zero_grants 0 _ (put_numbered (line_for card) l) (number_is h.0 e);
  rewrite_card = λ card l r m h e. zero_grants (turned_of card) _ (rewrite_numbered card (length l)) (number_is h.0 e);
  run_card = λ card ticks r h e. zero_grants 0 _ (run_numbered card ticks) (number_is h e);
  empty_image = λ l r m h e. zero_grants 0 _ (store_numbered (length l)) (number_is h.0 e);
  ask_image = λ l q r h e. ask_told (load_of l) q (load_numbered 16 l) (number_is h e);
  admit_image = λ l q r m h e. ask_told (load_of l) q (load_numbered 16 l) (number_is h.0 e);
  step_image = λ l r m h e. step_told (load_of l) (load_numbered 16 l) (number_is h.0 e);
  leave_image = λ l n r m h e. leave_told (load_of l) n (load_numbered 16 l) (number_is h.0 e);
  ready_image = λ l r h e. ready_told (load_of l) r (load_numbered 16 l) h e;
  counts_image = λ l ns r m h e. let c = counts_told (load_of l) ns (load_numbered 16 l) (number_is h.0 e) in (c.0, c.1, h.1 ∙ c.2);
  write_image = λ l q out r m h e. zero_grants 0 _ (card_numbered l q (length out)) (number_is h.0 e);
  read_image = λ card l ns r m n h e. zero_grants 0 _ (image_numbered card (length l)) (number_is h.0 e);
}

-- ---- who says a tick and an excess

tens_is : {r s : Returned} → r ≡ s → TensOf s → TensOf r
tens_is e h = subst TensOf (sym e) h

ask_tens : (s : Said Table) (q : Request) → Numbered s → TensOf (ask_for s q)
ask_tens (Ok t) q h = result_tens (slot_number (lowest_of is_nothing t.slots)) ((ask_of t q)) (ask_numbered t q)
ask_tens (Err x) q h = h.1

step_tens : (s : Said Table) → Numbered s → TensOf (step_for s)
step_tens (Ok t) h = go ((step_of t).answer) (step_numbered t)
  where
    go : (w : Said (Option ℕ)) → Numbered w → TensOf (ran_as w)
    go (Ok o) n = result_tens 0 (Ok (slot_number o)) tt
    go (Err x) n = n.1
step_tens (Err x) h = h.1

leave_tens : (s : Said Table) (n : ℕ) → Numbered s → TensOf (leave_for s n)
leave_tens (Ok t) n h = result_tens 0 ((leave_of t n).answer) (leave_numbered t n)
leave_tens (Err x) n h = h.1

ready_tens : (s : Said Table) (r : Returned) → Numbered s → ReadyFor s r → TensOf r
ready_tens (Ok t) r h k = tens_is k.0 (result_tens 0 (Ok r.value) tt)
ready_tens (Err x) r h k = tens_is k h.1

counts_tens : (s : Said Table) → Numbered s → TensOf (counts_for s)
counts_tens (Ok t) h = result_tens 0 (Ok t.clock) tt
counts_tens (Err x) h = h.1

said_tens : (t : Table) (q : Request) (s : Said ℕ) → s ≡ (ask_of t q) → Numbered s
said_tens t q s e = subst Numbered (sym e) (ask_numbered t q)

-- R103: refusal 10 alone says a tick and an excess, whichever operation gave the result
pub ten_alone : TenAlone
ten_alone = record {
  ask = λ t q x h. (said_tens t q (Err x) (answers_unique t q (Err x) ((ask_of t q)) h (ask_answers t q))).1;
  answer_card = λ card l r m h. tens_is h.0 (result_tens 0 (put_of (line_for card) l) (put_numbered (line_for card) l));
  rewrite_card = λ card l r m h. tens_is h.0 (result_tens (turned_of card) (rewrite_of card (length l)) (rewrite_numbered card (length l)));
  run_card = λ card ticks r h. tens_is h (result_tens 0 (run_of card ticks) (run_numbered card ticks));
  empty_image = λ l r m h. tens_is h.0 (result_tens 0 (store_of (length l)) (store_numbered (length l)));
  ask_image = λ l q r h. tens_is h (ask_tens (load_of l) q (load_numbered 16 l));
  admit_image = λ l q r m h. tens_is h.0 (ask_tens (load_of l) q (load_numbered 16 l));
  step_image = λ l r m h. tens_is h.0 (step_tens (load_of l) (load_numbered 16 l));
  leave_image = λ l n r m h. tens_is h.0 (leave_tens (load_of l) n (load_numbered 16 l));
  ready_image = λ l r h. ready_tens (load_of l) r (load_numbered 16 l) h;
  counts_image = λ l ns r m h. tens_is h.0 (counts_tens (load_of l) (load_numbered 16 l));
  write_image = λ l q out r m h. tens_is h.0 (result_tens 0 (write_card_for (load_of l) q (length out)) (card_numbered l q (length out)));
  read_image = λ card l ns r m n h. tens_is h.0 (result_tens 0 (read_card_for (read_of card) (length l)) (image_numbered card (length l)));
}
