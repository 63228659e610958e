-- The first demand is kept: one answer by the uniqueness theorems, and what a refusal keeps by the operations' definitions.
use Rattle.std.specs.Prelude.{Ok, Err, Option, None, Some}
use mathlib.Core.Path.{◌≡◌, refl, sym, ap, ◌∙◌, subst}
use mathlib.Core.Bool.{Bool, true, false}
use mathlib.Core.List.{List}
use Prim.Native.Nat.{ℕ}
use lib.ListN.{length}
use Rattle.table.specs.declared.Table.{Table}
use Rattle.table.specs.declared.Request.{Request}
use Rattle.table.specs.declared.Refusal.{Refusal}
use Rattle.table.specs.declared.Acted.{Acted}
use Rattle.line.specs.Slots.{pick}
use Rattle.table.specs.Words.{empty_table, Said}
use Rattle.table.specs.Grounds.{grounds, FirstOf, Answers}
use Rattle.table.specs.Ask.{ask_of}
use Rattle.table.specs.Admit.{admit_with, admit_of}
use Rattle.table.specs.Step.{step_of}
use Rattle.table.specs.Leave.{leave_of}
use Rattle.table.proofs.Step.{refused_keeps}
use Rattle.table.proofs.LettingGo.{leave_keeps}
use Rattle.board.proofs.Word.{word_unique}
use Rattle.theory.proofs.Answers.{ask_answers}
use Rattle.theory.proofs.Unique.{answers_unique}
use Rattle.ask.proofs.Right.{asked_unique}
use Rattle.admit.proofs.Right.{admits_unique}
use Rattle.card.specs.declared.ReadCard.{ReadCard}
use Rattle.card.specs.declared.Card.{Card}
use Rattle.card.specs.Card.{card_of}
use Rattle.card.specs.Reading.{read_of}
use Rattle.card.specs.Twin.{turned_of}
use Rattle.card.specs.Answers.{handed, reading_with, said_read, write_of, filled}
use Rattle.card.proofs.Answers.{said_handed, one_reading, one_writing}
use Rattle.driver.proofs.Keeps.{refused_drive_keeps, drive_determined}
use Rattle.reply.specs.Line.{answer_line, laid, fits}
use Rattle.reply.proofs.Line.{reply_settled, put_reply_settled}
use Rattle.image.specs.Image.{image_of}
use Rattle.image.specs.Loading.{load_of}
use Rattle.image.specs.Answers.{handed_out, said_loaded, store_of, stored_in}
use Rattle.calls.specs.declared.Returned.{Returned}
use Rattle.calls.specs.Results.{granted_as, result_at, result_of}
use Rattle.calls.specs.Cards.{line_for, said_put, rewrite_for, rewritten_for}
use Rattle.calls.specs.Tables.{changed, asked_as, ask_for, after_admit, ran_as, step_for, after_step, leave_for, after_leave, ReadyFor, counts_for, counts_after}
use Rattle.calls.specs.Moves.{eighteen, write_card_for, card_after, read_card_for, image_after, numbers_after}
use Rattle.image.proofs.Exactly.{said_loaded_lem}
use Rattle.promises.specs.Operations.{Drives}
use Rattle.promises.specs.Demand1.{FixedAnswer, RefusalKeeps, One, Both}

-- ---- one fixed answer

-- an equation allows one
by_equation : {A : Type 0} (v : A) → One (λ (x : A). x ≡ v)
by_equation v x y p q = p ∙ sym q

-- and two equations one pair
by_equations : {A B : Type 0} (v : A) (w : B) → Both (λ (x : A) (m : B). (x ≡ v) × (m ≡ w))
by_equations v w x y m n p q = (p.0 ∙ sym q.0, p.1 ∙ sym q.1)

-- R89: a ready word is one, and so is a refusal
ready_one : (s : Said Table) → One (ReadyFor s)
ready_one (Ok t) x y p q = p.0 ∙ ap (granted_as 0) (word_unique t.slots x.value y.value p.1 q.1) ∙ sym q.0
ready_one (Err z) x y p q = p ∙ sym q

-- R71: every input has one answer
pub fixed_answer : FixedAnswer
fixed_answer = record {
  ask_met = λ t q. (ask_of t q, ask_answers t q);
  ask_said = answers_unique;
  ask = asked_unique;
  admit = admits_unique;
  step = λ t. by_equation (step_of t);
  leave = λ t n. by_equation (leave_of t n);
  drive = λ t x y m n p q. drive_determined t x y m n p q;
  ready_word = λ t. word_unique t.slots;
  lamp = λ n. by_equation _;
  try_read = λ card. by_equation _;
  read = one_reading;
  write = one_writing;
  reply_to = λ a. reply_settled (answer_line a);
  put_reply = λ a. put_reply_settled (answer_line a);
  answer_card = λ card l. by_equations _ _;
  rewrite_card = λ card l. by_equations _ _;
  run_card = λ card ticks. by_equation _;
  try_load = λ l. by_equation _;
  load = λ l. by_equation _;
  store = λ t l x y m n p q. (p.0 ∙ sym q.0, p.1 ∙ sym q.1);
  empty_image = λ l. by_equations _ _;
  ask_image = λ l q. by_equation _;
  admit_image = λ l q. by_equations _ _;
  step_image = λ l. by_equations _ _;
  leave_image = λ l n. by_equations _ _;
  ready_image = λ l. ready_one (load_of l);
  counts_image = λ l ns. by_equations _ _;
  write_image = λ l q out. by_equations _ _;
  read_image = λ card l ns x y m n j k p q. (p.0 ∙ sym q.0, p.1 ∙ sym q.1, p.2 ∙ sym q.2);
}

-- ---- what a refusal keeps

-- a right answer that refuses is the first ground's refusal
first_refused : (t : Table) (q : Request) (a : Said ℕ) (x : Refusal) → Answers t q a → a ≡ Err x → FirstOf grounds t q x
first_refused t q a x h e = subst (Answers t q) e h

admit_keeps : (t : Table) (q : Request) (m : Acted ℕ) (x : Refusal) → m ≡ admit_of t q → m.answer ≡ Err x → m.table ≡ t
admit_keeps t q m x e f = ap (λ (n : Acted ℕ). n.table) e ∙ go (ask_of t q) (ap (λ (n : Acted ℕ). n.answer) (sym e) ∙ f)
  where
    go : (a : Said ℕ) → (admit_with t q a).answer ≡ Err x → (admit_with t q a).table ≡ t
    go (Ok r) h = cc
    go (Err y) h = refl

-- a step's answer that says a refusal is that refusal
step_refused : (o : Said (Option ℕ)) (x : Refusal) → o ≡ Err x → o ≡ Err x
step_refused (Ok w) x e = cc
step_refused (Err y) x e = let z : y ≡ x = cc in ap Err z

step_keeps : (t : Table) (s : Acted (Option ℕ)) (x : Refusal) → s ≡ step_of t → s.answer ≡ Err x → s.table ≡ t
step_keeps t s x e f =
    ap (λ (r : Acted (Option ℕ)). r.table) e ∙ refused_keeps t x (step_refused (step_of t).answer x (ap (λ (r : Acted (Option ℕ)). r.answer) (sym e) ∙ f))

-- a leave's answer that says a refusal is that refusal
leave_refused : (a : Said ℕ) (x : Refusal) → a ≡ Err x → a ≡ Err x
leave_refused (Ok k) x e = cc
leave_refused (Err y) x e = let z : y ≡ x = cc in ap Err z

left_keeps : (t : Table) (n : ℕ) (r : Acted ℕ) (x : Refusal) → r ≡ leave_of t n → r.answer ≡ Err x → r.table ≡ t
left_keeps t n r x e f =
    ap (λ (s : Acted ℕ). s.table) e ∙ leave_keeps t x n (leave_refused (leave_of t n).answer x (ap (λ (s : Acted ℕ). s.answer) (sym e) ∙ f))

-- what is read with its word is refused by the reader's refusal
read_refused : (w : ℕ) (s : Said Card) (x : Refusal) → reading_with w s ≡ Err x → s ≡ Err x
read_refused w (Ok c) x e = cc
read_refused w (Err y) x e = let z : y ≡ x = cc in ap Err z

drive_keeps : (t : Table) (o : Said (Option ℕ)) (u : Table) (x : Refusal) → Drives t o u → o ≡ Err x → u ≡ t
drive_keeps t o u x h e = h.1 ∙ refused_drive_keeps t x (step_refused (step_of t).answer x ((sym h.0) ∙ e))

-- whether the line fits, a number that is not 0 or the missing length says that it does not
put_kept : (b : Bool) (line l : List ℕ) → pick b (Some (length line)) None ≡ None → pick b (laid line l) l ≡ l
put_kept true line l e = cc
put_kept false line l e = refl

line_kept : (b : Bool) (line l : List ℕ) → ((result_of (said_put (pick b (Some (length line)) None))).number ≡ 0 → ⊥) → pick b (laid line l) l ≡ l
line_kept true line l h = absurd (h refl)
line_kept false line l h = refl

-- what was to be written stands in the buffer only where something was granted
filled_kept : (k : ℕ) (w : Said ℕ) (bytes l : List ℕ) → ((result_at k w).number ≡ 0 → ⊥) → filled bytes l w ≡ l
filled_kept k (Ok n) bytes l h = absurd (h refl)
filled_kept k (Err x) bytes l h = refl

changed_kept : (w : Said ℕ) (m l : List ℕ) → ((result_of w).number ≡ 0 → ⊥) → changed w m l ≡ l
changed_kept (Ok n) m l h = absurd (h refl)
changed_kept (Err x) m l h = refl

-- whatever was read or loaded, a refusal over the boundary says that nothing was written
rewrite_kept : (k : ℕ) (s : Said Card) (l : List ℕ) → ((result_at k (rewrite_for s (length l))).number ≡ 0 → ⊥) → rewritten_for s l ≡ l
rewrite_kept k (Err x) l h = refl
rewrite_kept k (Ok c) l h = filled_kept k (write_of c.table c.request (length l)) (card_of c.table c.request) l h

card_kept : (s : Said Table) (q : Request) (l : List ℕ) → ((result_of (write_card_for s q (length l))).number ≡ 0 → ⊥) → card_after s q l ≡ l
card_kept (Err x) q l h = refl
card_kept (Ok t) q l h = filled_kept 0 (write_of t q (length l)) (card_of t q) l h

image_kept : (s : Said Card) (l ns : List ℕ) → ((result_of (read_card_for s (length l))).number ≡ 0 → ⊥) → (image_after s l ≡ l) × (numbers_after s (length l) ns ≡ ns)
image_kept (Err x) l ns h = (refl, refl)
image_kept (Ok c) l ns h =
    (filled_kept 0 (store_of (length l)) (image_of c.table) l h, changed_kept (store_of (length l)) (eighteen c.request) ns h)

admit_kept : (s : Said Table) (q : Request) (l : List ℕ) → ((ask_for s q).number ≡ 0 → ⊥) → after_admit s q l ≡ l
admit_kept (Err x) q l h = refl
admit_kept (Ok t) q l h = go ((ask_of t q)) h
  where
    go : (w : Said ℕ) → ((asked_as t w).number ≡ 0 → ⊥) → changed w (stored_in (admit_of t q).table l) l ≡ l
    go (Ok r) h = absurd (h refl)
    go (Err x) h = refl

step_kept : (s : Said Table) (l : List ℕ) → ((step_for s).number ≡ 0 → ⊥) → after_step s l ≡ l
step_kept (Err x) l h = refl
step_kept (Ok t) l h = go ((step_of t).answer) h
  where
    go : (w : Said (Option ℕ)) → ((ran_as w).number ≡ 0 → ⊥) → changed w (stored_in (step_of t).table l) l ≡ l
    go (Ok o) h = absurd (h refl)
    go (Err x) h = refl

leave_kept : (s : Said Table) (n : ℕ) (l : List ℕ) → ((leave_for s n).number ≡ 0 → ⊥) → after_leave s n l ≡ l
leave_kept (Err x) n l h = refl
leave_kept (Ok t) n l h = changed_kept ((leave_of t n).answer) (stored_in (leave_of t n).table l) l h

counts_kept : (s : Said Table) (ns : List ℕ) → ((counts_for s).number ≡ 0 → ⊥) → counts_after s ns ≡ ns
counts_kept (Err x) ns h = refl
counts_kept (Ok t) ns h = absurd (h refl)

-- R17: a refusal changes no table and no lent byte
pub refusal_keeps : RefusalKeeps
refusal_keeps = record {
  ask = λ t q a x h e. (
    first_refused t q a x h.answers e,
    λ m g. let f : m.answer ≡ Err x = answers_unique t q m.answer a g.answers h.answers ∙ e in
        (f, admit_keeps t q m x g.computed f),
  );
  admit = λ t q m x h e. (first_refused t q m.answer x h.answers e, admit_keeps t q m x h.computed e);
  step = step_keeps;
  leave = left_keeps;
  drive = drive_keeps;
  try_read = λ card s x h e. read_refused (turned_of card) (read_of card) x (sym h ∙ e);
  read = λ card c x h e.
      let f : read_of card ≡ Err x = sym (said_handed (turned_of card) (read_of card)) ∙ ap said_read (sym h) ∙ e in
      let g : c ≡ handed 0 (Err x) = h ∙ ap (handed (turned_of card)) f in
      (f, ap (λ (y : ReadCard). y.card.table) g, ap (λ (y : ReadCard). y.card.request) g, ap (λ (y : ReadCard). y.turned) g);
  write = λ t q l a m x h e. h.1 ∙ ap (filled (card_of t q) l) (sym h.0 ∙ e);
  put_reply = λ a l w m h e. h.1 ∙ put_kept (fits (answer_line a) l) (answer_line a) l (sym h.0 ∙ e);
  try_load = λ l s x h e. sym h ∙ e;
  load = λ l y x h e.
      let f : load_of l ≡ Err x = sym (said_loaded_lem (load_of l)) ∙ ap said_loaded (sym h) ∙ e in
      (f, rw h (ap (λ (s : Said Table). (handed_out s).table) f));
  store = λ t l a m x h e. h.1 ∙ ap (filled (image_of t) l) (sym h.0 ∙ e);
  answer_card = λ card l r m h e. h.1 ∙ line_kept (fits (line_for card) l) (line_for card) l (λ z. e (ap (λ (x : Returned). x.number) h.0 ∙ z));
  rewrite_card = λ card l r m h e. h.1 ∙ rewrite_kept (turned_of card) (read_of card) l (λ z. e (ap (λ (x : Returned). x.number) h.0 ∙ z));
  empty_image = λ l r m h e. h.1 ∙ filled_kept 0 (store_of (length l)) (image_of empty_table) l (λ z. e (ap (λ (x : Returned). x.number) h.0 ∙ z));
  admit_image = λ l q r m h e. h.1 ∙ admit_kept (load_of l) q l (λ z. e (ap (λ (x : Returned). x.number) h.0 ∙ z));
  step_image = λ l r m h e. h.1 ∙ step_kept (load_of l) l (λ z. e (ap (λ (x : Returned). x.number) h.0 ∙ z));
  leave_image = λ l n r m h e. h.1 ∙ leave_kept (load_of l) n l (λ z. e (ap (λ (x : Returned). x.number) h.0 ∙ z));
  counts_image = λ l ns r m h e. h.1 ∙ counts_kept (load_of l) ns (λ z. e (ap (λ (x : Returned). x.number) h.0 ∙ z));
  write_image = λ l q out r m h e. h.1 ∙ card_kept (load_of l) q out (λ z. e (ap (λ (x : Returned). x.number) h.0 ∙ z));
  read_image = λ card l ns r m n h e.
      let k = image_kept (read_of card) l ns (λ z. e (ap (λ (x : Returned). x.number) h.0 ∙ z)) in
      (h.1 ∙ k.0, h.2 ∙ k.1);
}
