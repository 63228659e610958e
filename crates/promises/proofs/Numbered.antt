-- No refusal has the number 0, so that a result's number is 0 exactly where something is granted (R63); and none but 10 says a tick and an excess (R103).
use Rattle.std.specs.Prelude.{Ok, Err, Option, None, Some}
use mathlib.Core.Path.{◌≡◌, refl, sym, subst}
use mathlib.Core.Bool.{Bool, true, false}
use mathlib.Core.Logic.{⊎_elim}
use mathlib.Core.List.{List, [], ◌∷◌}
use Prim.Native.Nat.{ℕ, zero, suc, ◌^◌}
use native.Mathlib.Omega.{arith}
use lib.ListN.{length}
use lib.Dec.{leb}
use Rattle.line.specs.Slots.{pick, at, is_waiting, lowest_of}
use Rattle.table.specs.declared.Table.{Table}
use Rattle.table.specs.declared.Request.{Request}
use Rattle.table.specs.declared.Refusal.{Refusal}
use Rattle.table.specs.declared.Acted.{Acted}
use Rattle.table.specs.Words.{refused_act, act_unless, refusal, Said}
use Rattle.table.specs.Grounds.{Late, Full, Waiters, Unsound, Misstretched, Misfit, Wide, Overload, Behind, Row, row, row_short, grounds, FirstOf, Answers}
use Rattle.table.specs.Ask.{ask_of}
use Rattle.table.specs.Admit.{admit_with}
use Rattle.table.specs.Counts.{fault}
use Rattle.table.specs.Step.{choose, serve, advance, step_of}
use Rattle.table.specs.Leave.{let_go_at, leave_at, leave_of}
use Rattle.line.specs.Tick.{short}
use Rattle.line.specs.Leave.{may_leave, ticks_left}
use Rattle.theory.proofs.Answers.{ask_answers}
use Rattle.card.proofs.Grounds.{Refuses, read_refuses}
use Rattle.card.specs.declared.Card.{Card}
use Rattle.card.specs.Card.{card_of}
use Rattle.card.specs.Reading.{read_with, read_of}
use Rattle.card.specs.Answers.{length_of, unless_waiting, write_of}
use Rattle.image.specs.Image.{size}
use Rattle.image.specs.Loading.{wrong_in, table_in, unless_wrong, load_with, load_of}
use Rattle.image.specs.Answers.{store_of}
use Rattle.reply.specs.Line.{fits}
use Rattle.calls.specs.Results.{result_at}
use Rattle.promises.specs.Demand1.{OnlyTen, TensOf}
use Rattle.calls.specs.Cards.{said_put, put_of, rewrite_for, rewrite_of, and_then, ticks_run, run_admitted, run_for, run_of}
use Rattle.calls.specs.Moves.{write_card_for, read_card_for}

-- R63, R103: if it is a refusal, its number is not 0, and it says what its number does
abbrev pub Numbered : {A : Type 0} → Said A → Type 0
Numbered (Ok a) = Unit {0}
Numbered (Err x) = (x.number ≡ 0 → ⊥) × OnlyTen x.number x.tick x.excess

-- R17: a refusal of another number that says no more than its place
plain : (n k : ℕ) → (n ≡ 0 → ⊥) → (n ≡ 10 → ⊥) → Numbered {A = ℕ} (Err (refusal n k))
plain n k z ten = (z, record { ten = λ e. absurd (ten e); others = λ e. (refl, refl) })

-- R63: a result with the number 0 is a grant
pub zero_grants : (k : ℕ) (s : Said ℕ) → Numbered s → (result_at k s).number ≡ 0 → (v : ℕ) × (s ≡ Ok v)
zero_grants k (Ok v) n e = (v, refl)
zero_grants k (Err x) n e = absurd (n.0 e)

-- R103: and none but 10 says a tick and an excess
pub result_tens : (k : ℕ) (s : Said ℕ) → Numbered s → TensOf (result_at k s)
result_tens k (Ok v) n = record { ten = λ e. absurd (omega (arith, e)); others = λ e. (refl, refl) }
result_tens k (Err x) n = n.1

-- ---- ask and step

-- every ground's refusal is such a one
abbrev AllNumbered : List Row → Type 0
AllNumbered [] = Unit {0}
AllNumbered (r ∷ rs) = ((t : Table) (q : Request) (x : Refusal) → r t q x → Numbered {A = ℕ} (Err x)) × AllNumbered rs

row_numbered : (n : ℕ) (H : Table → Request → ℕ → Type 0) → (n ≡ 0 → ⊥) → (n ≡ 10 → ⊥) → (t : Table) (q : Request) (x : Refusal) → row n H t q x
    → Numbered {A = ℕ} (Err x)
row_numbered n H z ten t q x g = subst (λ (y : Refusal). Numbered {A = ℕ} (Err y)) (sym g.2) (plain n g.0 z ten)

short_numbered : (t : Table) (q : Request) (x : Refusal) → row_short t q x → Numbered {A = ℕ} (Err x)
short_numbered t q x (d, n, s, e) =
    subst (λ (y : Refusal). Numbered {A = ℕ} (Err y)) (sym e) ((λ z. omega arith), record { ten = λ _. s.above; others = λ h. absurd (h refl) })

first_numbered : (rs : List Row) (t : Table) (q : Request) (x : Refusal) → AllNumbered rs → FirstOf rs t q x → Numbered {A = ℕ} (Err x)
first_numbered [] t q x a f = absurd f
first_numbered (r ∷ rs) t q x a f =
    ⊎_elim (a.0 t q x) (λ g. first_numbered rs t q x a.1 g.1) f

all_numbered : AllNumbered grounds
all_numbered = (
  row_numbered 1 Late (λ e. omega arith) (λ e. omega arith),
  (
    row_numbered 2 Full (λ e. omega arith) (λ e. omega arith),
    (
      row_numbered 3 Waiters (λ e. omega arith) (λ e. omega arith),
      (
        row_numbered 4 Unsound (λ e. omega arith) (λ e. omega arith),
        (
          row_numbered 5 Misstretched (λ e. omega arith) (λ e. omega arith),
          (
            row_numbered 6 Misfit (λ e. omega arith) (λ e. omega arith),
            (
              row_numbered 7 Wide (λ e. omega arith) (λ e. omega arith),
              (
                row_numbered 8 Overload (λ e. omega arith) (λ e. omega arith),
                (row_numbered 9 Behind (λ e. omega arith) (λ e. omega arith), (short_numbered, tt)),
              ),
            ),
          ),
        ),
      ),
    ),
  ),
)

-- R86: ask's refusals
pub ask_numbered : (t : Table) (q : Request) → Numbered ((ask_of t q))
ask_numbered t q = go ((ask_of t q)) (ask_answers t q)
  where
    go : (s : Said ℕ) → Answers t q s → Numbered s
    go (Ok r) h = tt
    go (Err x) h = first_numbered grounds t q x all_numbered h

step_unless_lem : (o : Option ℕ) (n : ℕ) (t : Table) (s : Acted (Option ℕ)) → (n ≡ 0 → ⊥) → (n ≡ 10 → ⊥) → Numbered s.answer → Numbered ((act_unless o n t s).answer)
step_unless_lem None n t s z ten k = k
step_unless_lem (Some p) n t s z ten k = plain n p z ten

advance_numbered : (o : Option ℕ) (t : Table) → Numbered ((advance o t).answer)
unfolding advance
advance_numbered o t = step_unless_lem (lowest_of short (serve o t.slots)) 14 t _ (λ e. omega arith) (λ e. omega arith) tt

-- R88: a step's
pub step_numbered : (t : Table) → Numbered ((step_of t).answer)
unfolding step_of
step_numbered t =
    go (leb (2 ^ 48) t.clock) _ (step_unless_lem (fault t) 4 t (advance (choose t) t) (λ e. omega arith) (λ e. omega arith) (advance_numbered (choose t) t))
  where
    go : (b : Bool) (s : Acted (Option ℕ)) → Numbered s.answer → Numbered ((pick b (refused_act t 15 0) s).answer)
    go true s k = plain 15 0 (λ e. omega arith) (λ e. omega arith)
    go false s k = k

leave_unless_lem : (o : Option ℕ) (t : Table) (r : Acted ℕ) → Numbered r.answer → Numbered ((act_unless o 4 t r).answer)
leave_unless_lem None t r k = k
leave_unless_lem (Some p) t r k = plain 4 p (λ e. omega arith) (λ e. omega arith)

-- R102: a leave's
pub leave_numbered : (t : Table) (n : ℕ) → Numbered ((leave_of t n).answer)
unfolding leave_of
leave_numbered t n = leave_unless_lem (fault t) t (leave_at n t) (go (may_leave (at t.slots n)))
  where
    go : (b : Bool) → Numbered ((pick b (record { table = let_go_at n t; answer = Ok (ticks_left (at t.slots n)) }) (refused_act t 16 n)).answer)
    go true = tt
    go false = plain 16 n (λ e. omega arith) (λ e. omega arith)

-- ---- image and writer

-- R83: an image's
pub load_numbered : (n : ℕ) (l : List ℕ) → Numbered (load_with n l)
unfolding load_with
load_numbered n l = go (wrong_in n l)
  where
    go : (o : Option ℕ) → Numbered (unless_wrong o (table_in n l))
    go None = tt
    go (Some p) = plain 11 p (λ e. omega arith) (λ e. omega arith)

room_numbered : (b : Bool) (n : ℕ) → Numbered (pick b (Ok n) (Err (refusal 13 0)))
room_numbered true n = tt
room_numbered false n = plain 13 0 (λ e. omega arith) (λ e. omega arith)

-- R84: a buffer's
pub store_numbered : (room : ℕ) → Numbered (store_of room)
unfolding store_of
store_numbered room = room_numbered (leb (size 16) room) (size 16)

-- R59: the writer's
pub write_numbered : (t : Table) (q : Request) (room : ℕ) → Numbered (write_of t q room)
unfolding length_of
write_numbered t q room = go (lowest_of is_waiting t.slots)
  where
    go : (o : Option ℕ) → Numbered (unless_waiting o (pick (leb (length (card_of t q)) room) (Ok (length (card_of t q))) (Err (refusal 13 0))))
    go (Some k) = plain 3 k (λ e. omega arith) (λ e. omega arith)
    go None = room_numbered (leb (length (card_of t q)) room) (length (card_of t q))

-- ---- reader

-- R57: the reader's
pub read_numbered : (n : ℕ) (l : List ℕ) → Numbered (read_with n l)
read_numbered n l = go (read_with n l) (read_refuses n l)
  where
    go : (s : Said Card) → Refuses s → Numbered s
    go (Ok c) h = tt
    go (Err x) h = subst (λ (y : Refusal). Numbered {A = Card} (Err y)) (sym h) (plain 11 x.place (λ e. omega arith) (λ e. omega arith))

-- ---- what is put together of these

-- R62: a line's
pub put_numbered : (line l : List ℕ) → Numbered (put_of line l)
put_numbered line l = go (fits line l)
  where
    go : (b : Bool) → Numbered (said_put (pick b (Some (length line)) None))
    go true = tt
    go false = plain 13 0 (λ e. omega arith) (λ e. omega arith)

-- R65: a card's that is written anew
pub rewrite_numbered : (card : List ℕ) (room : ℕ) → Numbered (rewrite_of card room)
rewrite_numbered card room = go (read_of card) (read_numbered 16 card)
  where
    go : (s : Said Card) → Numbered s → Numbered (rewrite_for s room)
    go (Ok c) h = write_numbered c.table c.request room
    go (Err x) h = h

then_numbered : (s : Said (Option ℕ)) (r : Said ℕ) → Numbered s → Numbered r → Numbered (and_then s r)
then_numbered (Ok o) (Ok n) h k = tt
then_numbered (Ok o) (Err x) h k = k
then_numbered (Err x) r h k = h

ticks_numbered : (n : ℕ) (t : Table) → Numbered (ticks_run n t)
unfolding ticks_run
ticks_numbered zero t = tt
ticks_numbered (suc n) t = then_numbered ((step_of t).answer) (ticks_run n (step_of t).table) (step_numbered t) (ticks_numbered n (step_of t).table)

-- R66: a run's
pub run_numbered : (card : List ℕ) (ticks : ℕ) → Numbered (run_of card ticks)
run_numbered card ticks = go (read_of card) (read_numbered 16 card)
  where
    admitted : (t : Table) (q : Request) (a : Said ℕ) → Numbered a → Numbered (run_admitted ticks (admit_with t q a))
    admitted t q (Ok r) h = ticks_numbered ticks (admit_with t q (Ok r)).table
    admitted t q (Err x) h = h

    go : (s : Said Card) → Numbered s → Numbered (run_for ticks s)
    go (Ok c) h = admitted c.table c.request (ask_of c.table c.request) (ask_numbered c.table c.request)
    go (Err x) h = h

-- R91: a table's that is written as a card
pub card_numbered : (l : List ℕ) (q : Request) (room : ℕ) → Numbered (write_card_for (load_of l) q room)
card_numbered l q room = go (load_of l) (load_numbered 16 l)
  where
    go : (s : Said Table) → Numbered s → Numbered (write_card_for s q room)
    go (Ok t) h = write_numbered t q room
    go (Err x) h = h

-- R92: a card's that is read as a table
pub image_numbered : (card : List ℕ) (room : ℕ) → Numbered (read_card_for (read_of card) room)
image_numbered card room = go (read_of card) (read_numbered 16 card)
  where
    go : (s : Said Card) → Numbered s → Numbered (read_card_for s room)
    go (Ok c) h = store_numbered room
    go (Err x) h = h
