-- The first demand: every input has one fixed answer, R71, and a refusal changes no table and no lent byte, R17.
use Rattle.std.specs.Prelude.{Ok, Err, ◌≡◌, List, ℕ, ◌≤◌, length, Option, None}
use Rattle.table.specs.Words.{Said}
use Rattle.table.specs.declared.Table.{Table}
use Rattle.table.specs.declared.Request.{Request}
use Rattle.table.specs.declared.Refusal.{Refusal}
use Rattle.table.specs.declared.Acted.{Acted}
use Rattle.table.specs.Words.{empty_table}
use Rattle.table.specs.Grounds.{grounds, FirstOf, Answers}
use Rattle.table.specs.Ask.{ask_of}
use Rattle.table.specs.Step.{step_of}
use Rattle.table.specs.Leave.{leave_of}
use Rattle.board.specs.Board.{ReadyWord, blinks}
use Rattle.ask.specs.Asked.{Asked}
use Rattle.admit.specs.Admits.{Admits}
use Rattle.card.specs.declared.ReadCard.{ReadCard}
use Rattle.card.specs.declared.Reading.{Reading}
use Rattle.card.specs.Reading.{read_of}
use Rattle.card.specs.Answers.{said_read, zero_request}
use Rattle.reply.specs.Line.{answer_line, Replied}
use Rattle.image.specs.declared.Loaded.{Loaded}
use Rattle.image.specs.Loading.{load_of}
use Rattle.image.specs.Answers.{said_loaded, store_of}
use Rattle.calls.specs.declared.Returned.{Returned}
use Rattle.calls.specs.Cards.{line_for, put_of, rewrite_of, run_of}
use Rattle.calls.specs.Tables.{all_counts}
use Rattle.calls.specs.Moves.{write_card_for, read_card_for}
use Rattle.promises.specs.Operations.{Steps, LetsGo, Drives, TriesRead, Reads, Writes, Puts, TriesLoad, Loads, Stores, AnswersCard, Rewrites, RunsCard, Empties, AsksImage, AdmitsImage, StepsImage, LetsGoImage, ReadiesImage, CountsImage, WritesImage, ReadsImage}

-- ---- one fixed answer

-- any two that P allows are equal
abbrev pub One {ℓ} : {A : Type ℓ} → (A → Type 0) → Type ℓ
One {A = A} P = (x y : A) → P x → P y → x ≡ y

-- any two pairs that P allows are equal: an answer, and what a lent table or buffer holds then
abbrev pub Both : {A B : Type 0} → (A → B → Type 0) → Type 0
Both {A = A} {B = B} P = (x y : A) (m n : B) → P x m → P y n → (x ≡ y) × (m ≡ n)

-- the same of an answer and two lent things
abbrev pub Three : {A B C : Type 0} → (A → B → C → Type 0) → Type 0
Three {A = A} {B = B} {C = C} P = (x y : A) (m n : B) (k l : C) → P x m k → P y n l → (x ≡ y) × (m ≡ n) × (k ≡ l)

-- R71: for every input, operation by operation. Every function is proved to end, so an answer there is; ask's relation is also shown to be met.
pub record FixedAnswer : Type 0 where
  pub ask_met : (t : Table) (q : Request) → (a : Said ℕ) × Answers t q a
  pub ask_said : (t : Table) (q : Request) → One (Answers t q)
  pub ask : (t : Table) (q : Request) → One (Asked t q)
  pub admit : (t : Table) (q : Request) → One (Admits t q)
  pub step : (t : Table) → One (Steps t)
  pub leave : (t : Table) (n : ℕ) → One (LetsGo t n)
  pub drive : (t : Table) → Both (Drives t)
  pub ready_word : (t : Table) → One (ReadyWord t.slots)
  pub lamp : (n : ℕ) → One (λ (b : ℕ). b ≡ blinks n)
  pub try_read : (card : List ℕ) → One (TriesRead card)
  pub read : (card : List ℕ) → One (Reads card)
  pub write : (t : Table) (q : Request) (l : List ℕ) → Both (Writes t q l)
  pub reply_to : (a : Said ℕ) → One (Replied (answer_line a))
  pub put_reply : (a : Said ℕ) (l : List ℕ) → Both (Puts a l)
  pub answer_card : (card l : List ℕ) → Both (AnswersCard card l)
  pub rewrite_card : (card l : List ℕ) → Both (Rewrites card l)
  pub run_card : (card : List ℕ) (ticks : ℕ) → One (RunsCard card ticks)
  pub try_load : (l : List ℕ) → One (TriesLoad l)
  pub load : (l : List ℕ) → One (Loads l)
  pub store : (t : Table) (l : List ℕ) → Both (Stores t l)
  pub empty_image : (l : List ℕ) → Both (Empties l)
  pub ask_image : (l : List ℕ) (q : Request) → One (AsksImage l q)
  pub admit_image : (l : List ℕ) (q : Request) → Both (AdmitsImage l q)
  pub step_image : (l : List ℕ) → Both (StepsImage l)
  pub leave_image : (l : List ℕ) (n : ℕ) → Both (LetsGoImage l n)
  pub ready_image : (l : List ℕ) → One (ReadiesImage l)
  pub counts_image : (l ns : List ℕ) → Both (CountsImage l ns)
  pub write_image : (l : List ℕ) (q : Request) (out : List ℕ) → Both (WritesImage l q out)
  pub read_image : (card l ns : List ℕ) → Three (ReadsImage card l ns)

-- ---- what a refusal keeps

-- R17: operation by operation, of any answer that the contract allows and that refuses. Over the boundary a refusal is a number that is not 0.
pub record RefusalKeeps : Type 0 where
  -- ask's refusal is the first ground's, and admit then hands back the same table with the same refusal
  pub ask : (t : Table) (q : Request) (a : Said ℕ) (x : Refusal) → Asked t q a → a ≡ Err x
      → FirstOf grounds t q x × ((m : Acted ℕ) → Admits t q m → (m.answer ≡ Err x) × (m.table ≡ t))
  pub admit : (t : Table) (q : Request) (m : Acted ℕ) (x : Refusal) → Admits t q m → m.answer ≡ Err x
      → FirstOf grounds t q x × (m.table ≡ t)
  pub step : (t : Table) (s : Acted (Option ℕ)) (x : Refusal) → Steps t s → s.answer ≡ Err x → s.table ≡ t
  pub leave : (t : Table) (n : ℕ) (r : Acted ℕ) (x : Refusal) → LetsGo t n r → r.answer ≡ Err x → r.table ≡ t
  pub drive : (t : Table) (o : Said (Option ℕ)) (u : Table) (x : Refusal) → Drives t o u → o ≡ Err x → u ≡ t
  -- the reader is lent nothing to change: it hands out nothing beside the refusal, or the empty table, zeros and no slot
  pub try_read : (card : List ℕ) (s : Said Reading) (x : Refusal) → TriesRead card s → s ≡ Err x → read_of card ≡ Err x
  pub read : (card : List ℕ) (c : ReadCard) (x : Refusal) → Reads card c → said_read c ≡ Err x
      → (read_of card ≡ Err x) × (c.card.table ≡ empty_table) × (c.card.request ≡ zero_request) × (c.turned ≡ 0)
  pub write : (t : Table) (q : Request) (l : List ℕ) (a : Said ℕ) (m : List ℕ) (x : Refusal) → Writes t q l a m → a ≡ Err x → m ≡ l
  pub put_reply : (a : Said ℕ) (l : List ℕ) (w : Option ℕ) (m : List ℕ) → Puts a l w m → w ≡ None → m ≡ l
  -- loading is lent nothing to change either
  pub try_load : (l : List ℕ) (s : Said Table) (x : Refusal) → TriesLoad l s → s ≡ Err x → load_of l ≡ Err x
  pub load : (l : List ℕ) (y : Loaded) (x : Refusal) → Loads l y → said_loaded y ≡ Err x → (load_of l ≡ Err x) × (y.table ≡ empty_table)
  pub store : (t : Table) (l : List ℕ) (a : Said ℕ) (m : List ℕ) (x : Refusal) → Stores t l a m → a ≡ Err x → m ≡ l
  pub answer_card : (card l : List ℕ) (r : Returned) (m : List ℕ) → AnswersCard card l r m → (r.number ≡ 0 → ⊥) → m ≡ l
  pub rewrite_card : (card l : List ℕ) (r : Returned) (m : List ℕ) → Rewrites card l r m → (r.number ≡ 0 → ⊥) → m ≡ l
  pub empty_image : (l : List ℕ) (r : Returned) (m : List ℕ) → Empties l r m → (r.number ≡ 0 → ⊥) → m ≡ l
  pub admit_image : (l : List ℕ) (q : Request) (r : Returned) (m : List ℕ) → AdmitsImage l q r m → (r.number ≡ 0 → ⊥) → m ≡ l
  pub step_image : (l : List ℕ) (r : Returned) (m : List ℕ) → StepsImage l r m → (r.number ≡ 0 → ⊥) → m ≡ l
  pub leave_image : (l : List ℕ) (n : ℕ) (r : Returned) (m : List ℕ) → LetsGoImage l n r m → (r.number ≡ 0 → ⊥) → m ≡ l
  pub counts_image : (l ns : List ℕ) (r : Returned) (m : List ℕ) → CountsImage l ns r m → (r.number ≡ 0 → ⊥) → m ≡ ns
  pub write_image : (l : List ℕ) (q : Request) (out : List ℕ) (r : Returned) (m : List ℕ) → WritesImage l q out r m → (r.number ≡ 0 → ⊥) → m ≡ out
  pub read_image : (card l ns : List ℕ) (r : Returned) (m n : List ℕ) → ReadsImage card l ns r m n → (r.number ≡ 0 → ⊥) → (m ≡ l) × (n ≡ ns)

-- ---- grants and refusals told apart

-- R63: operation by operation, a result whose number is 0 is a grant
pub record ToldApart : Type 0 where
  pub answer_card : (card l : List ℕ) (r : Returned) (m : List ℕ) → AnswersCard card l r m → r.number ≡ 0 → (n : ℕ) × (put_of (line_for card) l ≡ Ok n)
  pub rewrite_card : (card l : List ℕ) (r : Returned) (m : List ℕ) → Rewrites card l r m → r.number ≡ 0 → (n : ℕ) × (rewrite_of card (length l) ≡ Ok n)
  pub run_card : (card : List ℕ) (ticks : ℕ) (r : Returned) → RunsCard card ticks r → r.number ≡ 0 → (n : ℕ) × (run_of card ticks ≡ Ok n)
  pub empty_image : (l : List ℕ) (r : Returned) (m : List ℕ) → Empties l r m → r.number ≡ 0 → (n : ℕ) × (store_of (length l) ≡ Ok n)
  pub ask_image : (l : List ℕ) (q : Request) (r : Returned) → AsksImage l q r → r.number ≡ 0
      → (t : Table) × (load_of l ≡ Ok t) × ((s : ℕ) × (ask_of t q ≡ Ok s))
  pub admit_image : (l : List ℕ) (q : Request) (r : Returned) (m : List ℕ) → AdmitsImage l q r m → r.number ≡ 0
      → (t : Table) × (load_of l ≡ Ok t) × ((s : ℕ) × (ask_of t q ≡ Ok s))
  pub step_image : (l : List ℕ) (r : Returned) (m : List ℕ) → StepsImage l r m → r.number ≡ 0
      → (t : Table) × (load_of l ≡ Ok t) × ((o : Option ℕ) × ((step_of t).answer ≡ Ok o))
  pub leave_image : (l : List ℕ) (n : ℕ) (r : Returned) (m : List ℕ) → LetsGoImage l n r m → r.number ≡ 0
      → (t : Table) × (load_of l ≡ Ok t) × ((k : ℕ) × ((leave_of t n).answer ≡ Ok k))
  pub ready_image : (l : List ℕ) (r : Returned) → ReadiesImage l r → r.number ≡ 0 → (t : Table) × (load_of l ≡ Ok t)
  pub counts_image : (l ns : List ℕ) (r : Returned) (m : List ℕ) → CountsImage l ns r m → r.number ≡ 0 → (t : Table) × (load_of l ≡ Ok t) × (m ≡ all_counts t)
  pub write_image : (l : List ℕ) (q : Request) (out : List ℕ) (r : Returned) (m : List ℕ) → WritesImage l q out r m → r.number ≡ 0
      → (n : ℕ) × (write_card_for (load_of l) q (length out) ≡ Ok n)
  pub read_image : (card l ns : List ℕ) (r : Returned) (m n : List ℕ) → ReadsImage card l ns r m n → r.number ≡ 0
      → (k : ℕ) × (read_card_for (read_of card) (length l) ≡ Ok k)

-- ---- who says a tick and an excess

-- R103: a number, a tick and an excess: with 10 the excess is above 0, and with any other number, 0 too, both are 0
pub record OnlyTen (number tick excess : ℕ) : Type 0 where
  pub ten : number ≡ 10 → 1 ≤ excess
  pub others : (number ≡ 10 → ⊥) → (tick ≡ 0) × (excess ≡ 0)

-- R63, R103: those of a result
abbrev pub TensOf : Returned → Type 0
TensOf r = OnlyTen r.number r.tick r.excess

-- R103: operation by operation, of any result that the contract allows
pub record TenAlone : Type 0 where
  pub ask : (t : Table) (q : Request) (x : Refusal) → Answers t q (Err x) → OnlyTen x.number x.tick x.excess
  pub answer_card : (card l : List ℕ) (r : Returned) (m : List ℕ) → AnswersCard card l r m → TensOf r
  pub rewrite_card : (card l : List ℕ) (r : Returned) (m : List ℕ) → Rewrites card l r m → TensOf r
  pub run_card : (card : List ℕ) (ticks : ℕ) (r : Returned) → RunsCard card ticks r → TensOf r
  pub empty_image : (l : List ℕ) (r : Returned) (m : List ℕ) → Empties l r m → TensOf r
  pub ask_image : (l : List ℕ) (q : Request) (r : Returned) → AsksImage l q r → TensOf r
  pub admit_image : (l : List ℕ) (q : Request) (r : Returned) (m : List ℕ) → AdmitsImage l q r m → TensOf r
  pub step_image : (l : List ℕ) (r : Returned) (m : List ℕ) → StepsImage l r m → TensOf r
  pub leave_image : (l : List ℕ) (n : ℕ) (r : Returned) (m : List ℕ) → LetsGoImage l n r m → TensOf r
  pub ready_image : (l : List ℕ) (r : Returned) → ReadiesImage l r → TensOf r
  pub counts_image : (l ns : List ℕ) (r : Returned) (m : List ℕ) → CountsImage l ns r m → TensOf r
  pub write_image : (l : List ℕ) (q : Request) (out : List ℕ) (r : Returned) (m : List ℕ) → WritesImage l q out r m → TensOf r
  pub read_image : (card l ns : List ℕ) (r : Returned) (m n : List ℕ) → ReadsImage card l ns r m n → TensOf r
