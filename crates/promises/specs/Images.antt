-- Runs over the boundary, R78: lent bytes that only admit, step and leave change are the image of the table that the same run comes to.
use Rattle.std.specs.Prelude.{Ok, ℕ, ◌^◌, ◌<◌, ◌≡◌, List, [], ◌∷◌, length, Option}
use Rattle.table.specs.declared.Table.{Table}
use Rattle.table.specs.declared.Request.{Request}
use Rattle.table.specs.Words.{empty_table, refusal, slot_number}
use Rattle.table.specs.Ask.{ask_of}
use Rattle.table.specs.Runs.{Act, asking, admitting, stepping, leaving, after, run}
use Rattle.image.specs.Image.{size, image_of, TableWidths}
use Rattle.image.specs.Loading.{load_of}
use Rattle.image.specs.Answers.{stored_in}
use Rattle.calls.specs.declared.Returned.{Returned}
use Rattle.calls.specs.Results.{granted_as, refused_as}
use Rattle.calls.specs.Tables.{asked_as, ask_for, after_admit, stepped_as, step_for, after_step, left_as, leave_for, after_leave}
use Rattle.promises.specs.Operations.{Empties, AdmitsImage, StepsImage, LetsGoImage}
use Rattle.promises.specs.Demand3.{Sixteen}

-- ---- what is done to lent bytes

-- R6: a request whose numbers have sixteen bits, as every request that can be handed in
abbrev pub NarrowRequest : Request → Type 0
NarrowRequest q = (q.need < 65536) × (q.period < 65536) × Sixteen q

-- R6, R73: the same of the request in an act
abbrev pub Narrowed : Act → Type 0
Narrowed (asking q) = NarrowRequest q
Narrowed (admitting q) = NarrowRequest q
Narrowed stepping = Unit {0}
Narrowed (leaving n) = Unit {0}

-- R6, R73: and of every act of a run
abbrev pub AllNarrowed : List Act → Type 0
AllNarrowed [] = Unit {0}
AllNarrowed (a ∷ rest) = Narrowed a × AllNarrowed rest

-- R86, R87, R88, R102: the lent bytes after an act over the boundary
abbrev pub image_by : Act → List ℕ → List ℕ
image_by (asking q) l = l
image_by (admitting q) l = after_admit (load_of l) q l
image_by stepping l = after_step (load_of l) l
image_by (leaving n) l = after_leave (load_of l) n l

-- R78: the lent bytes after one act and then the others, refused ones included
abbrev pub image_run : List Act → List ℕ → List ℕ
image_run [] l = l
image_run (a ∷ rest) l = image_run rest (image_by a l)

-- R85, R87, R88, R102: whatever the contracts allow, they leave these bytes
pub record LeftByContract : Type 0 where
  pub empty : (l : List ℕ) (r : Returned) (m : List ℕ) → Empties l r m → m ≡ stored_in empty_table l
  pub admit : (l : List ℕ) (q : Request) (r : Returned) (m : List ℕ) → AdmitsImage l q r m → m ≡ image_by (admitting q) l
  pub step : (l : List ℕ) (r : Returned) (m : List ℕ) → StepsImage l r m → m ≡ image_by stepping l
  pub leave : (l : List ℕ) (n : ℕ) (r : Returned) (m : List ℕ) → LetsGoImage l n r m → m ≡ image_by (leaving n) l

-- ---- what they are then

-- R85, R78: what a run begins with, whatever stood in the buffer before
abbrev pub EmptyImage : Type 0
EmptyImage = (l : List ℕ) → length l ≡ size 16 → stored_in empty_table l ≡ image_of empty_table

-- R78, R82: one act on the image of any table with the code's widths: the image of the table after it, which has the code's widths again
abbrev pub ActsAlike : Type 0
ActsAlike = (a : Act) (t : Table) → Narrowed a → TableWidths 16 t → (image_by a (image_of t) ≡ image_of (after a t)) × TableWidths 16 (after a t)

-- R86, R87, R88, R102: on the image of a table is answered what is answered on the table
abbrev pub AnswersAlike : Type 0
AnswersAlike = (t : Table) → TableWidths 16 t
    → ((q : Request) → ask_for (load_of (image_of t)) q ≡ asked_as t ((ask_of t q))) × (step_for (load_of (image_of t)) ≡ stepped_as t)
    × ((n : ℕ) → leave_for (load_of (image_of t)) n ≡ left_as t n)

-- R78: a run over the boundary
abbrev pub ImageRuns : Type 0
ImageRuns = (acts : List Act) → AllNarrowed acts → image_run acts (image_of empty_table) ≡ image_of (run acts empty_table)

-- R78, R82: whose bytes load at any time, as the table that the run comes to
abbrev pub ImageLoads : Type 0
ImageLoads = (acts : List Act) → AllNarrowed acts → load_of (image_run acts (image_of empty_table)) ≡ Ok (run acts empty_table)

-- ---- no missed period over the boundary

-- R74, R88: what is promised of a step r from the clock k: it names who ran, but at the last tick, and where its number is not 0 it is 15 at the last tick.
-- So it is never 14, nor 4, nor 11.
pub record UnfailingStep (k : ℕ) (r : Returned) : Type 0 where
  pub goes_on : k < 2 ^ 48 → (o : Option ℕ) × (r ≡ granted_as 0 (slot_number o))
  pub only_fifteen : (r.number ≡ 0 → ⊥) → (r ≡ refused_as (refusal 15 0)) × (k ≡ 2 ^ 48)
  pub at_the_last : k ≡ 2 ^ 48 → r ≡ refused_as (refusal 15 0)

-- R74, R78: of every step of a run over the boundary
abbrev pub NeverMissedOnImages : Type 0
NeverMissedOnImages = (acts : List Act) → AllNarrowed acts
    → UnfailingStep (run acts empty_table).clock (step_for (load_of (image_run acts (image_of empty_table))))
