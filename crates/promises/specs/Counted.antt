-- Every tick is accounted for, R79, over all runs from the empty table.
use Rattle.std.specs.Prelude.{ℕ, ◌<◌, ◌≡◌, false, List, [], ◌∷◌}
use Rattle.line.specs.Slots.{at, is_nothing}
use Rattle.table.specs.declared.Table.{Table}
use Rattle.table.specs.declared.Request.{Request}
use Rattle.table.specs.Words.{empty_table}
use Rattle.table.specs.Counts.{had_by, accounted}
use Rattle.table.specs.Runs.{Act, after, run, trace, names, times, idles, places, since}
use Rattle.promises.specs.Demand3.{Admission, admitted_table}

-- R79: what the list of slots that ran says of the counts after a run
pub record AccountedFor (acts : List Act) : Type 0 where
  -- the count of a slot is how often the list names it since its present line was admitted, and 0 where it has none
  pub each : (k : ℕ) → k < 16 → had_by (run acts empty_table) k ≡ times k (since k acts)
  -- the idle count is how often it names none
  pub idle : (run acts empty_table).idle ≡ idles (trace acts empty_table)
  -- all of them, the departed one too, are the clock
  pub all : accounted (run acts empty_table) ≡ (run acts empty_table).clock

-- R79: after any run
abbrev pub EveryTickAccountedFor : Type 0
EveryTickAccountedFor = (acts : List Act) → AccountedFor acts

-- R79: no act of a run puts a line into slot k
abbrev pub Unplaced : ℕ → List Act → Table → Type 0
Unplaced k [] t = Unit {0}
Unplaced k (a ∷ rest) t = (names k (places a t) ≡ false) × Unplaced k rest (after a t)

-- R79: slot k holds a line after each act of a run
abbrev pub Occupied : ℕ → List Act → Table → Type 0
Occupied k [] t = Unit {0}
Occupied k (a ∷ rest) t = (is_nothing (at (after a t).slots k) ≡ false) × Occupied k rest (after a t)

-- R79: the count of a line that was admitted is how often the list names its slot from there on, as long as it is there
abbrev pub HadSinceAdmitted : Type 0
HadSinceAdmitted = (acts : List Act) (q : Request) (r k : ℕ) → Admission acts q r k
    → (more : List Act) → Occupied k more (admitted_table acts q)
    → had_by (run more (admitted_table acts q)) k ≡ times k (trace more (admitted_table acts q))

-- R79: a slot into which no line was put has had nothing
abbrev pub NothingHadBefore : Type 0
NothingHadBefore = (acts : List Act) (k : ℕ) → k < 16 → Unplaced k acts empty_table → had_by (run acts empty_table) k ≡ 0
