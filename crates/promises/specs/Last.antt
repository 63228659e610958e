-- The last slot, R106 and R107: who ran goes on, over all runs from the empty table; and ask does not look at who ran last, of any table.
use Rattle.std.specs.Prelude.{Ok, ℕ, ◌^◌, ◌<◌, ◌≡◌, false, List, [], Some}
use Rattle.line.specs.Slots.{at, is_nothing}
use Rattle.table.specs.declared.Table.{Table}
use Rattle.table.specs.declared.Request.{Request}
use Rattle.table.specs.declared.Acted.{Acted}
use Rattle.table.specs.Words.{empty_table, with_last, Said}
use Rattle.table.specs.Grounds.{Answers}
use Rattle.table.specs.Step.{Earliest, step_of}
use Rattle.table.specs.Runs.{Act, stepping, after, run, trace}
use Rattle.ask.specs.Asked.{Asked}
use Rattle.admit.specs.Admits.{Admits}

-- R106: after the run `acts` a step gives its tick to slot k, and the line is not gone with it
pub record Got (acts : List Act) (k : ℕ) : Type 0 where
  pub ran : (step_of (run acts empty_table)).answer ≡ Ok (Some k)
  pub there : is_nothing (at (after stepping (run acts empty_table)).slots k) ≡ false

-- R106: the table after that step
abbrev pub ran_table : List Act → Table
ran_table acts = after stepping (run acts empty_table)

-- R106: whatever is done then, up to the next tick: if slot k is still owed and nobody owed has a sooner end, that tick is its too
abbrev pub WhoRanGoesOn : Type 0
WhoRanGoesOn = (acts : List Act) (k : ℕ) → Got acts k
    → (more : List Act) → trace more (ran_table acts) ≡ []
    → Earliest (Some k) (run more (ran_table acts)).slots → (run more (ran_table acts)).clock < 2 ^ 48
    → (step_of (run more (ran_table acts))).answer ≡ Ok (Some k)

-- R107: of two tables that differ in who ran last alone, by what the contracts of ask and admit allow
pub record AskIgnoresLast (t : Table) (k : ℕ) (q : Request) : Type 0 where
  pub answers : (a : Said ℕ) → Answers t q a → Answers (with_last t k) q a
  pub ask : (a b : Said ℕ) → Asked t q a → Asked (with_last t k) q b → a ≡ b
  pub admit : (m n : Acted ℕ) → Admits t q m → Admits (with_last t k) q n → (m.answer ≡ n.answer) × (with_last m.table k ≡ n.table)

-- R107: of any table and request
abbrev pub LastNotAsked : Type 0
LastNotAsked = (t : Table) (k : ℕ) (q : Request) → AskIgnoresLast t k q
