-- The computed answer is the one that the rules fix, by the theory; and two answers that ask's contract allows are equal.
use Prim.Native.Nat.{ℕ}
use Rattle.table.specs.Words.{Said}
use mathlib.Core.Path.{◌≡◌, sym, ◌∙◌}
use Rattle.table.specs.declared.Table.{Table}
use Rattle.table.specs.declared.Request.{Request}
use Rattle.table.specs.Ask.{ask_of}
use Rattle.theory.proofs.Answers.{ask_answers}
use Rattle.ask.specs.Asked.{Asked}

-- R41: what is computed is right
pub asked : (t : Table) (q : Request) {a : Said ℕ} → a ≡ ask_of t q → Asked t q a
asked t q e = record { answers = rw e (ask_answers t q); computed = e }

-- R41, R71: ask has one answer
pub asked_unique : (t : Table) (q : Request) (a b : Said ℕ) → Asked t q a → Asked t q b → a ≡ b
asked_unique t q a b p r = p.computed ∙ sym r.computed
