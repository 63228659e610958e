-- With ask's answer the table that belongs to it is right; and two answers that admit's contract allows are equal, and so are their tables.
use Prim.Native.Nat.{ℕ}
use Rattle.std.specs.Prelude.{Ok, Err}
use Rattle.table.specs.Words.{Said}
use mathlib.Core.Path.{◌≡◌, refl, sym, ap, ◌∙◌}
use Rattle.table.specs.declared.Table.{Table}
use Rattle.table.specs.declared.Request.{Request}
use Rattle.table.specs.declared.Acted.{Acted}
use Rattle.table.specs.Admit.{admit_with}
use Rattle.ask.specs.Asked.{Asked}
use Rattle.admit.specs.Admits.{Admits}

-- R42: the answer is ask's
pub admitted_answer : (t : Table) (q : Request) (a : Said ℕ) → (admit_with t q a).answer ≡ a
admitted_answer t q (Ok r) = refl
admitted_answer t q (Err x) = refl

-- R42: what is made of ask's answer is right
pub admits : (t : Table) (q : Request) {a : Said ℕ} {r : Acted ℕ} → Asked t q a → r ≡ admit_with t q a → Admits t q r
admits t q {a} p e =
    record { answers = rw (ap (λ (r : Acted ℕ). r.answer) e ∙ admitted_answer t q a) p.answers; computed = e ∙ ap (admit_with t q) p.computed }

-- R42, R71: admit has one answer and one table
pub admits_unique : (t : Table) (q : Request) (a b : Acted ℕ) → Admits t q a → Admits t q b → a ≡ b
admits_unique t q a b p r = p.computed ∙ sym r.computed
