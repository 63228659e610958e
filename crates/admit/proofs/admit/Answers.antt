-- `admit` meets its contract: a start is admitted, a refusal leaves the table.
use Prim.Native.Nat.{ℕ}
use mathlib.Core.Path.{ap, sym, ◌∙◌}
use Rattle.table.specs.Words.{Said}
use Rattle.table.specs.Admit.{admit_with}
use Rattle.admit.proofs.Placing.{admit_says}
use Rattle.admit.proofs.Right.{admits}
use Rattle.admit.proofs.admit.Goals as goal

pub admitted-table-requires : goal.admitted-table-requires
admitted-table-requires c = rw c.in-Ok.is at c.ask-answer.ensures.1

pub returns-in-Ok : goal.returns-in-Ok
returns-in-Ok c =
    let x = c.args in
    rw (← c.in-Ok.is)
    (admits x.t x.q c.ask-answer.ensures.0 (admit_says x.t x.q (c.admitted-table.ensures ∙ ap (λ (a : Said ℕ). (admit_with x.t x.q a).table) (sym c.in-Ok.is))))

pub returns-in-Err : goal.returns-in-Err
returns-in-Err c =
    let x = c.args in
    admits x.t x.q c.ask-answer.ensures.0 (admit_says x.t x.q (ap (λ (a : Said ℕ). (admit_with x.t x.q a).table) (sym c.in-Err.is)))
