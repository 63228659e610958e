-- A start has the lowest empty slot beside it.
use Prim.Native.Nat.{ℕ}
use mathlib.Core.Path.{sym, ap, ◌∙◌}
use Rattle.table.specs.Words.{Said, slot_number}
use Rattle.calls.specs.Results.{granted_as}
use Rattle.calls.specs.Tables.{asked_as}
use Rattle.calls.proofs.tables.asked.Goals as goal

pub returns-in-Ok : goal.returns-in-Ok
returns-in-Ok c =
    let t = c.args.t in
    c.granted.ensures ∙ ap (λ (k : ℕ). granted_as k c.in-Ok.start) (c.slot_number.ensures ∙ ap slot_number c.lowest.ensures)
    ∙ ap (λ (a : Said ℕ). asked_as t a) (sym c.in-Ok.is)
