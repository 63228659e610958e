-- `get`: the kind says which of the numbers make a line.
use mathlib.Core.Path.{ap, ◌∙◌}
use native.Mathlib.Omega.{arith}
use Rattle.line.specs.declared.Follows.TheVariants.{Renews, Leaves}
use Rattle.line.specs.Slots.{holding}
use Rattle.image.proofs.Eight.{running_in, waiting_in, nothing_in}
use Rattle.image.proofs.fields.SlotPiece.get.Goals as goal

pub returns-in-1 : goal.returns-in-1
returns-in-1 c =
    c.holding.ensures ∙ ap holding c.running.ensures
    ∙ running_in _ (λ i. (c.type_inv.s i).fits) c.eight_at-v.ensures Renews (omega arith) c.lowest-first.ensures c.lowest-second.ensures c.lowest-third.ensures c.lowest-fourth.ensures

pub returns-in-2 : goal.returns-in-2
returns-in-2 c =
    c.holding-in-2.ensures ∙ ap holding c.waiting.ensures
    ∙ waiting_in _ (λ i. (c.type_inv.s i).fits) c.eight_at-v.ensures (omega arith) c.lowest-first.ensures c.lowest-second.ensures c.lowest-third.ensures

pub returns-in-3 : goal.returns-in-3
returns-in-3 c =
    c.holding-in-3.ensures ∙ ap holding c.running-in-3.ensures
    ∙ running_in _ (λ i. (c.type_inv.s i).fits) c.eight_at-v.ensures Leaves (omega arith) c.lowest-first.ensures c.lowest-second.ensures c.lowest-third.ensures c.lowest-fourth.ensures

pub returns-in_default : goal.returns-in_default
returns-in_default c =
    c.empty.ensures ∙ nothing_in c.args.s.now (λ e. omega arith) (λ e. omega arith) (λ e. omega arith)
