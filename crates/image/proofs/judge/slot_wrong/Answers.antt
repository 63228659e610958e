-- `slot_wrong`: the search is the one of `searched`.
use Prim.Native.Nat.{ℕ}
use mathlib.Core.Path.{◌≡◌, ap, ◌∙◌}
use borrow.Author.Rules.{rules}
use borrow.Author.Tests.{tests}
use Rattle.std.proofs.lemmas.Iterator.{first_from_Range}
use Rattle.image.specs.Loading.{byte, blank_from}
use Rattle.image.proofs.Judging.{no_first, first_is, none_there, searched}
use Rattle.image.proofs.judge.slot_wrong.Goals as goal

pub returns-in_err-kind : goal.returns-in_err-kind
returns-in_err-kind c = c.from_residual.ensures ∙ none_there c.args.s.now (no_first c.args.s.now c.in_err-kind.ensures.value)

pub returns : goal.returns
returns c =
    let l = c.args.s.now in
    searched l c.find.result (c.blank_from.ensures.0 ∙ ap blank_from (first_is l c.in_ok-kind.ensures.value)) c.min.ensures
    (first_from_Range _ _ _ c.find.result (λ (i : ℕ). byte l i ≡ 0 → ⊥) (λ (i : ℕ). byte l i ≡ 0) c.find.ensures.ran (λ x q k. search (rules, tests)) (λ x q k. search (rules, tests)))
