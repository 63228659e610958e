use Prim.Native.Nat.{ℕ, ◌*◌, ◌+◌}
use mathlib.Core.Path.{◌≡◌, refl, sym, ◌∙◌}
use lib.ListN.{drop}
use borrow.Author.Rules.{rules}
use Rattle.std.specs.Prelude.{None}
use Rattle.std.proofs.lemmas.Iterator.{cases_from_all, YieldsList-from_range}
use Rattle.image.specs.Loading.{slot_wrong}
use Rattle.image.proofs.Judging.{part_wrong, all_right}
use Rattle.image.proofs.judge.slots_right.Goals as goal

pub returns : goal.returns
returns c t =
    all_right 16 c.args.image.now _ t
    (cases_from_all _ _ c.all.result (λ (k : ℕ). slot_wrong (drop (9 + 9 * k) c.args.image.now) ≡ None) (λ (k : ℕ). Unit {0}) c.all.ensures.ran (YieldsList-from_range 0 16 16 refl refl)
    (λ x q k. (search rules, sym (part_wrong c.args.image.now (9 + 9 * x)) ∙ search rules)) (λ x q k. tt))
