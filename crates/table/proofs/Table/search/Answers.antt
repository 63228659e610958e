use Rattle.std.proofs.Common.{◌∙◌, sym, arith}
use Rattle.line.proofs.Search.{lowest_found, none_found}
use Rattle.table.proofs.Table.search.Goals as goal

pub returns-then-test : goal.returns-then-test
returns-then-test g c =
    λ p h. sym (lowest_found _ _ (omega arith) (sym (h _ _ (omega arith) c.test.ensures) ∙ c.if-test.true) (λ k l. sym (h k _ (omega arith) (c.loop-i.invariant k l))))

pub returns : goal.returns
returns g c =
    λ p h. sym (none_found _ _ (λ k l. sym (h k _ (omega arith) (c.loop-i.invariant k (omega arith)))))
