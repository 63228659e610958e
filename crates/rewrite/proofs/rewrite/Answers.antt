-- `rewrite::rewrite` is safe: what is written lies within the buffer.
use Rattle.std.proofs.Common.{◌≤◌, arith, rules}
use Rattle.std.proofs.lemmas.List.{length-take}
use Rattle.calls.proofs.Theorems.{rewritten_fits}
use Rattle.rewrite.proofs.rewrite.Goals as goal

pub slice_bounds-write_all-end : goal.slice_bounds-write_all-end
slice_bounds-write_all-end g c =
    let fits : c.rewrite-r.result.value ≤ 208 = search (rules, rewritten_fits) in
    simp length-take (omega (arith, fits))
