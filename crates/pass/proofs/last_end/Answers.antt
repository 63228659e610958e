use mathlib.Core.Path.{ap, sym, ◌∙◌}
use Prim.Native.Nat.{ℕ}
use Rattle.std.specs.Prelude.{Option}
use Rattle.std.specs.Option.{unwrap_or}
use Rattle.std.proofs.lemmas.Iterator.Adapters.{option_map_id}
use Rattle.std.proofs.lemmas.Iterator.{YieldsList-from_slice}
use Rattle.std.proofs.lemmas.Iterator.Consumers.{YieldsList-from_copied, max_from_yields_List}
use Rattle.pass.proofs.LastEnd.{greatest_is}
use Rattle.pass.proofs.last_end.Goals as goal

pub returns : goal.returns
returns c =
    let road = YieldsList-from_copied (YieldsList-from_slice c.args.ends.now cc) in
    let most = sym (option_map_id _) ∙ max_from_yields_List c.copied.result _ c.max.ensures.ran road in
    c.unwrap_or.ensures ∙ ap (λ (o : Option ℕ). unwrap_or o 0) most ∙ greatest_is _
