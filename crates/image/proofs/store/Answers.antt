-- `store`: refused, or written whole.
use native.Mathlib.Omega.{arith}
use Rattle.image.proofs.Filling.{store_short, store_whole}
use Rattle.image.proofs.store.Goals as goal

pub returns-then-out-lt-SIZE : goal.returns-then-out-lt-SIZE
returns-then-out-lt-SIZE c =
    let a = c.args in
    store_short a.t a.out.now _ c.new.ensures (omega arith)

pub returns : goal.returns
returns c =
    let a = c.args in
    store_whole a.t a.out.now _ (omega arith) c.put_image.ensures
