use mathlib.Core.Path.{ap}
use Prim.Native.Nat.{ℕ, ◌*◌}
use native.Mathlib.Omega.{arith}
use Rattle.image.proofs.Filling.{put_on}
use Rattle.image.proofs.pieces.put_pieces.Goals as goal

pub loop-k-preserved : goal.loop-k-preserved
loop-k-preserved g c =
    let q = c.loop-k in
    put_on q.invariant (omega arith) c.x-item.result g.met.T.Piece.wide (ap (λ (w : ℕ). w * q.k) c.WIDTH.ensures) c.put.ensures c.put.auto.out
