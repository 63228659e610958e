use mathlib.Core.List.{List}
use Prim.Native.Nat.{ℕ, ◌*◌}
use lib.ListN.{drop}
use Rattle.std.proofs.Common.{Bor}
use Rattle.image.proofs.Filling.{filled, made}
use Rattle.image.proofs.pieces.pieces_in.Goals as goal

pub returns : goal.returns
returns g c =
    let p = g.T.Piece in
    let e = c.from_fn.ensures.items in
    filled p.WIDTH 16 p.found c.args.s.now c.from_fn.result e.long
    (made e (λ f. f.0) (λ (s : Bor (List ℕ)) (k : ℕ). p.found (drop (p.WIDTH * k) s.now)) (λ f h k y m. m.met))
