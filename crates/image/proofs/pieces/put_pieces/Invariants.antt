-- `put_pieces`: the loop keeps `Put`; each goes into the part at its offset.
use Rattle.image.proofs.Filling.{Put}
use Rattle.image.proofs.pieces.put_pieces.Given as goal

abbrev pub invariant-loop-k : goal.invariant-loop-k
invariant-loop-k g l = Put g.T.Piece.WIDTH g.T.Piece.bytes_of 16 l.initial.out l.x-items l.out l.k
