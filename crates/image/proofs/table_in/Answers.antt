-- `table_in`: its parts are the callees', and the last slot is a byte of the image.
use mathlib.Core.Path.{◌≡◌, ap, ◌∙◌}
use lib.ListN.{drop}
use Rattle.card.proofs.Parts.{part_all}
use Rattle.image.specs.Loading.{slots_in, counts_in}
use Rattle.image.proofs.table_in.Goals as goal

pub returns : goal.returns
returns c =
    let l = c.args.image.now in
    let s : c.pieces_in-2.result ≡ slots_in 16 (drop 9 l) = c.pieces_in-2.ensures ∙ ap (slots_in 16) (part_all l 9) in
    let h : c.pieces_in.result ≡ counts_in 16 (drop 153 l) = c.pieces_in.ensures ∙ ap (counts_in 16) (part_all l 153) in
    rw (c.new.ensures, c.eight_at-3.ensures, s, h, c.eight_at.ensures, c.eight_at-2.ensures)
