-- `put_image`: the slots go behind the version and the clock, the counts behind the slots, each where the one before ends, and the last slot behind all.
use mathlib.Core.Path.{◌≡◌, refl, sym, ap, ◌∙◌}
use mathlib.Core.List.{◌∷◌, ◌++◌}
use native.Mathlib.Omega.{arith}
use lib.ListN.{length, length-append}
use Rattle.card.specs.Bytes.{le}
use Rattle.card.proofs.Parts.{put_at_lem}
use Rattle.image.specs.Image.{version, slots_bytes, counts_bytes, image_of}
use Rattle.image.proofs.ReadsBack.{length_slots, length_counts}
use Rattle.image.proofs.Stored.{stored_is, stored_length}
use Rattle.image.proofs.Filling.{put_byte}
use Rattle.image.proofs.put_image.Goals as goal

pub returns : goal.returns
unfolding image_of
returns c =
    let a = c.args in
    let front = version ∷ le 8 a.t.clock in
    let slots = slots_bytes a.t.slots in
    let counts = counts_bytes a.t.had in
    let idle = le 8 a.t.idle in
    let departed = le 8 a.t.departed in
    let h : length a.t.slots ≡ 16 = c.well_formed.0.1.1.1.0.1.0.1 in
    let g : length a.t.had ≡ 16 = c.well_formed.0.1.1.1.1.0.1.0.1 in
    let ls : length slots ≡ 144 = omega (arith, length_slots a.t.slots) in
    let lc : length counts ≡ 128 = omega (arith, length_counts a.t.had) in
    let lsc : length (slots ++ counts) ≡ 272 = omega (arith, length-append slots counts) in
    let lsci : length (slots ++ counts ++ idle) ≡ 280 = omega (arith, length-append (slots ++ counts) idle) in
    put_byte a.out.now (front ++ slots ++ counts ++ idle ++ departed) a.t.last 297
    (put_at_lem a.out.now _ (front ++ slots ++ counts ++ idle) departed c.put_eight-2.new.out 289 8
    (put_at_lem a.out.now _ (front ++ slots ++ counts) idle c.put_eight.new.out 281 8
    (put_at_lem a.out.now _ (front ++ slots) counts c.put_pieces-2.new.out 153 128
    (put_at_lem a.out.now c.put_nine.new.out front slots c.put_pieces.new.out 9 144 c.put_nine.ensures refl ls c.put_pieces.ensures)
    (omega arith) lc c.put_pieces-2.ensures)
    (omega arith) refl c.put_eight.ensures)
    (omega arith) refl c.put_eight-2.ensures)
    (omega (arith, length-append (slots ++ counts ++ idle) departed)) (omega arith)

pub shape_of-out : goal.shape_of-out
shape_of-out c =
    let a = c.args in
    let h : length a.t.slots ≡ 16 = c.well_formed.0.1.1.1.0.1.0.1 in
    let g : length a.t.had ≡ 16 = c.well_formed.0.1.1.1.1.0.1.0.1 in
    ap length (returns c ∙ sym (stored_is a.t a.out.now (omega arith))) ∙ stored_length a.t a.out.now h g (omega arith)
