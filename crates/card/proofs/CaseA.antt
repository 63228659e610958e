-- The card of case A, in the bytes that R59 prints.
use Rattle.std.specs.Prelude.{Ok, Err}
use mathlib.Core.Path.{◌≡◌, refl}
use mathlib.Core.List.{List, [], ◌∷◌, ◌++◌}
use Prim.Native.Nat.{ℕ}
use lib.ListN.{take}
use Rattle.table.specs.Cases.{case_a}
use Rattle.table.specs.Words.{refusal}
use Rattle.line.specs.Slots.{lowest}
use Rattle.card.specs.Bytes.{marked}
use Rattle.card.specs.Layout.{TA}
use Rattle.card.specs.Card.{card_of, carrying}
use Rattle.card.specs.Reading.{record_of, records_of, read_with, read_of}
use Rattle.card.specs.Twin.{turned_with, turned_of, twin_from, twin_with, twin_of}
use Rattle.card.specs.Answers.{length_of, write_of}

abbrev printed : List ℕ
printed =
    0x43 ∷ 0x4B ∷ 0x08 ∷ 0x00 ∷ 0x00 ∷ 0x00 ∷ 0x00 ∷ 0x00 ∷ 0x00 ∷ 0x00 ∷
    0x54 ∷ 0x42 ∷ 0x08 ∷ 0x00 ∷ 0x10 ∷ 0x00 ∷ 0x20 ∷ 0x00 ∷ 0x08 ∷ 0x00 ∷ 0x00 ∷ 0x00 ∷
    0x54 ∷ 0x42 ∷ 0x08 ∷ 0x00 ∷ 0x10 ∷ 0x00 ∷ 0x10 ∷ 0x00 ∷ 0x08 ∷ 0x00 ∷ 0x08 ∷ 0x00 ∷
    0x52 ∷ 0x51 ∷ 0x01 ∷ 0x00 ∷ 0x04 ∷ 0x00 ∷ []

-- R59: case A is written as printed
pub case_a_written : card_of case_a.table case_a.request ≡ printed
unfolding card_of
case_a_written = refl

-- R56: and what is printed reads as case A
pub case_a_read : read_of printed ≡ Ok (carrying case_a.table case_a.request)
unfolding read_with records_of record_of marked
case_a_read = refl

-- R58, R72: case A as the third generation wrote it, and what the tool makes of it
abbrev printed_old : List ℕ
printed_old =
    0x43 ∷ 0x4B ∷ 0x08 ∷ 0x00 ∷ 0x00 ∷ 0x00 ∷ 0x00 ∷ 0x00 ∷ 0x00 ∷ 0x00 ∷
    0x54 ∷ 0x41 ∷ 0x08 ∷ 0x00 ∷ 0x10 ∷ 0x00 ∷ 0x20 ∷ 0x00 ∷ 0x00 ∷ 0x00 ∷ 0x08 ∷ 0x00 ∷
    0x54 ∷ 0x41 ∷ 0x08 ∷ 0x00 ∷ 0x10 ∷ 0x00 ∷ 0x10 ∷ 0x00 ∷ 0x08 ∷ 0x00 ∷ 0x08 ∷ 0x00 ∷
    0x52 ∷ 0x51 ∷ 0x01 ∷ 0x00 ∷ 0x04 ∷ 0x00 ∷ []

-- R58, R72: it reads as case A, names both slots, the second too, whose age and remaining are equal, and its twin is the card as printed
pub case_a_old : (read_of printed_old ≡ Ok (carrying case_a.table case_a.request)) × (turned_of printed_old ≡ 3) × (twin_of printed_old ≡ printed)
unfolding read_with turned_with twin_with twin_from records_of record_of marked
case_a_old = (refl, refl, refl)

-- R57: an old record where the second slot's may stand, cut to its mark
pub case_a_cut : read_of (take 22 printed ++ TA) ≡ Err (refusal 11 22)
unfolding read_with records_of record_of marked
case_a_cut = refl

-- R59: 40 bytes are room enough
pub case_a_in_forty : write_of case_a.table case_a.request 40 ≡ Ok 40
unfolding card_of lowest length_of
case_a_in_forty = refl

-- R33: and 39 are not
pub case_a_in_thirty_nine : write_of case_a.table case_a.request 39 ≡ Err (refusal 13 0)
unfolding card_of lowest length_of
case_a_in_thirty_nine = refl
