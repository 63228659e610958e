-- The layout of the card, R53, each mark, offset and length said once: src/layout.rt has the same numbers for the code.
use Rattle.std.specs.Prelude.{ℕ, List, [], ◌∷◌, Bool, true, false}
use Rattle.line.specs.declared.Follows.{Follows}
use Rattle.line.specs.declared.Follows.TheVariants.{Renews, Leaves}
use Rattle.line.specs.Slots.{pick, by_follows}
use Rattle.card.specs.declared.Mark.{Mark}

-- ---- marks

-- R53: the mark of the clock
abbrev pub CK : List ℕ
CK = 0x43 ∷ 0x4B ∷ []

-- R53: the mark of a slot that runs a line which renews
abbrev pub TB : List ℕ
TB = 0x54 ∷ 0x42 ∷ []

-- R53: the mark of a slot that runs a line which leaves
abbrev pub TL : List ℕ
TL = 0x54 ∷ 0x4C ∷ []

-- R58: as TB, in the order of the third generation
abbrev pub TA : List ℕ
TA = 0x54 ∷ 0x41 ∷ []

-- R53: the mark of a slot that holds nothing
abbrev pub TF : List ℕ
TF = 0x54 ∷ 0x46 ∷ []

-- R53: the mark of the new line
abbrev pub RQ : List ℕ
RQ = 0x52 ∷ 0x51 ∷ []

-- R53: the bytes of a slot's mark
abbrev pub mark_bytes : Mark → List ℕ
mark_bytes Mark.TA = TA
mark_bytes Mark.TB = TB
mark_bytes Mark.TF = TF
mark_bytes Mark.TL = TL

-- R53: the mark stands alone, where the others have a line's five numbers behind them
abbrev pub is_free : Mark → Bool
is_free Mark.TA = false
is_free Mark.TB = false
is_free Mark.TF = true
is_free Mark.TL = false

-- R53, R58: the order of a line's two last numbers: turned is remaining before age
abbrev pub is_turned : Mark → Bool
is_turned Mark.TA = true
is_turned Mark.TB = false
is_turned Mark.TF = false
is_turned Mark.TL = false

-- R53, R58, R99: what follows the period of a mark's line: under TL alone it leaves
abbrev pub follows_under : Mark → Follows
follows_under Mark.TA = Renews
follows_under Mark.TB = Renews
follows_under Mark.TF = Renews
follows_under Mark.TL = Leaves

-- R53, R99: the mark that a line is written under, by what follows its period
abbrev pub line_mark : Follows → Mark
line_mark f = by_follows Mark.TB Mark.TL f

-- ---- offsets, from the mark on

-- R53: the clock, behind CK
abbrev pub clock_at : ℕ
clock_at = 2

-- R53: C of a line, and Cn behind RQ
abbrev pub need_at : ℕ
need_at = 2

-- R53: T of a line, and Tn
abbrev pub period_at : ℕ
period_at = 4

-- R53: T' of a line
abbrev pub stretched_at : ℕ
stretched_at = 6

-- R53: the two last numbers of a line, whose order is the mark's
abbrev pub fourth_at : ℕ
fourth_at = 8

-- R53: the very last
abbrev pub fifth_at : ℕ
fifth_at = 10

-- ---- lengths

-- R52: a mark, and so TF
abbrev pub mark_length : ℕ
mark_length = 2

-- R53: CK
abbrev pub clock_length : ℕ
clock_length = 10

-- R53: a slot's record with a line
abbrev pub line_length : ℕ
line_length = 12

-- R53: RQ
abbrev pub last_length : ℕ
last_length = 6

-- R53: a slot's record
abbrev pub record_length : Mark → ℕ
record_length m = pick (is_free m) mark_length line_length
