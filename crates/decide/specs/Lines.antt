-- A line gathered, with its gap beside its period: of five slices, and of a list of slots, counted from the clock.
use Rattle.std.specs.Prelude.{ℕ, ◌+◌, Bool, List, [], ◌∷◌, ◌++◌, eqb, length, get_or}
use Rattle.line.specs.declared.Stream.{Stream}
use Rattle.line.specs.declared.Slot.{Slot}
use Rattle.line.specs.Slots.{both, by_follows}
use Rattle.line.specs.Streams.{stream, by_stream}
use Rattle.sums.specs.Lines.{along, alike, longest}

-- R9: its first end counted from the clock, what remains of its need, its need, its T', and the ticks from one of its ends to the next
pub record Line : Type 0 where
  pub end : ℕ
  pub remaining : ℕ
  pub need : ℕ
  pub period : ℕ
  pub gap : ℕ

-- a line with these numbers
abbrev pub line_with : (e c n p g : ℕ) → Line
line_with e c n p g = record { end = e; remaining = c; need = n; period = p; gap = g }

-- R8, R28, R29: the line by its period: what the frame and the sums look at
abbrev pub by_period : Line → Stream
by_period x = stream x.end x.remaining x.need x.period

-- R9, R10: the line by its gap: what the demand and the ends look at
abbrev pub by_gap : Line → Stream
by_gap x = stream x.end x.remaining x.need x.gap

-- ---- of slices

-- line k of five slices
abbrev pub gathered_at : (e c n p g : List ℕ) → ℕ → Line
gathered_at e c n p g k = line_with (get_or e k 0) (get_or c k 0) (get_or n k 0) (get_or p k 0) (get_or g k 0)

-- the lines of five slices, as many as there are ends
abbrev pub gathered : (e c n p g : List ℕ) → List Line
gathered e c n p g = along (gathered_at e c n p g) 0 (length e)

-- five slices have the same length
abbrev pub all_alike : (e c n p g : List ℕ) → Bool
all_alike e c n p g = both (alike e c n p) (eqb (length g) (length e))

-- ---- of slots

-- R9, R99: its ends come a period apart; of a line that leaves a second one would come after every first one
abbrev pub gap_of : Stream → ℕ
gap_of s = by_follows s.period longest s.follows

-- R9: what a slot asks for, as it is gathered
abbrev pub line_of : Stream → Line
line_of s = line_with s.end s.remaining s.need s.period (gap_of s)

-- R6: the lines, lowest slot first; nothing is taken from a slot that holds none
unfoldable pub lines_in : List Slot → List Line
lines_in [] = []
lines_in (s ∷ l) = by_stream [] (λ x. line_of x ∷ []) s.held ++ lines_in l

-- ticks counted from the clock, as absolute ticks
unfoldable pub absolute : (clock : ℕ) → List ℕ → List ℕ
absolute t0 [] = []
absolute t0 (d ∷ ds) = (t0 + d) ∷ absolute t0 ds
