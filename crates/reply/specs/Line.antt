-- The line of an answer (R61): its bytes, and what holds them.
use Rattle.std.specs.Prelude.{Ok, Err, ℕ, zero, suc, ◌+◌, ◌-◌, ◌*◌, ◌/◌, ◌%◌, ◌^◌, ◌≤◌, ◌<◌, ◌≡◌, Bool, true, false, List, [], ◌∷◌, ◌++◌, ltb, leb, length, take, drop, replicate, Option, None, Some}
use Rattle.line.specs.Slots.{pick}
use Rattle.table.specs.declared.Refusal.{Refusal}
use Rattle.table.specs.Words.{Said}
use Rattle.reply.specs.declared.array.Reply.{Reply}
use Rattle.reply.specs.declared.text.Line.{Line}

-- R61: the digit d in ASCII
abbrev pub glyph : ℕ → ℕ
glyph d = 48 + d

-- R61: a number below 10 is its one digit; any other is the digits of n / 10, which `front` gives, and then the digit n % 10
abbrev pub in_decimal : (below : Bool) (n : ℕ) (front : ℕ → List ℕ) → List ℕ
in_decimal true n front = glyph n ∷ []
in_decimal false n front = front (n / 10) ++ (glyph (n % 10) ∷ [])

-- the digits of a number that takes at most steps + 1 of them
unfoldable pub digits_in : (steps n : ℕ) → List ℕ
digits_in zero n = glyph n ∷ []
digits_in (suc steps) n = in_decimal (ltb n 10) n (digits_in steps)

-- R61: the digits of n. From 10 on n / 10 is below n, so that n steps are enough.
unfoldable pub digits : ℕ → List ℕ
digits n = digits_in n n

-- what the digits after those of v make of it, read in decimal
unfoldable pub value_from : (v : ℕ) → List ℕ → ℕ
value_from v [] = v
value_from v (d ∷ ds) = value_from (v * 10 + (d - 48)) ds

-- R61: the number that digits say, read in decimal
abbrev pub value_of : List ℕ → ℕ
value_of ds = value_from 0 ds

-- R61: each byte is a digit, `0` to `9`
unfoldable pub AllDigits : List ℕ → Type 0
AllDigits [] = Unit {0}
AllDigits (d ∷ ds) = (48 ≤ d) × (d ≤ 57) × AllDigits ds

-- R61: `release` and the space after it
abbrev pub release : List ℕ
release = 114 ∷ 101 ∷ 108 ∷ 101 ∷ 97 ∷ 115 ∷ 101 ∷ 32 ∷ []

-- R61: `refused` and the space after it
abbrev pub refused : List ℕ
refused = 114 ∷ 101 ∷ 102 ∷ 117 ∷ 115 ∷ 101 ∷ 100 ∷ 32 ∷ []

-- R61: between a refusal's numbers
abbrev pub space : List ℕ
space = 32 ∷ []

-- R61: byte 0A
abbrev pub line_feed : List ℕ
line_feed = 10 ∷ []

-- R103: the refusal says a tick and an excess: they are not both 0
abbrev pub carries : Refusal → Bool
carries x = pick (ltb 0 x.excess) true (ltb 0 x.tick)

-- R61, R103: what stands behind the place
abbrev pub lateness : Bool → (tick excess : ℕ) → List ℕ
lateness true d x = space ++ digits d ++ space ++ digits x
lateness false d x = []

-- R61, R103: of a refusal
abbrev pub lateness_of : Refusal → List ℕ
lateness_of x = lateness (carries x) x.tick x.excess

-- R61: the whole line, newline included
unfoldable pub answer_line : Said ℕ → List ℕ
answer_line (Ok r) = release ++ digits r ++ line_feed
answer_line (Err x) = refused ++ digits x.number ++ space ++ digits x.place ++ lateness_of x ++ line_feed

-- R17, R61: the numbers are of the widths that an answer has: a start, a place and a tick of 64 bits, an excess of 32, a refusal's number of 16
abbrev pub AnswerWidths : Said ℕ → Type 0
AnswerWidths (Ok r) = r < 2 ^ 64
AnswerWidths (Err x) = (x.number < 2 ^ 16) × (x.place < 2 ^ 64) × (x.tick < 2 ^ 64) × (x.excess < 2 ^ 32)

-- bytes that are 0
abbrev pub zeros : ℕ → List ℕ
zeros n = replicate n 0

-- R61: the line that a reply holds
abbrev pub line_of : Reply → List ℕ
line_of r = take r.len r.bytes

-- R61: the line in the reply's array, which has room for every line, and 0 in every byte after it
pub record Replied (line : List ℕ) (r : Reply) : Type 0 where
  pub within : r.len ≤ 72
  pub long : r.len ≡ length line
  pub first : take r.len r.bytes ≡ line
  pub rest : drop r.len r.bytes ≡ zeros (72 - r.len)

-- R62: the bytes at the start of the buffer, and after them the buffer's own
abbrev pub laid : (bytes buffer : List ℕ) → List ℕ
laid bytes buffer = bytes ++ drop (length bytes) buffer

-- the bytes after the first `at` of the buffer, and after them the buffer's own
abbrev pub laid_from : (at : ℕ) (bytes buffer : List ℕ) → List ℕ
laid_from at bytes buffer = take at buffer ++ laid bytes (drop at buffer)

-- R33: the line fits the buffer
abbrev pub fits : (line buffer : List ℕ) → Bool
fits line buffer = leb (length line) (length buffer)

-- R33, R62: what putting the line into the buffer answers
abbrev pub length_for : (line buffer : List ℕ) → Option ℕ
length_for line buffer = pick (fits line buffer) (Some (length line)) None

-- R17, R62: what the buffer then holds: the line and after it the bytes that were there, or every byte as it was
abbrev pub held_after : (line buffer : List ℕ) → List ℕ
held_after line buffer = pick (fits line buffer) (laid line buffer) buffer

-- the line l has grown by bs in the same buffer, and is m
pub record Grown (bs : List ℕ) (l m : Line) : Type 0 where
  pub same_buffer : m.out.ghost_name ≡ l.out.ghost_name
  pub size : length m.out.now ≡ length l.out.now
  pub end : m.at ≡ l.at + length bs
  pub within : m.at ≤ length m.out.now
  pub same : m.out.now ≡ laid_from l.at bs l.out.now
