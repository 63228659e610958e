-- Lines and buffers on both sides of each edge of R61 and R62, by computation. The bytes are numbers here, so that no letter, space or digit of the definitions
-- can change unseen.
use Rattle.std.specs.Prelude.{Ok, Err, Option, None, Some}
use Rattle.table.specs.Words.{Said}
use Prim.Native.Nat.{ℕ}
use mathlib.Core.Path.{◌≡◌, refl}
use mathlib.Core.List.{List, [], ◌∷◌, ◌++◌, map}
use native.Mathlib.Omega.{arith}
use lib.ListN.{replicate}
use Rattle.table.specs.Words.{refusal}
use Rattle.reply.specs.Line.{digits_in, digits, value_from, value_of, AllDigits, answer_line, AnswerWidths, Replied, length_for, held_after}

-- a number and its digits
pub record DigitEdge : Type 0 where
  pub number : ℕ
  pub bytes : List ℕ

abbrev spelt : ℕ → List ℕ → DigitEdge
spelt n l = record { number = n; bytes = l }

-- R61: on both sides of each further digit, every digit from 0 to 9, and the greatest number of 64 bits
unfoldable pub digit_edges : List DigitEdge
digit_edges =
    spelt 0 (0x30 ∷ [])
    ∷ spelt 9 (0x39 ∷ [])
    ∷ spelt 10 (0x31 ∷ 0x30 ∷ [])
    ∷ spelt 99 (0x39 ∷ 0x39 ∷ [])
    ∷ spelt 100 (0x31 ∷ 0x30 ∷ 0x30 ∷ [])
    ∷ spelt 1234567890 (0x31 ∷ 0x32 ∷ 0x33 ∷ 0x34 ∷ 0x35 ∷ 0x36 ∷ 0x37 ∷ 0x38 ∷ 0x39 ∷ 0x30 ∷ [])
    ∷ spelt 18446744073709551615
    (0x31 ∷ 0x38 ∷ 0x34 ∷ 0x34 ∷ 0x36 ∷ 0x37 ∷ 0x34 ∷ 0x34 ∷ 0x30 ∷ 0x37 ∷ 0x33 ∷ 0x37 ∷ 0x30 ∷ 0x39 ∷ 0x35 ∷ 0x35 ∷ 0x31 ∷ 0x36 ∷ 0x31 ∷ 0x35 ∷ [])
    ∷ []

-- R61: the digits of each
pub digit_edges_lem : map (λ (e : DigitEdge). digits e.number) digit_edges ≡ map (λ (e : DigitEdge). e.bytes) digit_edges
unfolding digits_in digits digit_edges
digit_edges_lem = refl

-- R61: and the number that they say
pub value_edges : map (λ (e : DigitEdge). value_of e.bytes) digit_edges ≡ map (λ (e : DigitEdge). e.number) digit_edges
unfolding value_from digit_edges
value_edges = refl

-- R61: `/` stands just below the digits and is none
pub no_digit_below : AllDigits (0x2F ∷ []) → ⊥
unfolding AllDigits
no_digit_below h = omega (arith, h.0)

-- R61: `:` stands just above the digits and is none
pub no_digit_above : AllDigits (0x3A ∷ []) → ⊥
unfolding AllDigits
no_digit_above h = omega (arith, h.1)

-- an answer and its line
pub record LineEdge : Type 0 where
  pub answer : Said ℕ
  pub bytes : List ℕ

abbrev released : ℕ → List ℕ → LineEdge
released n l = record { answer = Ok n; bytes = l }

abbrev refused_by : (number place : ℕ) → List ℕ → LineEdge
refused_by n k l = record { answer = Err (refusal n k); bytes = l }

-- `release 0`
abbrev zero_line : List ℕ
zero_line = 0x72 ∷ 0x65 ∷ 0x6C ∷ 0x65 ∷ 0x61 ∷ 0x73 ∷ 0x65 ∷ 0x20 ∷ 0x30 ∷ 0x0A ∷ []

-- `release 13`
abbrev start_line : List ℕ
start_line = 0x72 ∷ 0x65 ∷ 0x6C ∷ 0x65 ∷ 0x61 ∷ 0x73 ∷ 0x65 ∷ 0x20 ∷ 0x31 ∷ 0x33 ∷ 0x0A ∷ []

-- `refused 12 345`
abbrev old_line : List ℕ
old_line = 0x72 ∷ 0x65 ∷ 0x66 ∷ 0x75 ∷ 0x73 ∷ 0x65 ∷ 0x64 ∷ 0x20 ∷ 0x31 ∷ 0x32 ∷ 0x20 ∷ 0x33 ∷ 0x34 ∷ 0x35 ∷ 0x0A ∷ []

-- `refused 9 0`
abbrev sum_line : List ℕ
sum_line = 0x72 ∷ 0x65 ∷ 0x66 ∷ 0x75 ∷ 0x73 ∷ 0x65 ∷ 0x64 ∷ 0x20 ∷ 0x39 ∷ 0x20 ∷ 0x30 ∷ 0x0A ∷ []

-- `refused 10 0 103 2`
abbrev late_line : List ℕ
late_line = 0x72 ∷ 0x65 ∷ 0x66 ∷ 0x75 ∷ 0x73 ∷ 0x65 ∷ 0x64 ∷ 0x20 ∷ 0x31 ∷ 0x30 ∷ 0x20 ∷ 0x30 ∷ 0x20 ∷ 0x31 ∷ 0x30 ∷ 0x33 ∷ 0x20 ∷ 0x32 ∷ 0x0A ∷ []

-- R103: a refusal with these four numbers
abbrev saying : (number place tick excess : ℕ) → List ℕ → LineEdge
saying n k d x l = record { answer = Err (record { number = n; place = k; tick = d; excess = x }); bytes = l }

-- `refused 9 0 0 1` and `refused 9 0 1 0`
abbrev sum_line_with : (tick excess : ℕ) → List ℕ
sum_line_with d x = 0x72 ∷ 0x65 ∷ 0x66 ∷ 0x75 ∷ 0x73 ∷ 0x65 ∷ 0x64 ∷ 0x20 ∷ 0x39 ∷ 0x20 ∷ 0x30 ∷ 0x20 ∷ d ∷ 0x20 ∷ x ∷ 0x0A ∷ []

-- `refused 4 15`
abbrev slot_line : List ℕ
slot_line = 0x72 ∷ 0x65 ∷ 0x66 ∷ 0x75 ∷ 0x73 ∷ 0x65 ∷ 0x64 ∷ 0x20 ∷ 0x34 ∷ 0x20 ∷ 0x31 ∷ 0x35 ∷ 0x0A ∷ []

-- R61, R103: whole lines; a tick and an excess stand in them where either is not 0, whatever the number
unfoldable pub line_edges : List LineEdge
line_edges =
    released 0 zero_line
    ∷ released 13 start_line
    ∷ refused_by 12 345 old_line
    ∷ refused_by 9 0 sum_line
    ∷ refused_by 4 15 slot_line
    ∷ saying 10 0 103 2 late_line
    ∷ saying 9 0 0 0 sum_line
    ∷ saying 9 0 0 1 (sum_line_with 0x30 0x31)
    ∷ saying 9 0 1 0 (sum_line_with 0x31 0x30)
    ∷ []

-- R61: the line of each answer
pub line_edges_lem : map (λ (e : LineEdge). answer_line e.answer) line_edges ≡ map (λ (e : LineEdge). e.bytes) line_edges
unfolding digits_in digits answer_line line_edges
line_edges_lem = refl

-- R61: the greatest numbers that an answer has are among those whose line is at most 72 bytes long
pub widest : AnswerWidths (Ok 18446744073709551615)
    × AnswerWidths (Err (record { number = 65535; place = 18446744073709551615; tick = 18446744073709551615; excess = 4294967295 }))
widest = (omega arith, (omega arith, omega arith, omega arith, omega arith))

-- R61: a line in an array of 72 bytes, and zeros after it
pub replied_edge : Replied start_line (record { bytes = start_line ++ replicate 61 0x00; len = 11; within = omega arith })
replied_edge = record { within = omega arith; long = refl; first = refl; rest = refl }

-- an answer, a lent buffer, what putting the answer's line into it says, and what it then holds
pub record PutEdge : Type 0 where
  pub answer : Said ℕ
  pub buffer : List ℕ
  pub length : Option ℕ
  pub holds : List ℕ

abbrev puts : LineEdge → List ℕ → (length : ℕ) → List ℕ → PutEdge
puts e l n m = record { answer = e.answer; buffer = l; length = Some n; holds = m }

-- a buffer that is too short keeps every byte
abbrev too_short : LineEdge → List ℕ → PutEdge
too_short e l = record { answer = e.answer; buffer = l; length = None; holds = l }

-- a buffer of n bytes that are no line's
abbrev lent : ℕ → List ℕ
lent n = replicate n 0xEE

-- R33, R62: a buffer of exactly the line's length, one byte less, more, and none
unfoldable pub put_edges : List PutEdge
put_edges =
    puts (released 13 start_line) (lent 11) 11 start_line
    ∷ too_short (released 13 start_line) (lent 10)
    ∷ too_short (released 13 start_line) []
    ∷ puts (released 13 start_line) (lent 13) 11 (start_line ++ (0xEE ∷ 0xEE ∷ []))
    ∷ puts (refused_by 12 345 old_line) (lent 15) 15 old_line
    ∷ too_short (refused_by 12 345 old_line) (lent 14)
    ∷ puts (refused_by 12 345 old_line) (lent 16) 15 (old_line ++ (0xEE ∷ []))
    ∷ []

-- what the definitions say of the input
abbrev pub putting : PutEdge → Option ℕ × List ℕ
putting e = (length_for (answer_line e.answer) e.buffer, held_after (answer_line e.answer) e.buffer)

-- what the row says
abbrev pub expected : PutEdge → Option ℕ × List ℕ
expected e = (e.length, e.holds)

-- R33, R62: what is answered to each, and what the buffer holds
pub put_edges_lem : map putting put_edges ≡ map expected put_edges
unfolding digits_in digits answer_line put_edges
put_edges_lem = refl
