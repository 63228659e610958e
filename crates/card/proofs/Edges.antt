-- Cards and buffers on both sides of each edge of R53 to R59, by computation. The bytes are numbers here and no mark's name, and in `whole` no two numbers share
-- a byte: an exchange of two numbers or marks in the definitions changes what a row says.
use Rattle.std.specs.Prelude.{Ok, Err}
use Prim.Native.Nat.{ℕ, zero, suc}
use mathlib.Core.Path.{◌≡◌, refl, sym, ap}
use mathlib.Core.Bool.{Bool, false}
use mathlib.Core.List.{List, [], ◌∷◌, ◌++◌, map}
use lib.ListN.{length, take, drop, replicate}
use Rattle.line.specs.declared.Slot.{Slot}
use Rattle.table.specs.declared.Table.{Table}
use Rattle.table.specs.declared.Request.{Request}
use Rattle.table.specs.declared.Refusal.{Refusal}
use Rattle.line.specs.Slots.{is_leaving, empty, if_runs, at, lowest}
use Rattle.line.proofs.Search.{true_false}
use Rattle.table.specs.Words.{request_with, refusal, Said}
use Rattle.table.specs.Cases.{running, parting, waiting, table_of}
use Rattle.card.specs.Bytes.{marked}
use Rattle.card.specs.declared.Card.{Card}
use Rattle.card.specs.Card.{card_of, carrying, cleared}
use Rattle.card.specs.Reading.{record_of, records_of, read_with, read_of}
use Rattle.card.specs.Answers.{handed, said_read, length_of, write_of, buffer_of}

-- the bytes l so many times
abbrev pub times : ℕ → List ℕ → List ℕ
times zero l = []
times (suc n) l = l ++ times n l

-- a card of 30 bytes: the clock, slot 0 that holds nothing, slot 1 with a line, the new line
abbrev pub whole : List ℕ
whole =
    0x43 ∷ 0x4B ∷ 0x01 ∷ 0x02 ∷ 0x03 ∷ 0x04 ∷ 0x05 ∷ 0x06 ∷ 0x07 ∷ 0x08 ∷
    0x54 ∷ 0x46 ∷
    0x54 ∷ 0x42 ∷ 0x11 ∷ 0x12 ∷ 0x21 ∷ 0x22 ∷ 0x31 ∷ 0x32 ∷ 0x61 ∷ 0x62 ∷ 0x71 ∷ 0x72 ∷
    0x52 ∷ 0x51 ∷ 0x81 ∷ 0x82 ∷ 0x91 ∷ 0x92 ∷ []

-- what its numbers are
abbrev whole_table : Table
whole_table = table_of 0x0807060504030201 (empty ∷ running 0x1211 0x2221 0x6261 0x7271 ∷ replicate 14 empty)

abbrev whole_request : Request
whole_request = request_with (0 ∷ 0x3231 ∷ replicate 14 0) 0x8281 0x9291

-- its records one by one
abbrev pub clock : List ℕ
clock = 0x43 ∷ 0x4B ∷ 0x01 ∷ 0x02 ∷ 0x03 ∷ 0x04 ∷ 0x05 ∷ 0x06 ∷ 0x07 ∷ 0x08 ∷ []

abbrev pub free : List ℕ
free = 0x54 ∷ 0x46 ∷ []

abbrev pub line : List ℕ
line = 0x54 ∷ 0x42 ∷ 0x11 ∷ 0x12 ∷ 0x21 ∷ 0x22 ∷ 0x31 ∷ 0x32 ∷ 0x61 ∷ 0x62 ∷ 0x71 ∷ 0x72 ∷ []

abbrev pub request : List ℕ
request = 0x52 ∷ 0x51 ∷ 0x81 ∷ 0x82 ∷ 0x91 ∷ 0x92 ∷ []

-- a whole record of the third generation
abbrev pub old : List ℕ
old = 0x54 ∷ 0x41 ∷ 0x11 ∷ 0x12 ∷ 0x21 ∷ 0x22 ∷ 0x31 ∷ 0x32 ∷ 0x71 ∷ 0x72 ∷ 0x61 ∷ 0x62 ∷ []

-- a whole record of a line that leaves, with the numbers of `line`
abbrev pub leaving_line : List ℕ
leaving_line = 0x54 ∷ 0x4C ∷ drop 2 line

abbrev line_slot : Slot
line_slot = running 0x1211 0x2221 0x6261 0x7271

abbrev leaving_slot : Slot
leaving_slot = parting 0x1211 0x2221 0x6261 0x7271

-- the clock and new line of `whole` around these slots
abbrev reads : List Slot → (stretched : List ℕ) → Said Card
reads ss ts = Ok (record { table = table_of 0x0807060504030201 ss; request = request_with ts 0x8281 0x9291 })

abbrev breaks : (place : ℕ) → Said Card
breaks at = Err (refusal 11 at)

-- some bytes and what the reader says of them
pub record CardEdge : Type 0 where
  pub bytes : List ℕ
  pub says : Said Card

abbrev edge : List ℕ → Said Card → CardEdge
edge l s = record { bytes = l; says = s }

-- R57: the clock's record whole, cut, and under another mark
abbrev clock_edges : List CardEdge
clock_edges =
    edge [] (breaks 0)
    ∷ edge (take 9 clock) (breaks 0)
    ∷ edge clock (breaks 10)
    ∷ edge (clock ++ request) (reads (replicate 16 empty) (replicate 16 0))
    ∷ edge (0x43 ∷ 0x4C ∷ 1 ∷ 2 ∷ 3 ∷ 4 ∷ 5 ∷ 6 ∷ 7 ∷ 8 ∷ request) (breaks 0)
    ∷ edge (0x4B ∷ 0x4B ∷ 1 ∷ 2 ∷ 3 ∷ 4 ∷ 5 ∷ 6 ∷ 7 ∷ 8 ∷ request) (breaks 0)
    ∷ edge (0x54 ∷ 0x41 ∷ 1 ∷ 2 ∷ 3 ∷ 4 ∷ 5 ∷ 6 ∷ 7 ∷ 8 ∷ request) (breaks 0)
    ∷ edge (old ++ request) (breaks 0)
    ∷ edge (0x54 ∷ 0x4C ∷ 1 ∷ 2 ∷ 3 ∷ 4 ∷ 5 ∷ 6 ∷ 7 ∷ 8 ∷ request) (breaks 0)
    ∷ edge (leaving_line ++ request) (breaks 0)
    ∷ edge (clock ++ clock ++ request) (breaks 10)
    ∷ []

-- R57: where a mark should stand, and records cut by a byte
abbrev mark_edges : List CardEdge
mark_edges =
    edge (clock ++ (0x54 ∷ [])) (breaks 10)
    ∷ edge (clock ++ (0x52 ∷ [])) (breaks 10)
    ∷ edge (clock ++ line ++ (0x00 ∷ [])) (breaks 22)
    ∷ edge (clock ++ (0x54 ∷ 0x43 ∷ []) ++ request) (breaks 10)
    ∷ edge (clock ++ (0x42 ∷ 0x54 ∷ []) ++ request) (breaks 10)
    ∷ edge (clock ++ free ++ (0x52 ∷ 0x52 ∷ 0x81 ∷ 0x82 ∷ 0x91 ∷ 0x92 ∷ [])) (breaks 12)
    ∷ edge (clock ++ free ++ (0x51 ∷ 0x51 ∷ 0x81 ∷ 0x82 ∷ 0x91 ∷ 0x92 ∷ [])) (breaks 12)
    ∷ edge (clock ++ take 2 line) (breaks 10)
    ∷ edge (clock ++ take 11 line) (breaks 10)
    ∷ edge (clock ++ free ++ take 11 line) (breaks 12)
    ∷ edge (clock ++ line) (breaks 22)
    ∷ edge (clock ++ free) (breaks 12)
    ∷ edge (clock ++ line ++ take 2 request) (breaks 22)
    ∷ edge (clock ++ line ++ take 5 request) (breaks 22)
    ∷ edge (clock ++ line ++ request) (reads (line_slot ∷ replicate 15 empty) (0x3231 ∷ replicate 15 0))
    ∷ []

-- R54, R55, R57: what stands before RQ and after it
abbrev request_edges : List CardEdge
request_edges =
    edge (clock ++ request ++ (0x00 ∷ [])) (breaks 16)
    ∷ edge (whole ++ (0x52 ∷ [])) (breaks 30)
    ∷ edge (whole ++ request) (breaks 30)
    ∷ edge (clock ++ free ++ request) (breaks 12)
    ∷ edge (clock ++ free ++ request ++ (0x00 ∷ [])) (breaks 12)
    ∷ edge (clock ++ free ++ take 5 request) (breaks 12)
    ∷ edge (clock ++ line ++ free ++ request) (breaks 24)
    ∷ edge (clock ++ free ++ line ++ request) (reads (empty ∷ line_slot ∷ replicate 14 empty) (0 ∷ 0x3231 ∷ replicate 14 0))
    ∷ []

-- R54, R57: sixteen slots' records, and one more
abbrev sixteen_edges : List CardEdge
sixteen_edges =
    edge (clock ++ times 16 line ++ request) (reads (replicate 16 line_slot) (replicate 16 0x3231))
    ∷ edge (clock ++ times 15 free ++ line ++ request) (reads (replicate 15 empty ++ (line_slot ∷ [])) (replicate 15 0 ++ (0x3231 ∷ [])))
    ∷ edge (clock ++ times 15 line ++ free ++ request) (breaks 192)
    ∷ edge (clock ++ times 16 line) (breaks 202)
    ∷ edge (clock ++ times 16 line ++ (0x54 ∷ [])) (breaks 202)
    ∷ edge (clock ++ times 16 line ++ take 5 request) (breaks 202)
    ∷ edge (clock ++ times 16 line ++ request ++ (0x00 ∷ [])) (breaks 208)
    ∷ edge (clock ++ times 17 line ++ request) (breaks 202)
    ∷ edge (clock ++ times 16 line ++ take 2 line) (breaks 202)
    ∷ edge (clock ++ times 16 line ++ free ++ request) (breaks 202)
    ∷ edge (clock ++ times 16 free ++ line ++ request) (breaks 42)
    ∷ edge (clock ++ times 16 line ++ old ++ request) (breaks 202)
    ∷ edge (clock ++ times 16 line ++ take 2 old) (breaks 202)
    ∷ []

-- R58: a record of the third generation where a slot's may stand, whole and cut
abbrev old_edges : List CardEdge
old_edges =
    edge (clock ++ old ++ request) (reads (line_slot ∷ replicate 15 empty) (0x3231 ∷ replicate 15 0))
    ∷ edge (clock ++ old ++ line ++ old ++ request) (reads (line_slot ∷ line_slot ∷ line_slot ∷ replicate 13 empty) (0x3231 ∷ 0x3231 ∷ 0x3231 ∷ replicate 13 0))
    ∷ edge (clock ++ free ++ old ++ request) (reads (empty ∷ line_slot ∷ replicate 14 empty) (0 ∷ 0x3231 ∷ replicate 14 0))
    ∷ edge (clock ++ times 16 old ++ request) (reads (replicate 16 line_slot) (replicate 16 0x3231))
    ∷ edge (clock ++ times 17 old ++ request) (breaks 202)
    ∷ edge (clock ++ old ++ free ++ request) (breaks 24)
    ∷ edge (clock ++ old) (breaks 22)
    ∷ edge (clock ++ take 2 old) (breaks 10)
    ∷ edge (clock ++ take 1 old) (breaks 10)
    ∷ edge (clock ++ line ++ take 11 old) (breaks 22)
    ∷ edge (clock ++ times 15 line ++ take 2 old) (breaks 190)
    ∷ []

-- R53, R57: a record of a line that leaves where a slot's may stand, whole, cut and the seventeenth
abbrev leaving_edges : List CardEdge
leaving_edges =
    edge (clock ++ leaving_line ++ request) (reads (leaving_slot ∷ replicate 15 empty) (0x3231 ∷ replicate 15 0))
    ∷ edge (clock ++ line ++ leaving_line ++ old ++ request) (reads (line_slot ∷ leaving_slot ∷ line_slot ∷ replicate 13 empty) (0x3231 ∷ 0x3231 ∷ 0x3231 ∷ replicate 13 0))
    ∷ edge (clock ++ free ++ leaving_line ++ request) (reads (empty ∷ leaving_slot ∷ replicate 14 empty) (0 ∷ 0x3231 ∷ replicate 14 0))
    ∷ edge (clock ++ times 16 leaving_line ++ request) (reads (replicate 16 leaving_slot) (replicate 16 0x3231))
    ∷ edge (clock ++ times 15 line ++ leaving_line ++ request) (reads (replicate 15 line_slot ++ (leaving_slot ∷ [])) (replicate 16 0x3231))
    ∷ edge (clock ++ times 16 leaving_line ++ request ++ (0x00 ∷ [])) (breaks 208)
    ∷ edge (clock ++ times 17 leaving_line ++ request) (breaks 202)
    ∷ edge (clock ++ times 16 line ++ leaving_line ++ request) (breaks 202)
    ∷ edge (clock ++ times 16 leaving_line ++ line ++ request) (breaks 202)
    ∷ edge (clock ++ times 16 line ++ take 2 leaving_line) (breaks 202)
    ∷ edge (clock ++ leaving_line ++ free ++ request) (breaks 24)
    ∷ edge (clock ++ leaving_line) (breaks 22)
    ∷ edge (clock ++ take 2 leaving_line) (breaks 10)
    ∷ edge (clock ++ take 11 leaving_line) (breaks 10)
    ∷ edge (clock ++ line ++ take 11 leaving_line) (breaks 22)
    ∷ edge (clock ++ times 15 line ++ take 11 leaving_line) (breaks 190)
    ∷ []

-- a whole record of a line's numbers under another mark
abbrev numbers_under : (first second : ℕ) → List ℕ
numbers_under a b = a ∷ b ∷ drop 2 line

-- R53, R57: the marks next to TB, TL, TF and TA are none
abbrev beside_edges : List CardEdge
beside_edges =
    map (λ (b : ℕ). edge (clock ++ numbers_under 0x54 b ++ request) (breaks 10)) (0x00 ∷ 0x40 ∷ 0x43 ∷ 0x45 ∷ 0x47 ∷ 0x4B ∷ 0x4D ∷ 0x62 ∷ 0x6C ∷ [])
    ++ map (λ (a : ℕ). edge (clock ++ numbers_under a 0x4C ++ request) (breaks 10)) (0x4C ∷ 0x53 ∷ 0x55 ∷ [])

-- a record of a line that leaves, whose period is 0x2221, with these two bytes for its T'
abbrev leaving_with : (low high : ℕ) → List ℕ
leaving_with a b = 0x54 ∷ 0x4C ∷ 0x11 ∷ 0x12 ∷ 0x21 ∷ 0x22 ∷ a ∷ b ∷ 0x61 ∷ 0x62 ∷ 0x71 ∷ 0x72 ∷ []

-- R25, R56: whatever the T' of a line that leaves, the reader takes it: none, one below the period, the period, one above
abbrev leaving_period_edges : List CardEdge
leaving_period_edges =
    edge (clock ++ leaving_with 0x00 0x00 ++ request) (reads (leaving_slot ∷ replicate 15 empty) (replicate 16 0))
    ∷ edge (clock ++ leaving_with 0x20 0x22 ++ request) (reads (leaving_slot ∷ replicate 15 empty) (0x2220 ∷ replicate 15 0))
    ∷ edge (clock ++ leaving_with 0x21 0x22 ++ request) (reads (leaving_slot ∷ replicate 15 empty) (0x2221 ∷ replicate 15 0))
    ∷ edge (clock ++ leaving_with 0x22 0x22 ++ request) (reads (leaving_slot ∷ replicate 15 empty) (0x2222 ∷ replicate 15 0))
    ∷ edge (clock ++ leaving_with 0xFF 0xFF ++ request) (reads (leaving_slot ∷ replicate 15 empty) (0xFFFF ∷ replicate 15 0))
    ∷ []

-- R56, R3: any numbers are taken, unsound lines too, up to the greatest of sixteen and of 64 bits
abbrev number_edges : List CardEdge
number_edges =
    edge whole (Ok (record { table = whole_table; request = whole_request }))
    ∷ edge ((0x43 ∷ 0x4B ∷ replicate 8 0) ++ (0x54 ∷ 0x42 ∷ replicate 10 0) ++ (0x52 ∷ 0x51 ∷ replicate 4 0))
    (Ok (record { table = table_of 0 (running 0 0 0 0 ∷ replicate 15 empty); request = request_with (replicate 16 0) 0 0 }))
    ∷ edge ((0x43 ∷ 0x4B ∷ replicate 8 0xFF) ++ (0x54 ∷ 0x42 ∷ replicate 10 0xFF) ++ (0x52 ∷ 0x51 ∷ replicate 4 0xFF))
    (Ok (record {
      table = table_of 18446744073709551615 (running 65535 65535 65535 65535 ∷ replicate 15 empty);
      request = request_with (65535 ∷ replicate 15 0) 65535 65535;
    }))
    ∷ edge ((0x43 ∷ 0x4B ∷ replicate 8 0) ++ (0x54 ∷ 0x4C ∷ replicate 10 0) ++ (0x54 ∷ 0x4C ∷ replicate 10 0xFF) ++ (0x52 ∷ 0x51 ∷ replicate 4 0))
    (Ok (record { table = table_of 0 (parting 0 0 0 0 ∷ parting 65535 65535 65535 65535 ∷ replicate 14 empty); request = request_with (0 ∷ 65535 ∷ replicate 14 0) 0 0 }))
    ∷ []

-- R53 to R58: all of them
unfoldable pub card_edges : List CardEdge
card_edges = number_edges ++ clock_edges ++ mark_edges ++ request_edges ++ sixteen_edges ++ old_edges ++ leaving_edges ++ beside_edges ++ leaving_period_edges

-- R31, R57, R58: what the reader says of each
pub card_edges_lem : map (λ (c : CardEdge). read_of c.bytes) card_edges ≡ map (λ (c : CardEdge). c.says) card_edges
unfolding marked record_of records_of read_with card_edges
card_edges_lem = refl

-- the line of slot 0 leaves
abbrev first_leaves : Said Card → Bool
first_leaves (Ok c) = if_runs false (λ r. is_leaving r.follows) (at c.table.slots 0)
first_leaves (Err r) = false

-- R53, R99: the same numbers under TB and under TL are different tables
pub marks_tell : read_of (clock ++ leaving_line ++ request) ≡ read_of (clock ++ line ++ request) → ⊥
unfolding marked record_of records_of read_with
marks_tell e = true_false (sym (ap first_leaves e)) refl

-- R52, R53, R54: each mark and each byte of a number stands where `whole` has it
pub whole_written : card_of whole_table whole_request ≡ whole
unfolding card_of
whole_written = refl

-- sixteen lines
abbrev pub longest : List ℕ
longest = clock ++ times 16 line ++ request

-- R55: the bound of `longest_card` is met
pub longest_card_exists : (length longest ≡ 208) × (read_of longest ≡ reads (replicate 16 line_slot) (replicate 16 0x3231))
unfolding marked record_of records_of read_with
longest_card_exists = (refl, refl)

-- a table and a request for the writer, the lent buffer, what the writer answers, and what the buffer then holds
pub record WriteEdge : Type 0 where
  pub table : Table
  pub request : Request
  pub buffer : List ℕ
  pub answers : Said ℕ
  pub leaves : List ℕ

abbrev written : Table → Request → List ℕ → (length : ℕ) → List ℕ → WriteEdge
written t q l n m = record { table = t; request = q; buffer = l; answers = Ok n; leaves = m }

-- a refused buffer keeps every byte
abbrev unwritten : Table → Request → List ℕ → Refusal → WriteEdge
unwritten t q l r = record { table = t; request = q; buffer = l; answers = Err r; leaves = l }

-- a buffer of n bytes that are no card's
abbrev lent : ℕ → List ℕ
lent n = replicate n 0xEE

-- `whole_table` with lines that wait in slots 2 and 4
abbrev waiting_table : Table
waiting_table =
    table_of 0x0807060504030201
    (empty ∷ line_slot ∷ waiting 1 4 3 ∷ empty ∷ waiting 1 4 2 ∷ replicate 11 empty)

-- `whole_request` with entries for slots that hold nothing
abbrev full_request : Request
full_request = request_with (0x5251 ∷ 0x3231 ∷ replicate 14 0x5453) 0x8281 0x9291

-- R59: a waiting line is looked for before the room is, and no byte is touched by a refusal
abbrev order_edges : List WriteEdge
order_edges =
    unwritten waiting_table whole_request (lent 29) (refusal 3 2)
    ∷ unwritten waiting_table whole_request [] (refusal 3 2)
    ∷ unwritten waiting_table whole_request (lent 240) (refusal 3 2)
    ∷ unwritten (table_of 0 (replicate 15 empty ++ (waiting 0 0 0 ∷ []))) whole_request (lent 3) (refusal 3 15)
    ∷ unwritten (table_of 0 (waiting 1 4 3 ∷ replicate 15 empty)) whole_request (lent 3) (refusal 3 0)
    ∷ unwritten whole_table whole_request [] (refusal 13 0)
    ∷ unwritten whole_table whole_request (lent 29) (refusal 13 0)
    ∷ written whole_table whole_request (lent 30) 30 whole
    ∷ written whole_table whole_request (lent 31) 30 (whole ++ (0xEE ∷ []))
    ∷ written whole_table whole_request (lent 33) 30 (whole ++ (0xEE ∷ 0xEE ∷ 0xEE ∷ []))
    ∷ []

-- R55, R59: records stop with the last slot that holds something, and entries of slots that hold nothing are left out
abbrev length_edges : List WriteEdge
length_edges =
    written whole_table full_request (lent 30) 30 whole
    ∷ unwritten (table_of 0x0807060504030201 (replicate 16 empty)) full_request (lent 15) (refusal 13 0)
    ∷ written (table_of 0x0807060504030201 (replicate 16 empty)) full_request (lent 16) 16 (clock ++ request)
    ∷ unwritten (table_of 0x0807060504030201 (replicate 15 empty ++ (line_slot ∷ []))) (request_with (replicate 16 0x3231) 0x8281 0x9291) (lent 57) (refusal 13 0)
    ∷ written (table_of 0x0807060504030201 (replicate 15 empty ++ (line_slot ∷ []))) (request_with (replicate 16 0x3231) 0x8281 0x9291) (lent 58) 58
    (clock ++ times 15 free ++ line ++ request)
    ∷ unwritten (table_of 0x0807060504030201 (replicate 16 line_slot)) (request_with (replicate 16 0x3231) 0x8281 0x9291) (lent 207) (refusal 13 0)
    ∷ written (table_of 0x0807060504030201 (replicate 16 line_slot)) (request_with (replicate 16 0x3231) 0x8281 0x9291) (lent 208) 208 longest
    ∷ []

-- a line that leaves, and behind a slot that holds nothing one that renews
abbrev leaving_table : Table
leaving_table = table_of 0x0807060504030201 (leaving_slot ∷ empty ∷ line_slot ∷ replicate 13 empty)

abbrev leaving_request : Request
leaving_request = request_with (0x3231 ∷ 0x5251 ∷ 0x3231 ∷ replicate 13 0x5453) 0x8281 0x9291

-- R53, R55, R59: a line that leaves has a record under its own mark, as long as another
abbrev leaving_write_edges : List WriteEdge
leaving_write_edges =
    unwritten leaving_table leaving_request (lent 41) (refusal 13 0)
    ∷ written leaving_table leaving_request (lent 42) 42 (clock ++ leaving_line ++ free ++ line ++ request)
    ∷ written leaving_table leaving_request (lent 43) 42 (clock ++ leaving_line ++ free ++ line ++ request ++ (0xEE ∷ []))
    ∷ written (table_of 0x0807060504030201 (replicate 15 empty ++ (leaving_slot ∷ []))) (request_with (replicate 16 0x3231) 0x8281 0x9291) (lent 58) 58
    (clock ++ times 15 free ++ leaving_line ++ request)
    ∷ unwritten (table_of 0x0807060504030201 (replicate 16 leaving_slot)) (request_with (replicate 16 0x3231) 0x8281 0x9291) (lent 207) (refusal 13 0)
    ∷ written (table_of 0x0807060504030201 (replicate 16 leaving_slot)) (request_with (replicate 16 0x3231) 0x8281 0x9291) (lent 208) 208
    (clock ++ times 16 leaving_line ++ request)
    ∷ unwritten (table_of 0x0807060504030201 (leaving_slot ∷ waiting 1 4 3 ∷ replicate 14 empty)) leaving_request (lent 240) (refusal 3 1)
    ∷ []

-- R55, R59: all of them
unfoldable pub write_edges : List WriteEdge
write_edges = order_edges ++ length_edges ++ leaving_write_edges

-- what the definitions say of the input
abbrev pub writing : WriteEdge → Said ℕ × List ℕ
writing w = (write_of w.table w.request (length w.buffer), buffer_of w.table w.request w.buffer)

-- what the row says
abbrev pub expected : WriteEdge → Said ℕ × List ℕ
expected w = (w.answers, w.leaves)

-- R23, R33, R59: what the writer answers to each, and what it leaves in the buffer
pub write_edges_lem : map writing write_edges ≡ map expected write_edges
unfolding lowest card_of length_of write_edges
write_edges_lem = refl

-- R72: what a card keeps of a request with entries for slots that hold nothing; a line that leaves keeps its own
pub cleared_edge : (cleared whole_table full_request ≡ whole_request) × (cleared leaving_table leaving_request ≡ request_with (0x3231 ∷ 0 ∷ 0x3231 ∷ replicate 13 0) 0x8281 0x9291)
cleared_edge = (refl, refl)

-- R56: what is handed out with a refusal, and with a card that reads
pub handed_edges :
    map (λ (l : List ℕ). handed 5 (read_of l)) (clock ∷ whole ∷ [])
    ≡ record {
      card = carrying (table_of 0 (replicate 16 empty)) (request_with (replicate 16 0) 0 0);
      turned = 0;
      answer = Err (refusal 11 10);
    }
    ∷ record { card = carrying whole_table whole_request; turned = 5; answer = Ok tt }
    ∷ []
unfolding marked record_of records_of read_with
handed_edges = refl

-- R17, R59: the reader's answers say their own numbers, whatever table stands beside a refusal
pub said_edges : (t : Table) (q : Request) →
    map said_read (record { card = carrying t q; turned = 0; answer = Err (refusal 11 34) } ∷ record { card = carrying t q; turned = 5; answer = Ok tt } ∷ [])
    ≡ Err (refusal 11 34) ∷ Ok (record { table = t; request = q }) ∷ []
said_edges t q = refl
