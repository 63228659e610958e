-- What the reader and the writer answer, and what the lent buffer holds then.
use Rattle.std.specs.Prelude.{Ok, Err, ℕ, List, ◌++◌, length, drop, replicate, leb, Option, None, Some}
use Rattle.table.specs.declared.Table.{Table}
use Rattle.table.specs.declared.Request.{Request}
use Rattle.line.specs.Slots.{pick, is_waiting, lowest_of}
use Rattle.table.specs.Words.{request_with, empty_table, refusal, Said}
use Rattle.card.specs.declared.Reading.{Reading}
use Rattle.card.specs.declared.ReadCard.{ReadCard}
use Rattle.card.specs.Marked.{Records}
use Rattle.card.specs.declared.Card.{Card}
use Rattle.card.specs.Card.{carrying, card_of}
use Rattle.card.specs.Reading.{meaning}
use Rattle.card.specs.Twin.{turned_in}

-- R56: the request beside a refusal
abbrev pub zero_request : Request
zero_request = request_with (replicate 16 0) 0 0

-- R56, R58: a card that was read, with the word of the slots whose records were TA
abbrev pub reading_with : (turned : ℕ) → Said Card → Said Reading
reading_with w (Ok c) = Ok (record { card = c; turned = w })
reading_with w (Err r) = Err r

-- R56, R58: what is handed out; beside a refusal it is nothing of the card
abbrev pub handed_out : Said Reading → ReadCard
handed_out (Ok x) = record { card = x.card; turned = x.turned; answer = Ok tt }
handed_out (Err r) = record { card = carrying empty_table zero_request; turned = 0; answer = Err r }

-- R56, R58: what is handed out of what was read, with that word
abbrev pub handed : (turned : ℕ) → Said Card → ReadCard
handed w s = handed_out (reading_with w s)

-- R56, R58: the same of a card's records
abbrev pub reading_of : Said Records → Said Reading
reading_of s = reading_with (turned_in s) (meaning s)

-- what the reader's answer says: the table and the request beside it, or the refusal's number and place
abbrev pub said_with : Table → Request → Said (Unit {0}) → Said Card
said_with t q (Ok u) = Ok (carrying t q)
said_with t q (Err r) = Err r

-- the same of all that the reader hands out
abbrev pub said_read : ReadCard → Said Card
said_read c = said_with c.card.table c.card.request c.answer

-- R33: the card's length where there is room for it
unfoldable pub length_of : Table → Request → (room : ℕ) → Said ℕ
length_of t q room =
    pick (leb (length (card_of t q)) room) (Ok (length (card_of t q))) (Err (refusal 13 0))

-- R23: a waiting line is refused at its slot
abbrev pub unless_waiting : Option ℕ → Said ℕ → Said ℕ
unless_waiting (Some k) s = Err (refusal 3 k)
unless_waiting None s = s

-- R59: waiting lines first, then the room
abbrev pub write_of : Table → Request → (room : ℕ) → Said ℕ
write_of t q room = unless_waiting (lowest_of is_waiting t.slots) (length_of t q room)

-- R17, R59: the buffer after an answer; a refusal leaves every byte
abbrev pub filled : List ℕ → List ℕ → Said ℕ → List ℕ
filled card l (Ok n) = card ++ drop n l
filled card l (Err r) = l

-- R59: the lent buffer when the writer returns
abbrev pub buffer_of : Table → Request → List ℕ → List ℕ
buffer_of t q l = filled (card_of t q) l (write_of t q (length l))
