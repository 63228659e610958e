-- Whole cards: what each function says of a card's bytes, and what the lent buffer holds then.
use Rattle.std.specs.Prelude.{Ok, Err, ℕ, zero, suc, ◌+◌, List, Option, None, Some}
use Rattle.table.specs.declared.Table.{Table}
use Rattle.table.specs.declared.Acted.{Acted}
use Rattle.table.specs.Words.{refusal, Said}
use Rattle.table.specs.Ask.{ask_of}
use Rattle.table.specs.Admit.{admit_of}
use Rattle.table.specs.Step.{step_of}
use Rattle.card.specs.declared.Card.{Card}
use Rattle.card.specs.Reading.{read_of}
use Rattle.card.specs.Twin.{turned_of}
use Rattle.card.specs.Answers.{write_of, buffer_of}
use Rattle.reply.specs.Line.{answer_line, length_for}
use Rattle.calls.specs.declared.Returned.{Returned}
use Rattle.calls.specs.Results.{result_at}

-- R60: the reader's refusal, or what ask answers
abbrev pub answer_for : Said Card → Said ℕ
answer_for (Ok c) = ask_of c.table c.request
answer_for (Err x) = Err x

-- R60: the answer to a card's bytes
abbrev pub answer_of : List ℕ → Said ℕ
answer_of card = answer_for (read_of card)

-- R60, R64: the line of a card's answer
abbrev pub line_for : List ℕ → List ℕ
line_for card = answer_line ((answer_of card))

-- R33: a buffer that is too short for the line is refusal 13
abbrev pub said_put : Option ℕ → Said ℕ
said_put (Some n) = Ok n
said_put None = Err (refusal 13 0)

-- R62, R64: what putting a line into a buffer says: the line's length, or 13
abbrev pub put_of : (line buffer : List ℕ) → Said ℕ
put_of line buffer = said_put (length_for line buffer)

-- R65: a card written anew into a buffer with so much room: the reader's refusal, or what the writer says
abbrev pub rewrite_for : Said Card → (room : ℕ) → Said ℕ
rewrite_for (Ok c) room = write_of c.table c.request room
rewrite_for (Err x) room = Err x

-- R65: the same of the card's bytes
abbrev pub rewrite_of : (card : List ℕ) (room : ℕ) → Said ℕ
rewrite_of card room = rewrite_for (read_of card) room

-- R65, R94: the result of it, whose place is the word of the slots whose records were TA
abbrev pub rewrite_as : (card : List ℕ) (room : ℕ) → Returned
rewrite_as card room = result_at (turned_of card) (rewrite_of card room)

-- R65: what the buffer holds then; a refusal leaves every byte
abbrev pub rewritten_for : Said Card → List ℕ → List ℕ
rewritten_for (Ok c) buffer = buffer_of c.table c.request buffer
rewritten_for (Err x) buffer = buffer

-- R65, R94: the same of the card's bytes
abbrev pub rewritten_of : (card buffer : List ℕ) → List ℕ
rewritten_of card buffer = rewritten_for (read_of card) buffer

-- R66: a tick counts if a line ran in it
abbrev pub counted : Option ℕ → ℕ
counted None = 0
counted (Some k) = 1

-- so many ticks more
abbrev pub more : ℕ → Said ℕ → Said ℕ
more k (Ok n) = Ok (k + n)
more k (Err x) = Err x

-- R66: a step in front of what the steps after it say; a refused one is the last
abbrev pub and_then : Said (Option ℕ) → Said ℕ → Said ℕ
and_then (Ok o) s = more (counted o) s
and_then (Err x) s = Err x

-- R66: so many steps of a table: the number of ticks in which a line ran, or the first refusal
unfoldable pub ticks_run : (ticks : ℕ) → Table → Said ℕ
ticks_run zero t = Ok 0
ticks_run (suc n) t = and_then ((step_of t).answer) (ticks_run n (step_of t).table)

-- R66: ask's refusal, or the steps of the admitted table
abbrev pub unless_refused : Said ℕ → Said ℕ → Said ℕ
unless_refused (Ok start) s = s
unless_refused (Err x) s = Err x

-- R66: what an admission and so many steps after it say
abbrev pub run_admitted : (ticks : ℕ) → Acted ℕ → Said ℕ
run_admitted n a = unless_refused a.answer (ticks_run n a.table)

-- R66: the reader's refusal, or the run of the card's table with its request admitted
abbrev pub run_for : (ticks : ℕ) → Said Card → Said ℕ
run_for n (Ok c) = run_admitted n (admit_of c.table c.request)
run_for n (Err x) = Err x

-- R66: the same of the card's bytes
abbrev pub run_of : (card : List ℕ) (ticks : ℕ) → Said ℕ
run_of card n = run_for n (read_of card)
