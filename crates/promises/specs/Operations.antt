-- What the contract of each public operation allows, in one place: its answer, and what a lent table or buffer holds then.
use Rattle.std.specs.Prelude.{Option, ℕ, ◌≡◌, List, length}
use Rattle.table.specs.Words.{Said}
use Rattle.table.specs.declared.Table.{Table}
use Rattle.table.specs.declared.Request.{Request}
use Rattle.table.specs.declared.Acted.{Acted}
use Rattle.table.specs.Words.{empty_table}
use Rattle.table.specs.Step.{step_of}
use Rattle.table.specs.Leave.{leave_of}
use Rattle.card.specs.declared.ReadCard.{ReadCard}
use Rattle.card.specs.declared.Reading.{Reading}
use Rattle.card.specs.Reading.{read_of}
use Rattle.card.specs.Twin.{turned_of}
use Rattle.card.specs.Answers.{handed, reading_with, write_of, buffer_of}
use Rattle.driver.specs.Driven.{driven_of}
use Rattle.reply.specs.Line.{answer_line, length_for, held_after}
use Rattle.image.specs.declared.Loaded.{Loaded}
use Rattle.image.specs.Loading.{load_of}
use Rattle.image.specs.Answers.{handed_out, store_of, stored_in}
use Rattle.calls.specs.declared.Returned.{Returned}
use Rattle.calls.specs.Results.{result_of}
use Rattle.calls.specs.Cards.{line_for, put_of, rewrite_as, rewritten_of, run_of}
use Rattle.calls.specs.Tables.{ask_for, after_admit, step_for, after_step, leave_for, after_leave, ReadyFor, counts_for, counts_after}
use Rattle.calls.specs.Moves.{write_card_for, card_after, read_card_for, image_after, numbers_after}

-- R48: step, and driven, which steps a table of its own
abbrev pub Steps : Table → Acted (Option ℕ) → Type 0
Steps t s = s ≡ step_of t

-- R100: leave
abbrev pub LetsGo : Table → (number : ℕ) → Acted ℕ → Type 0
LetsGo t n r = r ≡ leave_of t n

-- R51: drive answers o and leaves the table u behind the reference
abbrev pub Drives : Table → Said (Option ℕ) → Table → Type 0
Drives t o u = (o ≡ (step_of t).answer) × (u ≡ driven_of t)

-- R56: try_read, by which every program and every call over the boundary reads a card
abbrev pub TriesRead : List ℕ → Said Reading → Type 0
TriesRead card s = s ≡ reading_with (turned_of card) (read_of card)

-- R56: read
abbrev pub Reads : List ℕ → ReadCard → Type 0
Reads card c = c ≡ handed (turned_of card) (read_of card)

-- R59: write answers a and leaves the bytes m in the buffer
abbrev pub Writes : Table → Request → (buffer : List ℕ) → Said ℕ → List ℕ → Type 0
Writes t q l a m = (a ≡ write_of t q (length l)) × (m ≡ buffer_of t q l)

-- R62: put_reply answers w and leaves the bytes m in the buffer
abbrev pub Puts : Said ℕ → (buffer : List ℕ) → Option ℕ → List ℕ → Type 0
Puts a l w m = (w ≡ length_for (answer_line a) l) × (m ≡ held_after (answer_line a) l)

-- R83: try_load, by which every call over the boundary loads an image
abbrev pub TriesLoad : List ℕ → Said Table → Type 0
TriesLoad l s = s ≡ load_of l

-- R83: load
abbrev pub Loads : List ℕ → Loaded → Type 0
Loads l x = x ≡ handed_out (load_of l)

-- R84: store answers a and leaves the bytes m in the buffer
abbrev pub Stores : Table → (buffer : List ℕ) → Said ℕ → List ℕ → Type 0
Stores t l a m = (a ≡ store_of (length l)) × (m ≡ stored_in t l)

-- ---- over the boundary

-- R64: trimthuel_answer answers r and leaves the bytes m in the buffer
abbrev pub AnswersCard : (card buffer : List ℕ) → Returned → List ℕ → Type 0
AnswersCard card l r m = (r ≡ result_of (put_of (line_for card) l)) × (m ≡ held_after (line_for card) l)

-- R65: trimthuel_rewrite answers r and leaves the bytes m in the buffer
abbrev pub Rewrites : (card buffer : List ℕ) → Returned → List ℕ → Type 0
Rewrites card l r m = (r ≡ rewrite_as card (length l)) × (m ≡ rewritten_of card l)

-- R66: trimthuel_run, which is lent no byte to write
abbrev pub RunsCard : (card : List ℕ) (ticks : ℕ) → Returned → Type 0
RunsCard card ticks r = r ≡ result_of (run_of card ticks)

-- R85: trimthuel_empty answers r and leaves the bytes m in the buffer
abbrev pub Empties : (buffer : List ℕ) → Returned → List ℕ → Type 0
Empties l r m = (r ≡ result_of (store_of (length l))) × (m ≡ stored_in empty_table l)

-- R86: trimthuel_ask, which is lent no byte to write
abbrev pub AsksImage : (image : List ℕ) → Request → Returned → Type 0
AsksImage l q r = r ≡ ask_for (load_of l) q

-- R87: trimthuel_admit answers r and leaves the bytes m
abbrev pub AdmitsImage : (image : List ℕ) → Request → Returned → List ℕ → Type 0
AdmitsImage l q r m = (r ≡ ask_for (load_of l) q) × (m ≡ after_admit (load_of l) q l)

-- R88: trimthuel_step answers r and leaves the bytes m
abbrev pub StepsImage : (image : List ℕ) → Returned → List ℕ → Type 0
StepsImage l r m = (r ≡ step_for (load_of l)) × (m ≡ after_step (load_of l) l)

-- R102: trimthuel_leave answers r and leaves the bytes m
abbrev pub LetsGoImage : (image : List ℕ) (number : ℕ) → Returned → List ℕ → Type 0
LetsGoImage l n r m = (r ≡ leave_for (load_of l) n) × (m ≡ after_leave (load_of l) n l)

-- R89: trimthuel_ready, which is lent no byte to write
abbrev pub ReadiesImage : (image : List ℕ) → Returned → Type 0
ReadiesImage l r = ReadyFor (load_of l) r

-- R98: trimthuel_counts answers r and leaves the numbers m
abbrev pub CountsImage : (image numbers : List ℕ) → Returned → List ℕ → Type 0
CountsImage l ns r m = (r ≡ counts_for (load_of l)) × (m ≡ counts_after (load_of l) ns)

-- R91: trimthuel_write_card answers r and leaves the bytes m in the buffer
abbrev pub WritesImage : (image : List ℕ) → Request → (buffer : List ℕ) → Returned → List ℕ → Type 0
WritesImage l q out r m = (r ≡ result_of (write_card_for (load_of l) q (length out))) × (m ≡ card_after (load_of l) q out)

-- R92: trimthuel_read_card answers r and leaves the bytes m and the numbers n
abbrev pub ReadsImage : (card image numbers : List ℕ) → Returned → (m n : List ℕ) → Type 0
ReadsImage card l ns r m n =
    (r ≡ result_of (read_card_for (read_of card) (length l))) × (m ≡ image_after (read_of card) l) × (n ≡ numbers_after (read_of card) (length l) ns)
