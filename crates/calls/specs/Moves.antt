-- A table to a card, and a card to a table: what is said, and what the lent bytes and numbers hold then.
use Rattle.std.specs.Prelude.{Ok, Err, ℕ, List, [], ◌∷◌, ◌++◌}
use Rattle.table.specs.declared.Table.{Table}
use Rattle.table.specs.declared.Request.{Request}
use Rattle.table.specs.Words.{Said}
use Rattle.card.specs.declared.Card.{Card}
use Rattle.card.specs.Answers.{write_of, buffer_of}
use Rattle.image.specs.Answers.{store_of, stored_in}
use Rattle.calls.specs.Tables.{changed}

-- R91: the image's refusal, or what the writer says
abbrev pub write_card_for : Said Table → Request → (room : ℕ) → Said ℕ
write_card_for (Ok t) q room = write_of t q room
write_card_for (Err x) q room = Err x

-- R91: the lent buffer then
abbrev pub card_after : Said Table → Request → List ℕ → List ℕ
card_after (Ok t) q l = buffer_of t q l
card_after (Err x) q l = l

-- R92: the eighteen numbers of a request: every T', then Cn and Tn
abbrev pub eighteen : Request → List ℕ
eighteen q = q.stretched ++ (q.need ∷ q.period ∷ [])

-- R92: the reader's refusal, then the room for the image
abbrev pub read_card_for : Said Card → (room : ℕ) → Said ℕ
read_card_for (Ok c) room = store_of room
read_card_for (Err x) room = Err x

-- R92: the lent image then
abbrev pub image_after : Said Card → List ℕ → List ℕ
image_after (Ok c) l = stored_in c.table l
image_after (Err x) l = l

-- R92: the lent numbers, where the image was stored
abbrev pub numbers_if : Request → Said ℕ → List ℕ → List ℕ
numbers_if q s ns = changed s (eighteen q) ns

-- R92: the lent numbers then
abbrev pub numbers_after : Said Card → (room : ℕ) → List ℕ → List ℕ
numbers_after (Ok c) room ns = numbers_if c.request (store_of room) ns
numbers_after (Err x) room ns = ns
