-- What loading and storing answer, and what the lent buffer holds then.
use Rattle.std.specs.Prelude.{Ok, Err, ℕ, List, length, leb}
use Rattle.line.specs.Slots.{pick}
use Rattle.table.specs.declared.Table.{Table}
use Rattle.table.specs.Words.{empty_table, refusal, Said}
use Rattle.card.specs.Answers.{filled}
use Rattle.image.specs.declared.Loaded.{Loaded}
use Rattle.image.specs.Image.{size, image_of}

-- R84: what is handed out; beside a refusal it is nothing of the image
abbrev pub handed_out : Said Table → Loaded
handed_out (Ok t) = record { table = t; answer = Ok tt }
handed_out (Err r) = record { table = empty_table; answer = Err r }

-- what an answer of loading says: the table beside it, or the refusal
abbrev pub said_beside : Table → Said (Unit {0}) → Said Table
said_beside t (Ok u) = Ok t
said_beside t (Err r) = Err r

-- the same of all that is handed out
abbrev pub said_loaded : Loaded → Said Table
said_loaded x = said_beside x.table x.answer

-- R33, R84: the image's length where there is room for it
unfoldable pub store_of : (room : ℕ) → Said ℕ
store_of room = pick (leb (size 16) room) (Ok (size 16)) (Err (refusal 13 0))

-- R84: the lent buffer after storing
abbrev pub stored_in : Table → List ℕ → List ℕ
stored_in t l = filled (image_of t) l (store_of (length l))
