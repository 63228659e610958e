-- The card of a table and a request: its bytes, record by record. Lists of any length: sixteen is the code's number.
use Rattle.std.specs.Prelude.{ℕ, zero, suc, ◌<◌, ◌≡◌, List, [], ◌∷◌, ◌++◌, length}
use Rattle.line.specs.declared.Held.{Held}
use Rattle.line.specs.declared.Slot.{Slot}
use Rattle.line.specs.Slots.{pick, is_nothing}
use Rattle.table.specs.declared.Table.{Table}
use Rattle.table.specs.declared.Request.{Request}
use Rattle.table.specs.Words.{request_with}
use Rattle.card.specs.declared.Card.{Card}
use Rattle.card.specs.Bytes.{le}
use Rattle.card.specs.Layout.{CK, RQ}
use Rattle.card.specs.Marked.{record_for, recorded_bytes, CarriedAs}

-- R53: CK and the clock
abbrev pub clock_record : (clock : ℕ) → List ℕ
clock_record k = CK ++ le 8 k

-- R53: a slot's record
abbrev pub slot_record : Held → (T' : ℕ) → List ℕ
slot_record h t = recorded_bytes (record_for h t)

-- R53: RQ and the new line's two numbers
abbrev pub request_record : (Cn Tn : ℕ) → List ℕ
request_record c t = RQ ++ (le 2 c ++ le 2 t)

-- R54: the records of the first n slots, slot 0 first; where there is no entry it is 0
abbrev pub slot_records : ℕ → List Slot → (stretched : List ℕ) → List ℕ
slot_records zero ss ts = []
slot_records (suc n) [] ts = []
slot_records (suc n) (s ∷ ss) [] = slot_record s.held 0 ++ slot_records n ss []
slot_records (suc n) (s ∷ ss) (t ∷ ts) = slot_record s.held t ++ slot_records n ss ts

-- an empty slot in front of others counts only if one of these is used
abbrev pub one_more : ℕ → ℕ
one_more zero = zero
one_more (suc n) = suc (suc n)

-- a slot in front of others of which n are used
abbrev pub used_from : Held → ℕ → ℕ
used_from h n = pick (is_nothing h) (one_more n) (suc n)

-- R55: how many slots there are up to the last that holds something
abbrev pub used : List Slot → ℕ
used [] = zero
used (s ∷ ss) = used_from s.held (used ss)

-- R54, R55: the clock, the slots up to the last used one, the new line
unfoldable pub card_of : Table → Request → List ℕ
card_of t q =
    clock_record t.clock ++
    (slot_records (used t.slots) t.slots q.stretched ++
    request_record q.need q.period)

-- a table and a request, as a card carries them
abbrev pub carrying : Table → Request → Card
carrying t q = record { table = t; request = q }

-- R72: what a card carries of a slot's entry, none where the slot holds nothing
abbrev pub entry_of : Held → ℕ → ℕ
entry_of h t = pick (is_nothing h) 0 t

-- R72: the entries, one for each slot, that a card carries
abbrev pub entries : List Slot → List ℕ → List ℕ
entries [] ts = []
entries (s ∷ ss) [] = []
entries (s ∷ ss) (t ∷ ts) = entry_of s.held t ∷ entries ss ts

-- R72: the request that a card carries
abbrev pub cleared : Table → Request → Request
cleared t q = request_with (entries t.slots q.stretched) q.need q.period

-- R53: a slot has a record whose numbers fit: no line waits
abbrev pub Carried : Held → (T' : ℕ) → Type 0
Carried h t = CarriedAs (record_for h t)

-- there is an entry for each slot
abbrev pub AllCarried : List Slot → List ℕ → Type 0
AllCarried [] [] = Unit {0}
AllCarried [] (t ∷ ts) = ⊥
AllCarried (s ∷ ss) [] = ⊥
AllCarried (s ∷ ss) (t ∷ ts) = Carried s.held t × AllCarried ss ts

-- R2, R6: a table of n slots without waiting lines and a request, whose numbers fit their widths
pub record Fits (n : ℕ) (t : Table) (q : Request) : Type 0 where
  pub slots : length t.slots ≡ n
  pub clock : t.clock < 18446744073709551616
  pub lines : AllCarried t.slots q.stretched
  pub need : q.need < 65536
  pub period : q.period < 65536
