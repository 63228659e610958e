-- Marked records, R53: what stands on a card between its bytes and its table. A record keeps its mark and its numbers as they stand.
use Rattle.std.specs.Prelude.{None, Some, Option, ℕ, ◌<◌, ◌≡◌, List, [], ◌++◌}
use Rattle.line.specs.declared.Run.{Run}
use Rattle.line.specs.declared.Held.{Held}
use Rattle.line.specs.declared.Held.TheVariants.{Nothing, Running, Waiting}
use Rattle.line.specs.declared.Slot.{Slot}
use Rattle.line.specs.Slots.{pick, run_then, holding}
use Rattle.card.specs.declared.Mark.{Mark}
use Rattle.card.specs.declared.SlotRecord.{SlotRecord}
use Rattle.card.specs.Bytes.{le}
use Rattle.card.specs.Layout.{mark_bytes, is_free, is_turned, follows_under, line_mark}

-- R53: a slot's record by its mark and its five numbers
abbrev pub record_with : Mark → (C T T' fourth fifth : ℕ) → SlotRecord
record_with m C T t x y = record { mark = m; need = C; period = T; stretched = t; fourth = x; fifth = y }

-- R53: TF
abbrev pub free : SlotRecord
free = record_with Mark.TF 0 0 0 0 0

-- ---- records and bytes

-- R53: the five numbers of a line
abbrev pub numbers_of : SlotRecord → List ℕ
numbers_of r = le 2 r.need ++ (le 2 r.period ++ (le 2 r.stretched ++ (le 2 r.fourth ++ le 2 r.fifth)))

-- R53: the mark, and behind it the numbers of a line
abbrev pub record_bytes : SlotRecord → List ℕ
record_bytes r = mark_bytes r.mark ++ pick (is_free r.mark) [] (numbers_of r)

-- R53: the numbers of a line fit two bytes each
abbrev pub NumbersFit : SlotRecord → Type 0
NumbersFit r = (r.need < 65536) × (r.period < 65536) × (r.stretched < 65536) × (r.fourth < 65536) × (r.fifth < 65536)

-- R53: a slot's record as a card has it: numbers that fit, or none
abbrev pub Fitting : SlotRecord → Type 0
Fitting r = pick (is_free r.mark) (r ≡ free) (NumbersFit r)

-- ---- records and slots

-- R53, R58: the line of a record by its mark, which says the order of the two last numbers, age and remaining or turned, and what follows the period
abbrev pub line_of : Mark → SlotRecord → Run
line_of m r =
    run_then (follows_under m) r.need r.period (pick (is_turned m) r.fifth r.fourth) (pick (is_turned m) r.fourth r.fifth)

-- R53, R58: what a slot holds by its record
abbrev pub held_under : Mark → SlotRecord → Held
held_under m r = pick (is_free m) Nothing (Running (line_of m r))

-- R53: the slot that a record stands for
abbrev pub slot_for : SlotRecord → Slot
slot_for r = holding (held_under r.mark r)

-- R53: its entry of the request
abbrev pub entry_for : SlotRecord → ℕ
entry_for r = r.stretched

-- R53: the record of a line and its T': TB where it renews, TL where it leaves
abbrev pub line_record : Run → (T' : ℕ) → SlotRecord
line_record x t = record_with (line_mark x.follows) x.need x.period t x.age x.remaining

-- R72: the record's twin: of a TA record its line's, which is TB, and of any other the record itself
abbrev pub twin : SlotRecord → SlotRecord
twin r = pick (is_turned r.mark) (line_record (line_of Mark.TA r) r.stretched) r

-- R53: the record of what a slot holds, with its entry: TB, TL or TF. A waiting line has none, no card carries one.
abbrev pub record_for : Held → (T' : ℕ) → Option SlotRecord
record_for Nothing t = Some free
record_for (Running x) t = Some (line_record x t)
record_for (Waiting w) t = None

-- R53: the bytes of a slot's record
abbrev pub recorded_bytes : Option SlotRecord → List ℕ
recorded_bytes (Some r) = record_bytes r
recorded_bytes None = []

-- R53: there is a record, and it fits
abbrev pub CarriedAs : Option SlotRecord → Type 0
CarriedAs (Some r) = Fitting r
CarriedAs None = ⊥

-- ---- whole cards

-- what a card's records say: the clock, a record for each slot, the new line
pub record Records : Type 0 where
  pub clock : ℕ
  pub slots : List SlotRecord
  pub need : ℕ
  pub period : ℕ

-- these together
abbrev pub saying : (clock : ℕ) → List SlotRecord → (Cn Tn : ℕ) → Records
saying k rs c n = record { clock = k; slots = rs; need = c; period = n }
