-- R20: for each refusal an input that meets it, with the place.
use Rattle.std.specs.Prelude.{Err, ℕ, ◌+◌, ◌-◌, ◌^◌, List, [], ◌∷◌, ◌++◌, take, replicate}
use Rattle.table.specs.declared.Table.{Table}
use Rattle.table.specs.declared.Request.{Request}
use Rattle.table.specs.declared.Refusal.{Refusal}
use Rattle.line.specs.Slots.{empty}
use Rattle.table.specs.Words.{refusal}
use Rattle.table.specs.Cases.{CaseLine, Case, line, running, parting, waiting, table_of, tallied, table_for, request_for, case, case_a, case_g, case_i, case_j, case_l}
use Rattle.card.specs.Layout.{TA}
use Rattle.card.specs.Card.{card_of}

-- slot 0 runs a line, slot 1 is empty, slot 2 waits
abbrev pub waiting_table : Table
waiting_table = table_of 0 (running 1 4 0 1 ∷ empty ∷ waiting 1 4 3 ∷ [])

-- sixteen lines, so that no slot is empty
abbrev pub sixteen_lines : List CaseLine
sixteen_lines = replicate 16 (line 1 64 64 0 1)

-- R20: 1 to 10, both parts of 4
unfoldable pub ask_meets : List Case
ask_meets =
    case (2 ^ 48 - 65536 + 1) [] 1 4 (Err (refusal 1 0))
    ∷ case 0 sixteen_lines 1 64 (Err (refusal 2 0))
    ∷ record { table = waiting_table; request = request_for [] 1 4; answer = Err (refusal 3 2) }
    ∷ case 0 (line 1 4 4 0 1 ∷ line 5 4 4 0 0 ∷ []) 1 4 (Err (refusal 4 1))
    ∷ record { table = tallied (1 ∷ []) 0 (table_of 0 []); request = request_for [] 1 4; answer = Err (refusal 4 0) }
    ∷ case 0 (line 1 4 4 0 1 ∷ line 1 4 3 0 1 ∷ []) 1 4 (Err (refusal 5 1))
    ∷ case 0 [] 5 4 (Err (refusal 6 0))
    ∷ case_l
    ∷ case_i
    ∷ case_g
    ∷ case_j
    ∷ []

-- a table, and the refusal that its step meets
pub record Meets : Type 0 where
  pub table : Table
  pub refused : Refusal

-- R20: 4 in both its parts, 14 and 15. A line that is owed two ticks one tick before its end stands in slot 1.
unfoldable pub step_meets : List Meets
step_meets =
    record { table = table_for 0 (line 1 4 4 0 1 ∷ line 5 4 4 0 0 ∷ []); refused = refusal 4 1 }
    ∷ record { table = tallied (1 ∷ []) 0 (table_of 0 []); refused = refusal 4 0 }
    ∷ record { table = table_for 0 (line 1 4 4 0 1 ∷ line 2 4 4 3 2 ∷ []); refused = refusal 14 1 }
    ∷ record { table = table_for (2 ^ 48) []; refused = refusal 15 0 }
    ∷ []

-- a table and a number, and the refusal that they meet in a leave
pub record NoLeave : Type 0 where
  pub table : Table
  pub number : ℕ
  pub refused : Refusal

-- R20: 4 in both its parts, and 16: no such slot, one that holds nothing, and a line that leaves already
unfoldable pub leave_meets : List NoLeave
leave_meets =
    record { table = table_for 0 (line 1 4 4 0 1 ∷ line 5 4 4 0 0 ∷ []); number = 0; refused = refusal 4 1 }
    ∷ record { table = tallied (1 ∷ []) 0 (table_of 0 (running 1 4 0 1 ∷ [])); number = 0; refused = refusal 4 0 }
    ∷ record { table = table_of 0 (running 1 4 0 1 ∷ []); number = 16; refused = refusal 16 16 }
    ∷ record { table = table_of 0 (running 1 4 0 1 ∷ []); number = 1; refused = refusal 16 1 }
    ∷ record { table = table_of 0 (parting 1 4 0 1 ∷ []); number = 0; refused = refusal 16 0 }
    ∷ []

-- a card, and the refusal that it meets in the reader
pub record BrokenCard : Type 0 where
  pub bytes : List ℕ
  pub refused : Refusal

-- a table, a request and a buffer, and the refusal that they meet in the writer
pub record ShortBuffer : Type 0 where
  pub table : Table
  pub request : Request
  pub room : ℕ
  pub refused : Refusal

-- R20: 11, a card cut in its second slot record, and no card at all; the same cut after the mark of an old record (12 is no longer met)
unfoldable pub read_meets : List BrokenCard
read_meets =
    record { bytes = take 30 (card_of case_a.table case_a.request); refused = refusal 11 22 }
    ∷ record { bytes = []; refused = refusal 11 0 }
    ∷ record { bytes = take 22 (card_of case_a.table case_a.request) ++ TA; refused = refusal 11 22 }
    ∷ []

-- R20: 3, a waiting line in slot 2; 13, one byte too few for the card of case A
unfoldable pub write_meets : List ShortBuffer
write_meets =
    record { table = waiting_table; request = case_a.request; room = 240; refused = refusal 3 2 }
    ∷ record { table = case_a.table; request = case_a.request; room = 39; refused = refusal 13 0 }
    ∷ []
