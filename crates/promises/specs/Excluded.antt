-- What meets a contract, and wrong programs that do not.
use Rattle.std.specs.Prelude.{Option}
use Rattle.std.specs.Prelude.{Ok, Err, ℕ, ◌+◌, ◌≤◌, ◌<◌, ◌≡◌, Bool, List, [], ◌∷◌, pos}
use Rattle.table.specs.Words.{Said}
use Rattle.line.specs.declared.Held.TheVariants.{Nothing}
use Rattle.line.specs.Slots.{pick, at}
use Rattle.line.specs.Demand.{last_end, ticks_short}
use Rattle.line.specs.Ends.{ends_of, excess_at, short_at}
use Rattle.table.specs.declared.Table.{Table}
use Rattle.table.specs.declared.Request.{Request}
use Rattle.table.specs.declared.Refusal.{Refusal}
use Rattle.table.specs.declared.Acted.{Acted}
use Rattle.table.specs.Words.{later_with}
use Rattle.table.specs.Grounds.{asked, Answers}
use Rattle.table.specs.Step.{step_of}
use Rattle.table.specs.Leave.{leave_of}
use Rattle.card.specs.declared.ReadCard.{ReadCard}
use Rattle.card.specs.declared.Reading.{Reading}
use Rattle.card.specs.declared.Card.{Card}
use Rattle.card.specs.Reading.{read_of}
use Rattle.card.specs.Twin.{turned_of}
use Rattle.card.specs.Answers.{handed, reading_with, buffer_of}

-- R41: what ask's contract says of a function
abbrev pub MeetsAsk : (Table → Request → Said ℕ) → Type 0
MeetsAsk f = (t : Table) (q : Request) → Answers t q ((f t q))

-- R48: what step's says
abbrev pub MeetsStep : (Table → Acted (Option ℕ)) → Type 0
MeetsStep f = (t : Table) → f t ≡ step_of t

-- R100: what leave's says
abbrev pub MeetsLeave : (Table → ℕ → Acted ℕ) → Type 0
MeetsLeave f = (t : Table) (n : ℕ) → f t n ≡ leave_of t n

-- R56: what the reader's says
abbrev pub MeetsRead : (List ℕ → ReadCard) → Type 0
MeetsRead f = (l : List ℕ) → f l ≡ handed (turned_of l) (read_of l)

-- R56: what try_read's says
abbrev pub MeetsTryRead : (List ℕ → Said Reading) → Type 0
MeetsTryRead f = (l : List ℕ) → f l ≡ reading_with (turned_of l) (read_of l)

-- R59: what the writer's says of the lent buffer
abbrev pub MeetsWrite : (Table → Request → List ℕ → List ℕ) → Type 0
MeetsWrite f = (t : Table) (q : Request) (l : List ℕ) → f t q l ≡ buffer_of t q l

-- R18, R41: it refuses whatever it is asked
abbrev pub RefusesEverything : (Table → Request → Said ℕ) → Type 0
RefusesEverything f = (t : Table) (q : Request) → (x : Refusal) × (f t q ≡ Err x)

-- R14, R41: it starts every line at once
abbrev pub SaysTheClock : (Table → Request → Said ℕ) → Type 0
SaysTheClock f = (t : Table) (q : Request) → f t q ≡ Ok t.clock

-- the first tick in the list at which the test holds, else 0
abbrev pub first_listed : (ℕ → Bool) → List ℕ → ℕ
first_listed test [] = 0
first_listed test (d ∷ ds) = pick (test d) d (first_listed test ds)

-- R103: refusal 10 of it says what P says of the table and the request
abbrev pub TenOf : (Table → Request → Said ℕ) → (Table → Request → Refusal → Type 0) → Type 0
TenOf f P = (t : Table) (q : Request) (x : Refusal) → f t q ≡ Err x → x.number ≡ 10 → P t q x

-- R103: of the short ends the first by slots, lowest first, and not by time
abbrev pub FirstBySlot : Table → Request → Refusal → Type 0
FirstBySlot t q x = x.tick ≡ first_listed (short_at t.clock (asked t q)) (ends_of t.clock (last_end t.clock (asked t q)) (asked t q))

-- R103: a tick with the greatest excess
abbrev pub GreatestExcess : Table → Request → Refusal → Type 0
GreatestExcess t q x = (d : ℕ) → t.clock ≤ d → ticks_short (excess_at t.clock (asked t q) d) ≤ x.excess

-- R103: the tick counted from the clock
abbrev pub FromTheClock : Table → Request → Refusal → Type 0
FromTheClock t q x = excess_at t.clock (asked t q) (t.clock + x.tick) ≡ pos x.excess

-- R103: an excess that is one too great
abbrev pub OneTooGreat : Table → Request → Refusal → Type 0
OneTooGreat t q x = x.excess ≡ 1 + ticks_short (excess_at t.clock (asked t q) x.tick)

-- R103: a refusal of another number says an excess too
abbrev pub KeptInAnother : (Table → Request → Said ℕ) → Type 0
KeptInAnother f = (t : Table) (q : Request) (x : Refusal) → f t q ≡ Err x → 1 ≤ x.excess

-- R45: it does nothing to the table
abbrev pub LeavesTheTable : (Table → Acted (Option ℕ)) → Type 0
LeavesTheTable f = (t : Table) → (f t).table ≡ t

-- R45: after the first tick it moves the clock alone
abbrev pub OnlyMovesTheClock : (Table → Acted (Option ℕ)) → Type 0
OnlyMovesTheClock f = (t : Table) → 0 < t.clock → (f t).table ≡ later_with t t.slots

-- R99, R100: it grants a leave, and every line renews as before
abbrev pub OnlySaysSo : (Table → ℕ → Acted ℕ) → Type 0
OnlySaysSo f = (t : Table) (n k : ℕ) → (f t n).answer ≡ Ok k → (f t n).table ≡ t

-- R100: whoever is granted a leave is gone at once
abbrev pub DropsAtOnce : (Table → ℕ → Acted ℕ) → Type 0
DropsAtOnce f = (t : Table) (n k : ℕ) → (f t n).answer ≡ Ok k → at (f t n).table.slots n ≡ Nothing

-- R56: it hands out one and the same request for all cards that read
abbrev pub OneRequest : (List ℕ → ReadCard) → Type 0
OneRequest f = (l m : List ℕ) (c d : Card) → read_of l ≡ Ok c → read_of m ≡ Ok d → (f l).card.request ≡ (f m).card.request

-- R56: it reads one and the same request from all cards that read
abbrev pub OneReading : (List ℕ → Said Reading) → Type 0
OneReading f = (l m : List ℕ) (x y : Reading) → f l ≡ Ok x → f m ≡ Ok y → x.card.request ≡ y.card.request

-- R59: it leaves every buffer as it was
abbrev pub WritesNothing : (Table → Request → List ℕ → List ℕ) → Type 0
WritesNothing f = (t : Table) (q : Request) (l : List ℕ) → f t q l ≡ l
