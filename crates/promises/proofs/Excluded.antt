-- What the contracts rule out: no function that meets one is such a wrong program.
use Rattle.std.specs.Prelude.{Option}
use Rattle.std.specs.Prelude.{Ok}
use Prim.Native.Nat.{ℕ, ◌≤◌}
use mathlib.Core.Path.{◌≡◌, refl, sym, ap, ◌∙◌}
use mathlib.Core.Bool.{true}
use mathlib.Core.List.{List}
use native.Mathlib.Omega.{arith}
use lib.ListN.{get_or, replicate}
use Rattle.line.specs.declared.Held.{Held}
use Rattle.table.specs.declared.Table.{Table}
use Rattle.table.specs.declared.Request.{Request}
use Rattle.table.specs.declared.Acted.{Acted}
use Rattle.table.specs.Words.{empty_table, Said}
use Rattle.line.specs.Slots.{run_with, if_runs, at, lowest}
use Rattle.table.specs.Grounds.{asked, Answers}
use Rattle.table.specs.Counts.{settling}
use Rattle.table.specs.Step.{chosen, advance, step_of}
use Rattle.table.specs.Leave.{leave_of}
use Rattle.line.specs.Leave.{is_parting}
use Rattle.line.proofs.Search.{true_false}
use Rattle.table.specs.Cases.{Case, cases, case_a, case_b, case_c, case_d, case_m}
use Rattle.table.specs.Faults.{closed_start, floor_start, QuietAtEnds}
use Rattle.table.proofs.Faults.{closed_formula_b, floor_d, only_ends_m}
use Rattle.card.specs.declared.ReadCard.{ReadCard}
use Rattle.card.specs.declared.Reading.{Reading}
use Rattle.card.specs.Bytes.{marked}
use Rattle.card.specs.declared.Card.{Card}
use Rattle.card.specs.Card.{card_of, carrying}
use Rattle.card.specs.Reading.{record_of, records_of, read_with, read_of}
use Rattle.card.specs.Twin.{turned_of}
use Rattle.card.specs.Answers.{handed, reading_with, length_of, buffer_of}
use Rattle.theory.proofs.Cases.{cases_answer}
use Rattle.theory.proofs.Unique.{answers_unique}
use Rattle.promises.specs.Excluded.{MeetsAsk, MeetsStep, MeetsLeave, RefusesEverything, SaysTheClock, LeavesTheTable, OnlyMovesTheClock, OnlySaysSo, DropsAtOnce, MeetsRead, MeetsTryRead, MeetsWrite, OneRequest, OneReading, WritesNothing}

-- whatever meets ask's contract gives each case its answer
pub right_in : (f : Table → Request → Said ℕ) → MeetsAsk f → (c : Case) → Answers c.table c.request c.answer
    → f c.table c.request ≡ c.answer
right_in f m c h = answers_unique c.table c.request ((f c.table c.request)) c.answer (m c.table c.request) h

says_thirteen : (f : Table → Request → Said ℕ) → MeetsAsk f → f case_a.table case_a.request ≡ Ok 13
unfolding cases
says_thirteen f m = right_in f m case_a cases_answer.0

-- R18: a request that no ground refuses is granted
pub no_ask_refuses_everything : (f : Table → Request → Said ℕ) → MeetsAsk f → RefusesEverything f → ⊥
no_ask_refuses_everything f m r =
    let e = says_thirteen f m in
    let x = r case_a.table case_a.request in
    let y = x.1 in
    let z : ◌≡◌ {A = ℕ} 0 1 = cc in omega arith

-- R14: some starts are later than the clock
pub no_ask_says_the_clock : (f : Table → Request → Said ℕ) → MeetsAsk f → SaysTheClock f → ⊥
no_ask_says_the_clock f m r =
    let e = says_thirteen f m in
    let x : f case_a.table case_a.request ≡ Ok 8 = r case_a.table case_a.request in
    let z : ◌≡◌ {A = ℕ} 8 13 = cc in omega arith

-- R68: the closed formula, in case B
pub no_ask_uses_the_closed_formula : (f : Table → Request → Said ℕ) → MeetsAsk f
    → f case_b.table case_b.request ≡ Ok (closed_start 6 (run_with 8 16 6 2) 32) → ⊥
unfolding cases
no_ask_uses_the_closed_formula f m r =
    let x : ◌≡◌ {A = Said ℕ} (Ok 6) (Ok 8) = sym (right_in f m case_b cases_answer.1.0) ∙ r ∙ ap Ok closed_formula_b in
    let z : ◌≡◌ {A = ℕ} 6 8 = cc in omega arith

-- R68: the floor, in case D at the end 108
pub no_ask_uses_the_floor : (f : Table → Request → Said ℕ) → MeetsAsk f
    → f case_d.table case_d.request ≡ Ok (floor_start 100 (asked case_d.table case_d.request) 2 4 108) → ⊥
unfolding cases
no_ask_uses_the_floor f m r =
    let x : ◌≡◌ {A = Said ℕ} (Ok 105) (Ok 103) = sym (right_in f m case_d cases_answer.1.1.1.0) ∙ r ∙ ap Ok floor_d in
    let z : ◌≡◌ {A = ℕ} 105 103 = cc in omega arith

-- R68: the least start with no excess at the running lines' ends, in case M
pub no_ask_looks_at_the_running_ends_alone : (f : Table → Request → Said ℕ) → MeetsAsk f → (u : ℕ)
    → ((v : ℕ) → 100 ≤ v → QuietAtEnds 100 (asked case_m.table case_m.request) 3 6 v → u ≤ v)
    → f case_m.table case_m.request ≡ Ok u → ⊥
unfolding cases
no_ask_looks_at_the_running_ends_alone f m u least r =
    let x : ◌≡◌ {A = Said ℕ} (Ok 104) (Ok u) = sym (right_in f m case_m cases_answer.1.1.1.1.1.1.1.1.1.1.1.1.0) ∙ r in
    let z : ◌≡◌ {A = ℕ} 104 u = cc in
    omega (arith, least 103 (omega arith) only_ends_m)

empty_steps : (step_of empty_table).table.clock ≡ 1
unfolding lowest chosen settling advance step_of
empty_steps = refl

-- R45: the clock moves
pub no_step_leaves_the_table : (f : Table → Acted (Option ℕ)) → MeetsStep f → LeavesTheTable f → ⊥
no_step_leaves_the_table f m r =
    let x : (f empty_table).table.clock ≡ 0 = ap (λ (t : Table). t.clock) (r empty_table) in
    let y : (f empty_table).table.clock ≡ 1 = ap (λ (s : Acted (Option ℕ)). s.table.clock) (m empty_table) ∙ empty_steps in
    omega arith

abbrev remaining : Held → ℕ
remaining h = if_runs 0 (λ r. r.remaining) h

-- in case A the tick at 8 goes to slot 1
case_a_serves : at (step_of case_a.table).table.slots 1 ≡ at case_a.table.slots 1 → ⊥
unfolding lowest chosen settling advance step_of
case_a_serves e = let z : ◌≡◌ {A = ℕ} 7 8 = ap remaining e in omega arith

-- R45: every tick is served
pub no_step_only_moves_the_clock : (f : Table → Acted (Option ℕ)) → MeetsStep f → OnlyMovesTheClock f → ⊥
no_step_only_moves_the_clock f m r =
    let x = ap (λ (t : Table). at t.slots 1) (r case_a.table (omega arith)) in
    let y = ap (λ (s : Acted (Option ℕ)). at s.table.slots 1) (m case_a.table) in
    case_a_serves (sym y ∙ x)

-- in case A slot 1 is let go: it runs on, and no other period follows
case_a_left : ((leave_of case_a.table 1).answer ≡ Ok 8) × (is_parting (at (leave_of case_a.table 1).table.slots 1) ≡ true)
unfolding lowest leave_of
case_a_left = (refl, refl)

-- R99: a leave that is granted is kept to
pub no_leave_only_says_so : (f : Table → ℕ → Acted ℕ) → MeetsLeave f → OnlySaysSo f → ⊥
no_leave_only_says_so f m r =
    let e = m case_a.table 1 in
    let x = r case_a.table 1 8 (ap (λ (s : Acted ℕ). s.answer) e ∙ case_a_left.0) in
    true_false case_a_left.1 (ap (λ (s : Acted ℕ). is_parting (at s.table.slots 1)) (sym e) ∙ ap (λ (t : Table). is_parting (at t.slots 1)) x)

-- R100: who runs finishes his period
pub no_leave_drops_at_once : (f : Table → ℕ → Acted ℕ) → MeetsLeave f → DropsAtOnce f → ⊥
no_leave_drops_at_once f m r =
    let e = m case_a.table 1 in
    let x = r case_a.table 1 8 (ap (λ (s : Acted ℕ). s.answer) e ∙ case_a_left.0) in
    true_false case_a_left.1 (ap (λ (s : Acted ℕ). is_parting (at s.table.slots 1)) (sym e) ∙ ap is_parting x)

-- the cards of cases A and C read as their tables and requests
reads_a : read_of (card_of case_a.table case_a.request) ≡ Ok (carrying case_a.table case_a.request)
unfolding card_of marked record_of records_of read_with
reads_a = refl

reads_c : read_of (card_of case_c.table case_c.request) ≡ Ok (carrying case_c.table case_c.request)
unfolding card_of marked record_of records_of read_with
reads_c = refl

-- R56: two cards that read ask for needs of 1 and of 3
pub no_reader_gives_one_request : (f : List ℕ → ReadCard) → MeetsRead f → OneRequest f → ⊥
no_reader_gives_one_request f m r =
    let a : List ℕ = card_of case_a.table case_a.request in
    let b : List ℕ = card_of case_c.table case_c.request in
    let need : ℕ → Said Card → ℕ = λ w s. (handed w s).card.request.need in
    let x : (f a).card.request.need ≡ 1 = ap (λ (c : ReadCard). c.card.request.need) (m a) ∙ ap (need (turned_of a)) reads_a in
    let y : (f b).card.request.need ≡ 3 = ap (λ (c : ReadCard). c.card.request.need) (m b) ∙ ap (need (turned_of b)) reads_c in
    let z : (f a).card.request.need ≡ (f b).card.request.need = ap (λ (q : Request). q.need) (r a b _ _ reads_a reads_c) in
    omega arith

-- R56: the same of try_read
pub no_try_read_gives_one_request : (f : List ℕ → Said Reading) → MeetsTryRead f → OneReading f → ⊥
no_try_read_gives_one_request f m r =
    let a : List ℕ = card_of case_a.table case_a.request in
    let b : List ℕ = card_of case_c.table case_c.request in
    let z = r a b _ _ (m a ∙ ap (reading_with (turned_of a)) reads_a) (m b ∙ ap (reading_with (turned_of b)) reads_c) in
    let e : ◌≡◌ {A = ℕ} 1 3 = ap (λ (q : Request). q.need) z in
    omega arith

-- the card of an empty table fits sixteen bytes, and its first is not 0
written_first : get_or (buffer_of empty_table case_a.request (replicate 16 0)) 0 0 ≡ 0x43
unfolding lowest card_of length_of
written_first = refl

-- R59: a card is written
pub no_writer_writes_nothing : (f : Table → Request → List ℕ → List ℕ) → MeetsWrite f → WritesNothing f → ⊥
no_writer_writes_nothing f m r =
    let l : List ℕ = replicate 16 0 in
    let x = ap (λ (b : List ℕ). get_or b 0 0) (sym (m empty_table case_a.request l) ∙ r empty_table case_a.request l) in
    let z : ◌≡◌ {A = ℕ} 0x43 0 = sym written_first ∙ x in
    omega arith
