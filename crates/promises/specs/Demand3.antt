-- The third demand, R73 to R77, over all runs from the empty table.
use Rattle.std.specs.Prelude.{Ok, Err, ℕ, ◌+◌, ◌-◌, ◌^◌, ◌≤◌, ◌<◌, ◌≡◌, List, [], ◌∷◌, take, drop, replicate, true, Option, None, Some}
use Rattle.line.specs.declared.Held.{Held}
use Rattle.line.specs.declared.Held.TheVariants.{Nothing}
use Rattle.table.specs.declared.Table.{Table}
use Rattle.table.specs.declared.Request.{Request}
use Rattle.table.specs.declared.Refusal.{Refusal}
use Rattle.table.specs.Words.{empty_table, refusal}
use Rattle.line.specs.Slots.{if_runs, RunsAs, at, Each, is_nothing, Waits, lowest_of}
use Rattle.line.specs.Sound.{Sound}
use Rattle.line.specs.Demand.{last_end}
use Rattle.line.specs.Leave.{is_parting}
use Rattle.table.specs.Grounds.{entry, asked, Answers}
use Rattle.table.specs.Counts.{fault}
use Rattle.table.specs.Ask.{ask_of}
use Rattle.table.specs.Admit.{admitted_at}
use Rattle.table.specs.Step.{step_of}
use Rattle.table.specs.Leave.{leave_of}
use Rattle.table.specs.Runs.{Act, asking, admitting, stepping, leaving, after, run, trace, times}

-- ---- no missed period

-- R74: what is promised of every table that a run comes to: it is sound, and no ask, admission or leave is refused with 4; a step from it names who ran, but at the
-- last tick, and a step that is refused is refused with 15 at the last tick
pub record Unfailing (t : Table) : Type 0 where
  pub sound : Each Sound t.slots
  pub no_fault : fault t ≡ None
  pub clock_in : t.clock ≤ 2 ^ 48
  pub goes_on : t.clock < 2 ^ 48 → (o : Option ℕ) × ((step_of t).answer ≡ Ok o)
  pub only_fifteen : (x : Refusal) → (step_of t).answer ≡ Err x → (x ≡ refusal 15 0) × (t.clock ≡ 2 ^ 48)
  pub at_the_last : t.clock ≡ 2 ^ 48 → (step_of t).answer ≡ Err (refusal 15 0)

-- R74, R73: after any run
abbrev pub NeverMissed : Type 0
NeverMissed = (acts : List Act) → Unfailing (run acts empty_table)

-- ---- what an admitted line gets

-- R75: after the run `acts` the request q is granted the start r, in slot k
pub record Admission (acts : List Act) (q : Request) (r k : ℕ) : Type 0 where
  pub granted : (ask_of (run acts empty_table) q) ≡ Ok r
  pub slot : lowest_of is_nothing (run acts empty_table).slots ≡ Some k

-- the table at the request, and the table with the line admitted
abbrev pub asking_table : List Act → Table
asking_table acts = run acts empty_table

-- the table after a run from the empty one and an admission
abbrev pub admitted_table : List Act → Request → Table
admitted_table acts q = after (admitting q) (run acts empty_table)

-- R75: the start is not after the last end of the stretched current periods
abbrev pub StartsByLastEnd : Type 0
StartsByLastEnd = (acts : List Act) (q : Request) (r k : ℕ) → Admission acts q r k
    → ((asking_table acts).clock ≤ r) × (r ≤ last_end (asking_table acts).clock (asked (asking_table acts) q))

-- R76: a granted admission gives slot k a longer period; an equal one does not count
abbrev pub Lengthened : ℕ → Held → Type 0
Lengthened p h = if_runs ⊥ (λ r. r.period < p) h

-- R76: the act makes the period of slot k longer
abbrev pub Stretches : ℕ → Act → Table → Type 0
Stretches k (asking q) t = ⊥
Stretches k (admitting q) t = ((r : ℕ) × (ask_of t q ≡ Ok r)) × Lengthened (entry q k) (at t.slots k)
Stretches k stepping t = ⊥
Stretches k (leaving n) t = ⊥

-- R76: no act before the tick `until` stretches slot k
abbrev pub Unstretched : (k until : ℕ) → List Act → Table → Type 0
Unstretched k until [] t = Unit {0}
Unstretched k until (a ∷ rest) t = (t.clock < until → Stretches k a t → ⊥) × Unstretched k until rest (after a t)

-- R75: the act removes the line of slot k, which waits
abbrev pub Removes : ℕ → Act → Table → Type 0
Removes k (asking q) t = ⊥
Removes k (admitting q) t = ⊥
Removes k stepping t = ⊥
Removes k (leaving n) t = (n ≡ k) × Waits (at t.slots k)

-- R75: no act before the tick `until` removes it
abbrev pub Unremoved : (k until : ℕ) → List Act → Table → Type 0
Unremoved k until [] t = Unit {0}
Unremoved k until (a ∷ rest) t = (t.clock < until → Removes k a t → ⊥) × Unremoved k until rest (after a t)

-- R75: whatever is done next, if it is not removed while it waits, when the clock is at r slot k runs with all its need before it, and with a period of at least Tn: exactly Tn
-- where no admission up to then stretched it
abbrev pub RunsFromStart : Type 0
RunsFromStart = (acts : List Act) (q : Request) (r k : ℕ) → Admission acts q r k
    → (more : List Act) → Unremoved k r more (admitted_table acts q) → (run more (admitted_table acts q)).clock ≡ r
    → (T : ℕ) × RunsAs q.need T 0 q.need (at (run more (admitted_table acts q)).slots k) × (q.period ≤ T)
    × (Unstretched k (r + 1) more (admitted_table acts q) → T ≡ q.period)

-- R76: the list of slots that ran names k exactly Cn times from r to r + Tn, also if the line is asked to leave in that time
abbrev pub HasAllItsNeed : Type 0
HasAllItsNeed = (acts : List Act) (q : Request) (r k : ℕ) → Admission acts q r k
    → (more : List Act) → Unremoved k r more (admitted_table acts q) → Unstretched k (r + q.period) more (admitted_table acts q)
    → r + q.period ≤ (run more (admitted_table acts q)).clock
    → times k (take q.period (drop (r - (asking_table acts).clock) (trace more (admitted_table acts q)))) ≡ q.need

-- ---- what a line that leaves gets

-- R80: what is promised from the table t on, after which the line of slot k, of these numbers, has no other period
pub record Parts (t : Table) (k C P a c : ℕ) : Type 0 where
  -- up to its end it is there, with its need and its period, and leaves
  pub stays : (more : List Act) → (run more t).clock < t.clock + (P - a)
      → (x : ℕ) × RunsAs C P (a + ((run more t).clock - t.clock)) x (at (run more t).slots k) × (is_parting (at (run more t).slots k) ≡ true)
  -- by then it has had exactly what was left of its need
  pub gets : (more : List Act) → t.clock + (P - a) ≤ (run more t).clock → times k (take (P - a) (trace more t)) ≡ c
  -- the tick that ends its period leaves nothing in its slot
  pub frees : (more : List Act) → (run more t).clock + 1 ≡ t.clock + (P - a) → (run more t).clock < 2 ^ 48
      → at (after stepping (run more t)).slots k ≡ Nothing

-- R80: of every leave of a run that is granted to a running line of these numbers: in P − a ticks it is gone
abbrev pub LeavesAtItsEnd : Type 0
LeavesAtItsEnd = (acts : List Act) (k n C P a c : ℕ) → (leave_of (run acts empty_table) k).answer ≡ Ok n
    → RunsAs C P a c (at (run acts empty_table).slots k)
    → (n ≡ P - a) × Parts (after (leaving k) (run acts empty_table)) k C P a c

-- R100: and of one that is granted to a waiting line: it is gone at once
abbrev pub LeavesAtOnce : Type 0
LeavesAtOnce = (acts : List Act) (k n : ℕ) → (leave_of (run acts empty_table) k).answer ≡ Ok n
    → Waits (at (run acts empty_table).slots k)
    → (n ≡ 0) × (at (after (leaving k) (run acts empty_table)).slots k ≡ Nothing)

-- ---- no earlier start

-- the table after n steps
abbrev pub stepped : ℕ → Table → Table
stepped n t = run (replicate n stepping) t

-- R6: the T' have sixteen bits, as in every request that can be handed in
abbrev pub Sixteen : Request → Type 0
Sixteen q = (i : ℕ) → entry q i < 2 ^ 16

-- R77: stepped on with no other admission and with nobody leaving, a step reports 14 for a period that ends before the tick `last`, and no step before it is refused
pub record Misses (t : Table) (last : ℕ) : Type 0 where
  pub steps : ℕ
  pub slot : ℕ
  pub goes : (m : ℕ) → m < steps → (o : Option ℕ) × ((step_of (stepped m t)).answer ≡ Ok o)
  pub misses : (step_of (stepped steps t)).answer ≡ Err (refusal 14 slot)
  pub before : t.clock + steps + 1 < last

-- R77: of any table and request that are granted a start r, reached by a run or not, admitted at an earlier r' instead
abbrev pub NoEarlierStart : Type 0
NoEarlierStart = (t : Table) (q : Request) (r r' : ℕ) → Sixteen q → ask_of t q ≡ Ok r → t.clock ≤ r' → r' < r
    → Misses (admitted_at t q r') (last_end t.clock (asked t q))

-- R77, R41: the same of any start that ask's contract allows
abbrev pub NoEarlierThanAnswered : Type 0
NoEarlierThanAnswered = (t : Table) (q : Request) (r r' : ℕ) → Sixteen q → Answers t q (Ok r) → t.clock ≤ r' → r' < r
    → Misses (admitted_at t q r') (last_end t.clock (asked t q))
