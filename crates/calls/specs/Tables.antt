-- Operations on images: what each answers to what was loaded, and what the lent image holds then.
use Rattle.std.specs.Prelude.{Ok, Err, ℕ, ◌≡◌, List, [], ◌∷◌, ◌++◌, Option}
use Rattle.line.specs.Slots.{is_nothing, lowest_of}
use Rattle.table.specs.declared.Table.{Table}
use Rattle.table.specs.declared.Request.{Request}
use Rattle.table.specs.Words.{request_with, Said, slot_number}
use Rattle.table.specs.Ask.{ask_of}
use Rattle.table.specs.Admit.{admit_of}
use Rattle.table.specs.Step.{step_of}
use Rattle.table.specs.Leave.{leave_of}
use Rattle.board.specs.Board.{ReadyWord}
use Rattle.image.specs.Answers.{stored_in}
use Rattle.calls.specs.declared.Returned.{Returned}
use Rattle.calls.specs.Results.{granted_as, refused_as, result_at, result_of}

-- R6: the request of a need, a period and the stretched periods
abbrev pub request_of : (need period : ℕ) → List ℕ → Request
request_of c p ts = request_with ts c p

-- R17: what the lent bytes hold after an answer; a refusal leaves every one
abbrev pub changed : {A : Type 0} → Said A → (then before : List ℕ) → List ℕ
changed (Ok x) m l = m
changed (Err x) m l = l

-- R86: the start, and the slot that the new line has or would have
abbrev pub asked_as : Table → Said ℕ → Returned
asked_as t s = result_at (slot_number (lowest_of is_nothing t.slots)) s

-- R86: the image's refusal, or ask's answer
abbrev pub ask_for : Said Table → Request → Returned
ask_for (Ok t) q = asked_as t ((ask_of t q))
ask_for (Err x) q = refused_as x

-- R87: the image of the admitted table
abbrev pub admitted_in : Table → Request → List ℕ → List ℕ
admitted_in t q l = changed ((ask_of t q)) (stored_in (admit_of t q).table l) l

-- R87: the lent image after admit
abbrev pub after_admit : Said Table → Request → List ℕ → List ℕ
after_admit (Ok t) q l = admitted_in t q l
after_admit (Err x) q l = l

-- R88: the slot that ran, or none
abbrev pub ran_as : Said (Option ℕ) → Returned
ran_as (Ok o) = granted_as 0 (slot_number o)
ran_as (Err x) = refused_as x

-- R88: a step of a table
abbrev pub stepped_as : Table → Returned
stepped_as t = ran_as ((step_of t).answer)

-- R88: the image of the stepped table
abbrev pub stepped_in : Table → List ℕ → List ℕ
stepped_in t l = changed ((step_of t).answer) (stored_in (step_of t).table l) l

-- R88: the image's refusal, or the step's answer
abbrev pub step_for : Said Table → Returned
step_for (Ok t) = stepped_as t
step_for (Err x) = refused_as x

-- R88: the lent image after a step
abbrev pub after_step : Said Table → List ℕ → List ℕ
after_step (Ok t) l = stepped_in t l
after_step (Err x) l = l

-- R102: a line of a table let go: in how many ticks its slot holds nothing
abbrev pub left_as : Table → (number : ℕ) → Returned
left_as t n = result_of ((leave_of t n).answer)

-- R102: the image of the table with that line let go
abbrev pub left_in : Table → (number : ℕ) → List ℕ → List ℕ
left_in t n l = changed ((leave_of t n).answer) (stored_in (leave_of t n).table l) l

-- R102: the image's refusal, or the leave's answer
abbrev pub leave_for : Said Table → (number : ℕ) → Returned
leave_for (Ok t) n = left_as t n
leave_for (Err x) n = refused_as x

-- R102: the lent image after a leave
abbrev pub after_leave : Said Table → (number : ℕ) → List ℕ → List ℕ
after_leave (Ok t) n l = left_in t n l
after_leave (Err x) n l = l

-- R89: the image's refusal, or the ready word
abbrev pub ReadyFor : Said Table → Returned → Type 0
ReadyFor (Ok t) r = (r ≡ granted_as 0 r.value) × ReadyWord t.slots r.value
ReadyFor (Err x) r = r ≡ refused_as x

-- R98: the eighteen counts: each slot's, slot 0's first, then the idle one, then the departed one
abbrev pub all_counts : Table → List ℕ
all_counts t = t.had ++ (t.idle ∷ t.departed ∷ [])

-- R98: the image's refusal, or the clock
abbrev pub counts_for : Said Table → Returned
counts_for (Ok t) = granted_as 0 t.clock
counts_for (Err x) = refused_as x

-- R98: the lent numbers then
abbrev pub counts_after : Said Table → List ℕ → List ℕ
counts_after (Ok t) ns = all_counts t
counts_after (Err x) ns = ns
