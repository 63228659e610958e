-- The operations on a table that was loaded: what is answered and stored, by the case that came out.
use Rattle.std.specs.Prelude.{Ok, Err, Option}
use mathlib.Core.Path.{◌≡◌, refl, sym, ap, ◌∙◌}
use mathlib.Core.List.{List}
use Prim.Native.Nat.{ℕ}
use Rattle.table.specs.declared.Table.{Table}
use Rattle.table.specs.declared.Request.{Request}
use Rattle.table.specs.declared.Refusal.{Refusal}
use Rattle.table.specs.declared.Acted.{Acted}
use Rattle.table.specs.Words.{Said, slot_number}
use Rattle.table.specs.Ask.{ask_of}
use Rattle.table.specs.Admit.{admit_of}
use Rattle.table.specs.Step.{step_of}
use Rattle.table.specs.Leave.{leave_of}
use Rattle.admit.proofs.Right.{admitted_answer}
use Rattle.board.specs.Board.{ReadyWord}
use Rattle.image.specs.Answers.{stored_in}
use Rattle.calls.specs.declared.Returned.{Returned}
use Rattle.calls.specs.Results.{granted_as, refused_as, result_of}
use Rattle.calls.specs.Tables.{changed, asked_as, admitted_in, ran_as, stepped_as, stepped_in, left_as, left_in, ReadyFor}

-- R89: the value is the ready word
pub ready_granted : (t : Table) {r : Returned} {w : ℕ} → r ≡ granted_as 0 w → ReadyWord t.slots w → ReadyFor (Ok t) r
ready_granted t e h = rw e (refl, h)

module _ (t : Table) (q : Request) {m : Acted ℕ} (e : m ≡ admit_of t q) where
  -- R42: admit answers what ask answers
  pub admit_answer : m.answer ≡ ask_of t q
  admit_answer = ap (λ (x : Acted ℕ). x.answer) e ∙ admitted_answer t q (ask_of t q)

  -- R87: with a start the admitted table was stored
  pub admit_granted : {r : ℕ} {o : List ℕ} (l : List ℕ) → m.answer ≡ Ok r → o ≡ stored_in m.table l → o ≡ admitted_in t q l
  admit_granted l h s =
      s ∙ ap (λ (x : Acted ℕ). stored_in x.table l) e
      ∙ ap (λ (a : Said ℕ). changed a (stored_in (admit_of t q).table l) l) (sym h ∙ admit_answer)

  -- R17, R87: a refusal stores nothing
  pub admit_refused : {x : Refusal} {r : Returned} (l : List ℕ) → m.answer ≡ Err x → r ≡ refused_as x → (r ≡ asked_as t (ask_of t q)) × (l ≡ admitted_in t q l)
  admit_refused l h s = (
    s ∙ ap (λ (a : Said ℕ). asked_as t a) (sym h ∙ admit_answer),
    ap (λ (a : Said ℕ). changed a (stored_in (admit_of t q).table l) l) (sym h ∙ admit_answer),
  )

module _ (t : Table) {s : Acted (Option ℕ)} (e : s ≡ step_of t) where
  step_answer : s.answer ≡ (step_of t).answer
  step_answer = ap (λ (x : Acted (Option ℕ)). x.answer) e

  -- R88: the slot that ran is answered, and the new table was stored
  pub step_ran : {w : Option ℕ} {k : ℕ} {r : Returned} (l o : List ℕ) → s.answer ≡ Ok w → k ≡ slot_number w → r ≡ granted_as 0 k → o ≡ stored_in s.table l
      → (r ≡ stepped_as t) × (o ≡ stepped_in t l)
  step_ran l o h n g p = (
    g ∙ ap (granted_as 0) n ∙ ap (λ (x : Said (Option ℕ)). ran_as x) (sym h ∙ step_answer),
    p ∙ ap (λ (x : Acted (Option ℕ)). stored_in x.table l) e
        ∙ ap (λ (x : Said (Option ℕ)). changed x (stored_in (step_of t).table l) l) (sym h ∙ step_answer),
  )

  -- R17, R88: a refused step stores nothing
  pub step_refused : {x : Refusal} {r : Returned} (l : List ℕ) → s.answer ≡ Err x → r ≡ refused_as x → (r ≡ stepped_as t) × (l ≡ stepped_in t l)
  step_refused l h g = (
    g ∙ ap (λ (x : Said (Option ℕ)). ran_as x) (sym h ∙ step_answer),
    ap (λ (x : Said (Option ℕ)). changed x (stored_in (step_of t).table l) l) (sym h ∙ step_answer),
  )

module _ (t : Table) (n : ℕ) {s : Acted ℕ} (e : s ≡ leave_of t n) where
  leave_answer : s.answer ≡ (leave_of t n).answer
  leave_answer = ap (λ (x : Acted ℕ). x.answer) e

  -- R102: the ticks are answered, and the new table was stored
  pub leave_granted : {k : ℕ} {r : Returned} (l o : List ℕ) → s.answer ≡ Ok k → r ≡ granted_as 0 k → o ≡ stored_in s.table l → (r ≡ left_as t n) × (o ≡ left_in t n l)
  leave_granted l o h g p = (
    g ∙ ap (λ (x : Said ℕ). result_of x) (sym h ∙ leave_answer),
    p ∙ ap (λ (x : Acted ℕ). stored_in x.table l) e
        ∙ ap (λ (x : Said ℕ). changed x (stored_in (leave_of t n).table l) l) (sym h ∙ leave_answer),
  )

  -- R17, R102: a refused leave stores nothing
  pub leave_refused : {x : Refusal} {r : Returned} (l : List ℕ) → s.answer ≡ Err x → r ≡ refused_as x → (r ≡ left_as t n) × (l ≡ left_in t n l)
  leave_refused l h g = (
    g ∙ ap (λ (x : Said ℕ). result_of x) (sym h ∙ leave_answer),
    ap (λ (x : Said ℕ). changed x (stored_in (leave_of t n).table l) l) (sym h ∙ leave_answer),
  )
