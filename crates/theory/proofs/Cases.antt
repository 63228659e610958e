-- R67: cases A to M satisfy the answer relation itself, and in case B the start 6 is smooth.
use mathlib.Core.Path.{◌≡◌}
use mathlib.Core.List.{List, [], ◌∷◌, map}
use Rattle.periods.specs.Multiples.{All}
use Rattle.line.specs.Demand.{new_demand, Smooth}
use Rattle.table.specs.Grounds.{asked, Answers}
use Rattle.table.specs.Ask.{ask_of}
use Rattle.table.specs.Cases.{Case, cases, case_b}
use Rattle.table.proofs.Cases.{all_cases}
use Rattle.theory.proofs.Answers.{ask_answers}

answered : (cs : List Case) → map (λ (c : Case). ask_of c.table c.request) cs ≡ map (λ (c : Case). c.answer) cs
    → All (λ (c : Case). Answers c.table c.request c.answer) cs
answered [] e = tt
answered (c ∷ cs) e =
    let h : ask_of c.table c.request ≡ c.answer = cc in
    let rest : map (λ (c : Case). ask_of c.table c.request) cs ≡ map (λ (c : Case). c.answer) cs = cc in
    (rw h at (ask_answers c.table c.request), answered cs rest)

-- R67: every row of the table of cases is a right answer
pub cases_answer : All (λ (c : Case). Answers c.table c.request c.answer) cases
cases_answer = answered cases all_cases

-- R68: where the closed formula gives 8, 6 is smooth
pub six_smooth_b : Smooth 6 (asked case_b.table case_b.request) (new_demand 1 4) 6
unfolding cases
six_smooth_b = cases_answer.1.0.1.smooth
