-- What an admitted line gets over a run: it waits untouched to its start, and by the end of its first period it has had all its need.
use mathlib.Core.Path.{◌≡◌, refl, sym, ap, ◌∙◌, subst}
use Rattle.std.specs.Prelude.{Option}
use mathlib.Core.List.{List, [], ◌∷◌, ◌++◌}
use Prim.Native.Nat.{ℕ, zero, suc, ◌+◌, ◌-◌, ◌^◌, ◌≤◌, ◌<◌}
use native.Mathlib.Omega.{arith}
use lib.ListN.{length, take, drop}
use Rattle.line.specs.declared.Held.{Held}
use Rattle.line.specs.declared.Held.TheVariants.{Running}
use Rattle.table.specs.declared.Table.{Table}
use Rattle.table.specs.declared.Request.{Request}
use Rattle.table.specs.declared.Acted.{Acted}
use Rattle.line.specs.Slots.{run_with, RunsAs, at}
use Rattle.line.specs.Tick.{Owed, passed}
use Rattle.table.specs.Admit.{new_line}
use Rattle.table.specs.Step.{choose, serve, pass, ticked, step_of}
use Rattle.table.specs.Runs.{Act, asking, admitting, stepping, leaving, after, run, ran_in, trace, is_slot, times}
use Rattle.table.proofs.Step.{length_serve}
use Rattle.theory.specs.Fine.{Kept}
use Rattle.theory.proofs.Numbers.{split}
use Rattle.theory.proofs.Pump.{never_short}
use Rattle.theory.proofs.Step.{choose_earliest}
use Rattle.theory.proofs.Trace.{at_pass, length_tick, is_passed, owed_or_got, not_served, nearer, not_yet}
use Rattle.promises.specs.Demand3.{Unstretched, Unremoved}
use Rattle.promises.proofs.Good.{Good, at_last, good_after}
use Rattle.promises.proofs.Kept.{choice_may, admit_clock, admit_length, admit_running, admit_kept, admit_waiting, leave_clock, leave_length, leave_running, leave_waiting, step_table, clock_after}

-- a run never sets the clock back
pub clock_run : (more : List Act) (t : Table) → Good t → t.clock ≤ (run more t).clock
clock_run [] t g = omega arith
clock_run (a ∷ rest) t g = omega (arith, clock_after a t g, clock_run rest (after a t) (good_after a t g))

-- what holds after the tick, and of the list with its slot in front, holds after a step and of its trace
pub by_tick : (Q : Table → List (Option ℕ) → Type 0) (rest : List Act) (t : Table) → Good t → t.clock < 2 ^ 48
    → Q (ticked (choose t) t).table (choose t ∷ trace rest (ticked (choose t) t).table)
    → Q (step_of t).table (trace (stepping ∷ rest) t)
by_tick Q rest t g h q =
    subst (λ (s : Acted (Option ℕ)). Q s.table (ran_in s.answer ++ trace rest s.table)) (sym (step_table t g h))
    q

-- what holds of the table and the rest of the run holds after a step at the last tick, which changes nothing
pub by_last : (Q : Table → List (Option ℕ) → Type 0) (rest : List Act) (t : Table) → 2 ^ 48 ≤ t.clock
    → Q t (trace rest t) → Q (step_of t).table (trace (stepping ∷ rest) t)
by_last Q rest t h q = subst (λ (s : Acted (Option ℕ)). Q s.table (ran_in s.answer ++ trace rest s.table)) (sym (at_last t h)) q

-- ---- the rest of a period

-- in the run `more` from t, which has the trace tr: not stretched before `until` and run so far, slot k is named x times in the first n ticks
abbrev Rest : (k until n x : ℕ) → List Act → Table → List (Option ℕ) → Type 0
Rest k until n x more t tr = Unstretched k until more t → until ≤ (run more t).clock → times k (take n tr) ≡ x

-- the table after the tick of the step's own choice
abbrev pub next : Table → Table
next t = (ticked (choose t) t).table

-- is good
pub good_next : (t : Table) → Good t → t.clock < 2 ^ 48 → Good (next t)
good_next t g h = subst (λ (s : Acted (Option ℕ)). Good s.table) (step_table t g h) (good_after stepping t g)

-- what a running line has left after it, and how old it is then
pub one_tick : (t : Table) (k C P a x : ℕ) → Good t → k < length t.slots → RunsAs C P a x (at t.slots k) → a < P
    → (y : ℕ) × (y + is_slot k (choose t) ≡ x) × (P ≤ a + 1 → y ≡ 0)
    × (a + 1 < P → RunsAs C P (a + 1) y (at (pass (serve (choose t) t.slots)) k))
one_tick t k C P a x g b e h =
    let o = choose t in
    let s = owed_or_got o t.slots k C P a x (choice_may t) e in
    let l = s.1 in
    let v : Kept (Running l.0) = subst Kept l.1 (never_short o g.fine (choose_earliest t) k (rw length_serve b)) in (
      s.0,
      s.2,
      (λ c. sym l.5 ∙ v (omega (arith, l.3, l.4))),
      λ c. rw (at_pass (serve o t.slots) k) (is_passed (at (serve o t.slots) k) l c),
    )

-- a line's rest of a period from what it has left after one tick of it
rest_tick : (rest : List Act) (t : Table) (k C P a x : ℕ) → Good t → k < length t.slots → RunsAs C P a x (at t.slots k) → a < P
    → ((y : ℕ) → RunsAs C P (a + 1) y (at (next t).slots k) → a + 1 < P → Rest k ((next t).clock + (P - (a + 1))) (P - (a + 1)) y rest (next t) (trace rest (next t)))
    → Rest k (t.clock + (P - a)) (P - a) x rest (next t) (choose t ∷ trace rest (next t))
rest_tick rest t k C P a x g b e h more u r =
    let s = one_tick t k C P a x g b e h in
    let o = choose t in
    let m : P - a ≡ suc (P - (a + 1)) = omega arith in
    let z : t.clock + (P - a) ≡ t.clock + 1 + (P - (a + 1)) = omega arith in
    split P (a + 1)
    (λ c. let d : P - (a + 1) ≡ 0 = omega arith in rw (m, d) (omega (arith, s.1, s.2 c)))
    (λ c. rw m (omega (arith, s.1, more s.0 (s.3 c) c (rw z at u) (rw z at r))))

-- so a line of age a that is owed x gets exactly x by the end of its period
pub gets_rest : (more : List Act) (t : Table) (k C P a x : ℕ) → Good t → k < length t.slots → RunsAs C P a x (at t.slots k) → a < P
    → Rest k (t.clock + (P - a)) (P - a) x more t (trace more t)
gets_rest [] t k C P a x g b e h u r = absurd (omega arith)
gets_rest (asking q ∷ rest) t k C P a x g b e h u r = gets_rest rest t k C P a x g b e h u.1 r
gets_rest (admitting q ∷ rest) t k C P a x g b e h u r =
    let c = admit_clock t q in
    gets_rest rest (after (admitting q) t) k C P a x (good_after (admitting q) t g) (rw (admit_length t q) b)
    (admit_kept t q k C P a x e b (u.0 (omega arith))) h (rw c u.1) (rw c r)
gets_rest (stepping ∷ rest) t k C P a x g b e h u r =
    split (2 ^ 48) t.clock
    (λ l. by_last (Rest k (t.clock + (P - a)) (P - a) x rest) rest t l (gets_rest rest t k C P a x g b e h) u.1 r)
    (λ l. by_tick (Rest k (t.clock + (P - a)) (P - a) x rest) rest t g l
    (rest_tick rest t k C P a x g b e h (λ y f c. gets_rest rest (next t) k C P (a + 1) y (good_next t g l) (rw (length_tick (choose t) t.slots) b) f c)) u.1 r)
gets_rest (leaving n ∷ rest) t k C P a x g b e h u r =
    let c = leave_clock t n in
    gets_rest rest (after (leaving n) t) k C P a x (good_after (leaving n) t g) (rw (leave_length t n) b)
    (leave_running t n k C P a x e) h (rw c u.1) (rw c r)

-- ---- from the admission on

-- a tick nearer
waits_on : (t : Table) (k C P w : ℕ) → at t.slots k ≡ new_line C P (suc w) → at (next t).slots k ≡ new_line C P w
waits_on t k C P w e =
    let s = not_served (choose t) t.slots k (choice_may t) (λ v. not_yet C P w (subst Owed e v)) in
    at_pass (serve (choose t) t.slots) k ∙ ap passed (s.0 ∙ e) ∙ nearer C P w

-- R43: a line that has no more to wait is at the beginning of a period
begun_is : (C P : ℕ) {h : Held} → h ≡ new_line C P 0 → RunsAs C P 0 C h
begun_is C P e = (run_with C P 0 C, e, refl, refl, refl, refl)

-- in the run `more` from t, which has the trace tr: not removed before the tick `start`, not stretched before `until` and run so far, slot k is named C times
-- in the n ticks after the first w
abbrev After : (k start until w n C : ℕ) → List Act → Table → List (Option ℕ) → Type 0
After k start until w n C more t tr = Unremoved k start more t → Unstretched k until more t → until ≤ (run more t).clock → times k (take n (drop w tr)) ≡ C

-- a line that starts after w ticks gets all its need in the period after them
pub gets_need : (more : List Act) (t : Table) (k C P w : ℕ) → Good t → k < length t.slots → 1 ≤ P → at t.slots k ≡ new_line C P w
    → After k (t.clock + w) (t.clock + w + P) w P C more t (trace more t)
gets_need more t k C P zero g b p e v u r =
    let z : t.clock + 0 + P ≡ t.clock + (P - 0) = omega arith in
    let y : P ≡ P - 0 = omega arith in
    subst (λ (n : ℕ). times k (take n (trace more t)) ≡ C) (sym y) (gets_rest more t k C P 0 C g b (begun_is C P e) (omega arith) (rw z at u) (rw z at r))
gets_need [] t k C P (suc w) g b p e v u r = absurd (omega arith)
gets_need (asking q ∷ rest) t k C P (suc w) g b p e v u r = gets_need rest t k C P (suc w) g b p e v.1 u.1 r
gets_need (admitting q ∷ rest) t k C P (suc w) g b p e v u r =
    subst (λ (x : Table). After k (t.clock + suc w) (t.clock + suc w + P) (suc w) P C rest x (trace rest x)) (sym (admit_waiting t q k C P w e b))
    (gets_need rest t k C P (suc w) g b p e) v.1 u.1 r
gets_need (stepping ∷ rest) t k C P (suc w) g b p e v u r =
    split (2 ^ 48) t.clock
    (λ l. by_last (After k (t.clock + suc w) (t.clock + suc w + P) (suc w) P C rest) rest t l (gets_need rest t k C P (suc w) g b p e) v.1 u.1 r)
    (λ l. by_tick (After k (t.clock + suc w) (t.clock + suc w + P) (suc w) P C rest) rest t g l
    (λ v u r. let z : t.clock + suc w ≡ t.clock + 1 + w = omega arith in
    gets_need rest (next t) k C P w (good_next t g l) (rw (length_tick (choose t) t.slots) b) p (waits_on t k C P w e) (rw z at v) (rw z at u) (rw z at r)) v.1 u.1 r)
gets_need (leaving n ∷ rest) t k C P (suc w) g b p e v u r =
    let c = leave_clock t n in
    gets_need rest (after (leaving n) t) k C P (suc w) (good_after (leaving n) t g) (rw (leave_length t n) b) p
    (leave_waiting t n k C P w e (v.0 (omega arith))) (rw c v.1) (rw c u.1) (rw c r)

-- ---- at the start

-- after the run `more` from t slot k is at the beginning of a period of at least P, exactly P if no act before `until` stretches it
abbrev Started : (k C P until : ℕ) → List Act → Table → Type 0
Started k C P until more t =
    (T : ℕ) × RunsAs C T 0 C (at (run more t).slots k) × (P ≤ T) × (Unstretched k until more t → T ≡ P)

-- in the run `more` from t, should it end at the tick `start`, and the line not be removed before
abbrev Starts : (k C P start : ℕ) → List Act → Table → Type 0
Starts k C P start more t = Unremoved k start more t → (run more t).clock ≡ start → Started k C P (start + 1) more t

-- an act that leaves slot k as it was
one_more_lem : (k C P until : ℕ) (a : Act) (rest : List Act) (t : Table) → Started k C P until rest (after a t) → Started k C P until (a ∷ rest) t
one_more_lem k C P until a rest t s = (s.0, s.1, s.2, λ u. s.3 u.1)

-- an admission that finds it at the beginning of its first period may stretch it
started_admit : (q : Request) (rest : List Act) (t : Table) (k C P : ℕ) → k < length t.slots → RunsAs C P 0 C (at t.slots k)
    → ((T : ℕ) → RunsAs C T 0 C (at (after (admitting q) t).slots k) → Started k C T (t.clock + 1) rest (after (admitting q) t))
    → Started k C P (t.clock + 1) (admitting q ∷ rest) t
started_admit q rest t k C P b e later =
    let w = admit_running t q k C P 0 C e b in
    let s = later w.0 w.1 in
    (s.0, s.1, omega (arith, w.2, s.2), λ u. s.3 u.1 ∙ w.3 (u.0 (omega arith)))

-- a line at the beginning of its first period, while the clock stays
at_once : (more : List Act) (t : Table) (k C P : ℕ) → Good t → k < length t.slots → RunsAs C P 0 C (at t.slots k)
    → (run more t).clock ≡ t.clock → Started k C P (t.clock + 1) more t
at_once [] t k C P g b e h = (P, e, omega arith, λ u. refl)
at_once (asking q ∷ rest) t k C P g b e h = one_more_lem k C P (t.clock + 1) (asking q) rest t (at_once rest t k C P g b e h)
at_once (admitting q ∷ rest) t k C P g b e h =
    let c = admit_clock t q in
    started_admit q rest t k C P b e
    (λ T f. rw c at (at_once rest (after (admitting q) t) k C T (good_after (admitting q) t g) (rw (admit_length t q) b) f (h ∙ sym c)))
at_once (stepping ∷ rest) t k C P g b e h =
    split (2 ^ 48) t.clock
    (λ l. one_more_lem k C P (t.clock + 1) stepping rest t
    (subst (λ (s : Acted (Option ℕ)). (run rest s.table).clock ≡ t.clock → Started k C P (t.clock + 1) rest s.table) (sym (at_last t l)) (at_once rest t k C P g b e) h))
    (λ l. let c : (step_of t).table.clock ≡ t.clock + 1 = ap (λ (s : Acted (Option ℕ)). s.table.clock) (step_table t g l) in
    absurd (omega (arith, clock_run rest (step_of t).table (good_after stepping t g))))
at_once (leaving n ∷ rest) t k C P g b e h =
    let c = leave_clock t n in
    one_more_lem k C P (t.clock + 1) (leaving n) rest t
    (rw c at (at_once rest (after (leaving n) t) k C P (good_after (leaving n) t g) (rw (leave_length t n) b) (leave_running t n k C P 0 C e) (h ∙ sym c)))

-- R75: at the tick of its start the line runs, with all its need before it
pub at_start : (more : List Act) (t : Table) (k C P w : ℕ) → Good t → k < length t.slots → at t.slots k ≡ new_line C P w
    → Starts k C P (t.clock + w) more t
at_start more t k C P zero g b e =
    let z : t.clock + 0 ≡ t.clock = omega arith in
    rw z (λ v. at_once more t k C P g b (begun_is C P e))
at_start [] t k C P (suc w) g b e = λ v h. absurd (omega arith)
at_start (asking q ∷ rest) t k C P (suc w) g b e = λ v h. one_more_lem k C P (t.clock + suc w + 1) (asking q) rest t (at_start rest t k C P (suc w) g b e v.1 h)
at_start (admitting q ∷ rest) t k C P (suc w) g b e = λ v h.
    one_more_lem k C P (t.clock + suc w + 1) (admitting q) rest t
    (subst (Starts k C P (t.clock + suc w) rest) (sym (admit_waiting t q k C P w e b)) (at_start rest t k C P (suc w) g b e) v.1 h)
at_start (stepping ∷ rest) t k C P (suc w) g b e = λ v h.
    split (2 ^ 48) t.clock
    (λ l. one_more_lem k C P (t.clock + suc w + 1) stepping rest t
    (subst (λ (s : Acted (Option ℕ)). Starts k C P (t.clock + suc w) rest s.table) (sym (at_last t l)) (at_start rest t k C P (suc w) g b e) v.1 h))
    (λ l. let z : t.clock + 1 + w ≡ t.clock + suc w = omega arith in
    one_more_lem k C P (t.clock + suc w + 1) stepping rest t (subst (λ (s : Acted (Option ℕ)). Starts k C P (t.clock + suc w) rest s.table) (sym (step_table t g l))
    (subst (λ (n : ℕ). Starts k C P n rest (next t)) z
    (at_start rest (next t) k C P w (good_next t g l) (rw (length_tick (choose t) t.slots) b) (waits_on t k C P w e))) v.1 h))
at_start (leaving n ∷ rest) t k C P (suc w) g b e = λ v h.
    one_more_lem k C P (t.clock + suc w + 1) (leaving n) rest t
    (subst (λ (m : ℕ). Starts k C P (m + suc w) rest (after (leaving n) t)) (leave_clock t n)
    (at_start rest (after (leaving n) t) k C P (suc w) (good_after (leaving n) t g) (rw (leave_length t n) b) (leave_waiting t n k C P w e (v.0 (omega arith)))) v.1 h)
