-- Who ran goes on: its slot is kept up to the next tick, and among the least ends it is taken. And ask does not look at who ran last.
use Rattle.std.specs.Prelude.{Ok, Err, Option, Some}
use Rattle.table.specs.Words.{Said}
use Prim.Native.Nat.{ℕ, ◌+◌, ◌-◌, ◌^◌, ◌<◌}
use mathlib.Core.Path.{◌≡◌, refl, sym, ap, ◌∙◌, subst}
use mathlib.Core.Bool.{Bool, true, false}
use mathlib.Core.List.{List, [], ◌∷◌}
use native.Mathlib.Omega.{arith}
use native.Mathlib.Decide.{ℕ_discrete}
use lib.Dec.{ltb}
use lib.ListN.{length}
use Rattle.line.specs.declared.Follows.{Follows}
use Rattle.line.specs.declared.Follows.TheVariants.{Renews, Leaves}
use Rattle.line.specs.declared.Run.{Run}
use Rattle.line.specs.declared.Held.{Held}
use Rattle.line.specs.declared.Held.TheVariants.{Nothing, Running, Waiting}
use Rattle.line.specs.Slots.{pick, run_with, with_age, with_remaining, following, at, is_nothing}
use Rattle.line.specs.Tick.{Owed, served, passed}
use Rattle.line.specs.Leave.{let_go}
use Rattle.line.proofs.Search.{true_false}
use Rattle.table.specs.declared.Table.{Table}
use Rattle.table.specs.declared.Request.{Request}
use Rattle.table.specs.declared.Acted.{Acted}
use Rattle.table.specs.Words.{empty_table, with_last}
use Rattle.table.specs.Grounds.{Answers}
use Rattle.table.specs.Counts.{counting, settle}
use Rattle.table.specs.Ask.{ask_of}
use Rattle.table.specs.Admit.{admit_with}
use Rattle.table.specs.Leave.{let_go_at}
use Rattle.table.specs.Step.{choose, serve, departs_in, ticked, step_of}
use Rattle.table.specs.Runs.{Act, asking, admitting, stepping, leaving, after, run, trace}
use Rattle.table.proofs.Choice.{last_goes_on}
use Rattle.table.proofs.Counts.{settle_other, settling_last}
use Rattle.table.proofs.LettingGo.{left_is}
use Rattle.theory.specs.Fine.{May}
use Rattle.theory.proofs.Numbers.{split}
use Rattle.theory.proofs.Answers.{ask_answers}
use Rattle.theory.proofs.Unique.{answers_unique}
use Rattle.theory.proofs.Trace.{at_pass, at_served, length_tick}
use Rattle.promises.specs.Last.{ran_table, WhoRanGoesOn, LastNotAsked}
use Rattle.promises.proofs.Good.{Good, good_after, good_run, good_reached}
use Rattle.promises.proofs.Kept.{admit_length, admit_last, admit_running, leave_length, leave_running, step_table, says_choice, says_last, choice_may}
use Rattle.promises.proofs.Gets.{by_tick, by_last}
use Rattle.promises.proofs.Booking.{stayed}

-- ---- a line that runs

abbrev Runs : Held → Type 0
Runs h = (r : Run) × (h ≡ Running r)

-- who is owed runs
owed_runs : (h : Held) → Owed h → Runs h
owed_runs Nothing v = absurd v
owed_runs (Running r) v = (r, refl)
owed_runs (Waiting w) v = absurd (omega arith)

-- a tick later it does, if it is there
passed_runs : (r : Run) → is_nothing (passed (Running r)) ≡ false → Runs (passed (Running r))
passed_runs r = go (ltb (r.age + 1) r.period)
  where
    next : (f : Follows) → is_nothing (following f r.need r.period) ≡ false → Runs (following f r.need r.period)
    next Renews e = (run_with r.need r.period 0 r.need, refl)
    next Leaves e = absurd (true_false refl e)

    go : (b : Bool) → is_nothing (pick b (Running (with_age r (r.age + 1))) (following r.follows r.need r.period)) ≡ false
        → Runs (pick b (Running (with_age r (r.age + 1))) (following r.follows r.need r.period))
    go true e = (with_age r (r.age + 1), refl)
    go false e = next r.follows e

-- ---- who ran last

-- slot k runs a line, and ran last
record RanLast (k : ℕ) (t : Table) : Type 0 where
  inside : k < length t.slots
  runs : Runs (at t.slots k)
  last : t.last ≡ k

-- R105: the slot that got the tick, its line still there
module _ (t : Table) (k : ℕ) (m : May (Some k) t.slots) (f : is_nothing (at (ticked (Some k) t).table.slots k) ≡ false) where
  abbrev got : Runs (at t.slots k)
  got = owed_runs (at t.slots k) m.1

  now : at (ticked (Some k) t).table.slots k ≡ passed (served (Running got.0))
  now = at_pass (serve (Some k) t.slots) k ∙ ap passed (at_served t.slots k m.0 ∙ ap served got.1)

  ticked_last : RanLast k (ticked (Some k) t).table
  ticked_last = record {
    inside = rw (length_tick (Some k) t.slots) m.0;
    runs = subst Runs (sym now) (passed_runs (with_remaining got.0 (got.0.remaining - 1)) (sym (ap is_nothing now) ∙ f));
    last = settling_last (departs_in (Some k) t.slots) (length t.slots) (counting (Some k) t) (stayed (Some k) t.slots k f);
  }

-- R42, R105: an admission keeps it
admitted_last : (t : Table) (q : Request) (k : ℕ) → RanLast k t → RanLast k (after (admitting q) t)
admitted_last t q k v =
    let w = (admit_running t q k _ _ _ _ (v.runs.0, v.runs.1, refl, refl, refl, refl) v.inside).1 in
    record { inside = rw (admit_length t q) v.inside; runs = (w.0, w.1); last = admit_last t q ∙ v.last }

-- R100, R105: and so does a leave: the line itself runs on, and another that is gone did not run last
left_last : (t : Table) (n k : ℕ) → RanLast k t → RanLast k (after (leaving n) t)
left_last t n k v =
    let w = leave_running t n k _ _ _ _ (v.runs.0, v.runs.1, refl, refl, refl, refl) in
    record { inside = rw (leave_length t n) v.inside; runs = (w.0, w.1); last = left_is (λ u. u.last ≡ k) t n v.last (λ f m. same (ℕ_discrete k n)) }
  where
    other : (k ≡ n → ⊥) → (b : Bool) → (pick b (settle n t) t).last ≡ k
    other z true = ap (λ (u : Table). u.last) (sym (settle_other t n (λ y. z (sym v.last ∙ y)))) ∙ v.last
    other z false = v.last

    same : Dec (k ≡ n) → (let_go_at n t).last ≡ k
    same (yes z) =
        let e : is_nothing (let_go (at t.slots n)) ≡ false = ap (λ (i : ℕ). is_nothing (let_go (at t.slots i))) (sym z) ∙ ap (λ (h : Held). is_nothing (let_go h)) v.runs.1 in
        rw e v.last
    same (no z) = other z (is_nothing (let_go (at t.slots n)))

-- R105: so it is kept as long as no tick passes
kept_last : (more : List Act) (t : Table) (k : ℕ) → Good t → RanLast k t → trace more t ≡ [] → RanLast k (run more t)
kept_last [] t k g v = λ e. v
kept_last (asking q ∷ rest) t k g v = kept_last rest t k g v
kept_last (admitting q ∷ rest) t k g v = kept_last rest (after (admitting q) t) k (good_after (admitting q) t g) (admitted_last t q k v)
kept_last (stepping ∷ rest) t k g v =
    split (2 ^ 48) t.clock
    (λ l. by_last (λ u ran. ran ≡ [] → RanLast k (run rest u)) rest t l (kept_last rest t k g v))
    (λ l. by_tick (λ u ran. ran ≡ [] → RanLast k (run rest u)) rest t g l (λ e. cc))
kept_last (leaving n ∷ rest) t k g v = kept_last rest (after (leaving n) t) k (good_after (leaving n) t g) (left_last t n k v)

-- ---- who ran goes on

-- a step that says slot k chose it, and made the table a tick later
chose : (t : Table) (k : ℕ) → Good t → (step_of t).answer ≡ Ok (Some k) → (choose t ≡ Some k) × (step_of t ≡ ticked (Some k) t)
chose t k g e =
    split (2 ^ 48) t.clock
    (λ h. let p = says_last t h in
    cc)
    (λ h. let p = says_choice t g h in
    let z : choose t ≡ Some k = cc in
    (z, step_table t g h ∙ ap (λ (o : Option ℕ). ticked o t) z))

-- R106: who ran goes on
pub who_ran_goes_on : WhoRanGoesOn
who_ran_goes_on acts k v more quiet first early =
    let t = run acts empty_table in
    let g = good_reached acts in
    let c = chose t k g v.ran in
    let e : (step_of t).table ≡ (ticked (Some k) t).table = ap (λ (s : Acted (Option ℕ)). s.table) c.1 in
    let l = subst (RanLast k) (sym e) (ticked_last t k (subst (λ (o : Option ℕ). May o t.slots) c.0 (choice_may t)) (subst (λ (u : Table). is_nothing (at u.slots k) ≡ false) e v.there)) in
    let h = good_after stepping t g in
    let u = run more (ran_table acts) in
    says_choice u (good_run more (ran_table acts) h) early
    ∙ ap Ok (last_goes_on u (rw (kept_last more (ran_table acts) k h l quiet).last first) ∙ ap Some (kept_last more (ran_table acts) k h l quiet).last)

-- ---- ask does not look at it

-- R107: nothing that ask and admit look at is the last slot
pub last_not_asked : LastNotAsked
unfolding ask_of
last_not_asked t k q = record {
  answers = λ a v. subst (Answers (with_last t k) q) (answers_unique t q ((ask_of t q)) a (ask_answers t q) v) (ask_answers (with_last t k) q);
  ask = λ a b x y. x.computed ∙ sym y.computed;
  admit = λ m n x y. (
    ap (λ (r : Acted ℕ). r.answer) x.computed ∙ (both (ask_of t q)).0 ∙ sym (ap (λ (r : Acted ℕ). r.answer) y.computed),
    ap (λ (r : Acted ℕ). with_last r.table k) x.computed ∙ (both (ask_of t q)).1 ∙ sym (ap (λ (r : Acted ℕ). r.table) y.computed),
  );
}
  where
    both : (a : Said ℕ) → ((admit_with t q a).answer ≡ (admit_with (with_last t k) q a).answer) × (with_last (admit_with t q a).table k ≡ (admit_with (with_last t k) q a).table)
    both (Ok r) = (refl, refl)
    both (Err x) = (refl, refl)
