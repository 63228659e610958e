-- Runs over the boundary, R78: each act on an image leaves the image of the table after it, and so does a run.
use Rattle.std.specs.Prelude.{Ok, Err, Option}
use mathlib.Core.Path.{◌≡◌, refl, sym, ap, ◌∙◌, subst}
use mathlib.Core.List.{List, [], ◌∷◌, ◌++◌, append-nil}
use Prim.Native.Nat.{ℕ, ◌^◌}
use native.Mathlib.Omega.{arith}
use lib.ListN.{length, replicate, drop_of_length-le}
use Rattle.table.specs.declared.Table.{Table}
use Rattle.table.specs.declared.Request.{Request}
use Rattle.table.specs.Words.{empty_table, refusal, Said}
use Rattle.table.specs.Ask.{ask_of}
use Rattle.table.specs.Admit.{admit_with}
use Rattle.table.specs.Step.{step_of}
use Rattle.table.specs.Leave.{leave_of}
use Rattle.table.specs.Runs.{Act, asking, admitting, stepping, leaving, after, run}
use Rattle.table.proofs.Step.{refused_keeps}
use Rattle.table.proofs.LettingGo.{leave_keeps}
use Rattle.image.specs.Image.{size, image_of, TableWidths}
use Rattle.image.specs.Loading.{load_of}
use Rattle.image.specs.Answers.{stored_in}
use Rattle.image.proofs.ReadsBack.{length_image, loads_back}
use Rattle.image.proofs.Stored.{stored_is}
use Rattle.calls.specs.Results.{refused_as}
use Rattle.calls.specs.Tables.{changed, ask_for, admitted_in, after_admit, ran_as, stepped_as, step_for, stepped_in, after_step, leave_for, left_in, after_leave}
use Rattle.promises.specs.Demand3.{Unfailing}
use Rattle.promises.specs.Images.{AllNarrowed, image_by, image_run, LeftByContract, EmptyImage, ActsAlike, AnswersAlike, ImageRuns, ImageLoads, UnfailingStep, NeverMissedOnImages}
use Rattle.promises.proofs.Demand3.{never_missed}
use Rattle.promises.proofs.Widths.{narrow_empty, wide_after, wide_within}

-- R85, R87, R88, R102: the bytes that the contracts leave
pub left_by_contract : LeftByContract
left_by_contract = record { empty = λ l r m h. h.1; admit = λ l q r m h. h.1; step = λ l r m h. h.1; leave = λ l n r m h. h.1 }

-- R84: a buffer of an image's length holds the stored image and nothing else
pub stored_over : (u : Table) (l : List ℕ) → length l ≡ size 16 → stored_in u l ≡ image_of u
stored_over u l e =
    stored_is u l (omega arith) ∙ ap (λ (x : List ℕ). image_of u ++ x) (drop_of_length-le l {i = 298} (omega arith)) ∙ append-nil (image_of u)

-- R85: the image of the empty table
pub empty_image : EmptyImage
empty_image l e = stored_over empty_table l e

-- ---- one act

module _ (t : Table) (w : TableWidths 16 t) where
  over : (u : Table) → stored_in u (image_of t) ≡ image_of u
  over u = stored_over u (image_of t) (length_image 16 t w.slots w.counts)

  admit_image : (q : Request) → admitted_in t q (image_of t) ≡ image_of (after (admitting q) t)
  admit_image q = go (ask_of t q)
    where
      go : (a : Said ℕ) → changed a (stored_in (admit_with t q a).table (image_of t)) (image_of t) ≡ image_of (admit_with t q a).table
      go (Ok r) = over (admit_with t q (Ok r)).table
      go (Err x) = refl

  step_image : stepped_in t (image_of t) ≡ image_of (step_of t).table
  step_image = go (step_of t).answer refl
    where
      go : (o : Said (Option ℕ)) → (step_of t).answer ≡ o → changed o (stored_in (step_of t).table (image_of t)) (image_of t) ≡ image_of (step_of t).table
      go (Ok k) e = over (step_of t).table
      go (Err x) e = ap image_of (sym (refused_keeps t x e))

  leave_image : (n : ℕ) → left_in t n (image_of t) ≡ image_of (leave_of t n).table
  leave_image n = go (leave_of t n).answer refl
    where
      go : (a : Said ℕ) → (leave_of t n).answer ≡ a → changed a (stored_in (leave_of t n).table (image_of t)) (image_of t) ≡ image_of (leave_of t n).table
      go (Ok k) e = over (leave_of t n).table
      go (Err x) e = ap image_of (sym (leave_keeps t x n e))

  image_after_lem : (a : Act) → image_by a (image_of t) ≡ image_of (after a t)
  image_after_lem (asking q) = refl
  image_after_lem (admitting q) = ap (λ (s : Said Table). after_admit s q (image_of t)) (loads_back 16 t w) ∙ admit_image q
  image_after_lem stepping = ap (λ (s : Said Table). after_step s (image_of t)) (loads_back 16 t w) ∙ step_image
  image_after_lem (leaving n) = ap (λ (s : Said Table). after_leave s n (image_of t)) (loads_back 16 t w) ∙ leave_image n

-- R78, R82: one act on an image
pub acts_alike : ActsAlike
acts_alike a t n w = (image_after_lem t w a, wide_after a t n w)

-- R86, R87, R88: what is answered on an image
pub answers_alike : AnswersAlike
answers_alike t w =
    (λ q. ap (λ (s : Said Table). ask_for s q) (loads_back 16 t w), ap step_for (loads_back 16 t w), λ n. ap (λ (s : Said Table). leave_for s n) (loads_back 16 t w))

-- ---- a run

-- R4: the empty table has the code's widths
pub wide_empty : TableWidths 16 empty_table
wide_empty = record { slots = refl; clock = omega arith; lines = narrow_empty 16; counts = refl; had = wide_within (replicate 16 0) (omega arith); idle = omega arith; departed = omega arith; last = omega arith }

-- R78: a run from the image of any table with the code's widths
pub image_run_from : (acts : List Act) (t : Table) → AllNarrowed acts → TableWidths 16 t → (image_run acts (image_of t) ≡ image_of (run acts t)) × TableWidths 16 (run acts t)
image_run_from [] t n w = (refl, w)
image_run_from (a ∷ rest) t n w =
    let e = acts_alike a t n.0 w in
    let i = image_run_from rest (after a t) n.1 e.1 in
    (ap (image_run rest) e.0 ∙ i.0, i.1)

-- R78: a run over the boundary
pub image_runs : ImageRuns
image_runs acts n = (image_run_from acts empty_table n wide_empty).0

-- R78, R82: its bytes load as its table
pub image_loads : ImageLoads
image_loads acts n = let e = image_run_from acts empty_table n wide_empty in ap load_of e.0 ∙ loads_back 16 (run acts empty_table) e.1

-- ---- no missed period

-- R74: what an unfailing table promises of its step's result
unfailing_step : (t : Table) → Unfailing t → UnfailingStep t.clock (stepped_as t)
unfailing_step t u = record {
  goes_on = λ h. let g = u.goes_on h in (g.0, ap ran_as g.1);
  only_fifteen = go ((step_of t).answer) refl;
  at_the_last = λ h. ap ran_as (u.at_the_last h);
}
  where
    go : (s : Said (Option ℕ)) → (step_of t).answer ≡ s → ((ran_as s).number ≡ 0 → ⊥) → (ran_as s ≡ refused_as (refusal 15 0)) × (t.clock ≡ 2 ^ 48)
    go (Ok o) e h = absurd (h refl)
    go (Err x) e h = let v = u.only_fifteen x e in (ap refused_as v.0, v.1)

-- R74, R78: no step of a run over the boundary misses a period
pub never_missed_on_images : NeverMissedOnImages
never_missed_on_images acts n =
    subst (UnfailingStep (run acts empty_table).clock) (sym (ap step_for (image_loads acts n))) (unfailing_step (run acts empty_table) (never_missed acts))
