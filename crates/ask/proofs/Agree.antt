-- Requests that agree on what is looked at get the same answer and the same table.
use Rattle.std.specs.Prelude.{Ok, Err}
use Rattle.table.specs.Words.{Said}
use Prim.Native.Nat.{ℕ, suc, ◌<◌}
use mathlib.Core.Path.{◌≡◌, refl, ap, ◌∙◌}
use mathlib.Core.Bool.{Bool, false}
use mathlib.Core.List.{List, [], ◌∷◌}
use native.Mathlib.Omega.{arith}
use lib.ListN.{length, set, replicate}
use Rattle.periods.specs.Multiples.{euclid, gcd_of, lcm_of, frame_from}
use Rattle.line.specs.declared.Run.{Run}
use Rattle.line.specs.declared.Held.{Held}
use Rattle.line.specs.declared.Held.TheVariants.{Nothing, Running, Waiting}
use Rattle.line.specs.declared.Slot.{Slot}
use Rattle.table.specs.declared.Table.{Table}
use Rattle.table.specs.declared.Request.{Request}
use Rattle.line.specs.Slots.{with_period, if_runs, at, total, map_at, lowest}
use Rattle.table.specs.Words.{empty_table, request_with}
use Rattle.line.specs.Streams.{due, every, ends_before}
use Rattle.line.specs.Demand.{last_end}
use Rattle.table.specs.Grounds.{entry, asked}
use Rattle.line.specs.Stretch.{stretch, stretched, barred_run, barred}
use Rattle.line.specs.Shares.{periods_in}
use Rattle.line.specs.Ends.{ends_of, slack, bound, greatest, soonest_of, first_short, start}
use Rattle.table.specs.Ask.{ask_in, ask_of}
use Rattle.table.specs.Admit.{admit_with, admit_of}
use Rattle.line.proofs.Search.{lowest_congr}
use Rattle.ask.specs.Agree.{Runs, Agree}

-- what is made of a running line with its T', and of nothing else, agrees where the T' do
runs_agree : {A : Type 0} (z : A) (f : ℕ → Run → A) (p r : ℕ) (h : Held) → (Runs h → p ≡ r) → if_runs z (f p) h ≡ if_runs z (f r) h
runs_agree z f p r Nothing e = refl
runs_agree z f p r (Running x) e = ap (λ (k : ℕ). f k x) (e tt)
runs_agree z f p r (Waiting w) e = refl

stretch_agrees : (p r : ℕ) (h : Held) → (Runs h → p ≡ r) → stretch p h ≡ stretch r h
stretch_agrees p r h e = runs_agree h (λ k x. Running (with_period x k)) p r h e

barred_agrees : (p r : ℕ) (h : Held) → (Runs h → p ≡ r) → barred p h ≡ barred r h
barred_agrees p r h e = runs_agree false barred_run p r h e

slots_agree : (l : List Slot) (p r : ℕ → ℕ) → ((i : ℕ) → i < length l → Runs (at l i) → p i ≡ r i) → stretched l p ≡ stretched l r
unfolding map_at
slots_agree [] p r e = refl
slots_agree (s ∷ l) p r e =
    rw (
      stretch_agrees (p 0) (r 0) s.held (e 0 (omega arith)),
      slots_agree l (λ i. p (suc i)) (λ i. r (suc i)) (λ i h. e (suc i) (omega arith)),
    )

module _ (t : Table) (q r : Request) (a : Agree t q r) where
  asked_agrees : asked t q ≡ asked t r
  asked_agrees = slots_agree t.slots (entry q) (entry r) a.entries

  abbrev bars : Request → ℕ → Bool
  bars x i = barred (entry x i) (at t.slots i)

  answers_agree : ask_of t q ≡ ask_of t r
  unfolding ask_of
  answers_agree =
      rw (
        lowest_congr (bars q) (bars r) (length t.slots) (λ i h. barred_agrees (entry q i) (entry r i) (at t.slots i) (a.entries i h)),
        a.need,
        a.period,
        asked_agrees,
      )

  tables_agree : (x : Said ℕ) → admit_with t q x ≡ admit_with t r x
  tables_agree (Ok s) = rw (a.need, a.period, asked_agrees)
  tables_agree (Err x) = refl

  -- R6: entries that are not looked at change neither answer nor table
  pub ask_agrees : (ask_of t q ≡ ask_of t r) × (admit_of t q ≡ admit_of t r)
  ask_agrees = (answers_agree, ap (admit_with t q) answers_agree ∙ tables_agree (ask_of t r))

-- R6: on the empty table an entry of 65,521 changes nothing: the new line starts at once
pub empty_starts : ask_of empty_table (request_with (set (replicate 16 0) 3 65521) 3 5) ≡ Ok 0
unfolding euclid gcd_of lcm_of frame_from total lowest due last_end map_at periods_in every ends_before ends_of slack bound greatest soonest_of first_short start ask_in ask_of
empty_starts = refl
