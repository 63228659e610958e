-- What ask's contract rules out of refusal 10: wrong ticks and wrong excesses (R103), on one table with two short ends.
use Rattle.std.specs.Prelude.{Err}
use Rattle.table.specs.Words.{Said}
use Prim.Native.Nat.{ℕ, ◌+◌, ◌≤◌}
use mathlib.Core.Path.{◌≡◌, refl, ◌∙◌}
use mathlib.Core.List.{[], ◌∷◌}
use native.Mathlib.Omega.{arith}
use lib.IntN.{pos}
use Rattle.periods.specs.Multiples.{euclid, gcd_of, lcm_of, frame_from}
use Rattle.line.specs.Slots.{total, map_at, lowest}
use Rattle.line.specs.Streams.{due, every, ends_before}
use Rattle.line.specs.Demand.{last_end}
use Rattle.line.specs.Shares.{periods_in}
use Rattle.line.specs.Ends.{ends_of, slack, bound, greatest, soonest_of, excess_at, short_at, first_short, start}
use Rattle.table.specs.declared.Table.{Table}
use Rattle.table.specs.declared.Request.{Request}
use Rattle.table.specs.Words.{refusal, short_refusal}
use Rattle.table.specs.Grounds.{asked}
use Rattle.table.specs.Ask.{ask_in, ask_of}
use Rattle.table.specs.Cases.{Case, line, case, cases, case_g}
use Rattle.theory.proofs.Answers.{ask_answers}
use Rattle.theory.proofs.Cases.{cases_answer}
use Rattle.promises.proofs.Excluded.{right_in}
use Rattle.promises.specs.Excluded.{MeetsAsk, first_listed, TenOf, FirstBySlot, GreatestExcess, FromTheClock, OneTooGreat, KeptInAnother}

-- at clock 100 slot 1 ends at 103, two ticks short, and slot 0 at 107, four ticks short
abbrev pub late : Case
late = case 100 (line 6 20 20 13 6 ∷ line 5 20 20 17 5 ∷ line 15 40 40 0 0 ∷ []) 1 40 (Err (short_refusal 103 2))

late_asked : ask_of late.table late.request ≡ late.answer
unfolding euclid gcd_of lcm_of frame_from total lowest due last_end map_at periods_in every ends_before ends_of slack bound greatest soonest_of first_short start ask_in ask_of
late_asked = refl

module _ (f : Table → Request → Said ℕ) (m : MeetsAsk f) where
  says_late : f late.table late.request ≡ Err (short_refusal 103 2)
  says_late = right_in f m late (rw late_asked at (ask_answers late.table late.request))

  slot_order : first_listed (short_at 100 (asked late.table late.request)) (ends_of 100 (last_end 100 (asked late.table late.request)) (asked late.table late.request)) ≡ 107
  unfolding total due last_end map_at every ends_before ends_of
  slot_order = refl

  -- R103: slot order is not time order
  pub no_ask_names_the_first_slot : TenOf f FirstBySlot → ⊥
  no_ask_names_the_first_slot w = omega (arith, w late.table late.request _ says_late refl ∙ slot_order)

  later_excess : excess_at 100 (asked late.table late.request) 107 ≡ pos 4
  unfolding total due map_at
  later_excess = refl

  -- R103: a later tick may have a greater excess
  pub no_ask_names_the_greatest : TenOf f GreatestExcess → ⊥
  no_ask_names_the_greatest w =
      let h : 4 ≤ 2 = rw later_excess at (w late.table late.request _ says_late refl 107 (omega arith)) in
      omega arith

  far_excess : excess_at 100 (asked late.table late.request) 203 ≡ pos 2 → ⊥
  unfolding total due map_at
  far_excess e = let z : ◌≡◌ {A = ℕ} 0 1 = cc in omega arith

  -- R103: the tick is absolute
  pub no_ask_counts_from_the_clock : TenOf f FromTheClock → ⊥
  no_ask_counts_from_the_clock w = far_excess (w late.table late.request _ says_late refl)

  first_excess : excess_at 100 (asked late.table late.request) 103 ≡ pos 2
  unfolding total due map_at
  first_excess = refl

  -- R103: the excess is that of the tick, exactly
  pub no_ask_says_one_too_many : TenOf f OneTooGreat → ⊥
  no_ask_says_one_too_many w =
      let h : 2 ≡ 1 + 2 = rw first_excess at (w late.table late.request _ says_late refl) in
      omega arith

  says_nine : f case_g.table case_g.request ≡ Err (refusal 9 0)
  unfolding cases
  says_nine = right_in f m case_g cases_answer.1.1.1.1.1.1.0

  -- R103: no other refusal says an excess
  pub no_ask_keeps_an_excess : KeptInAnother f → ⊥
  no_ask_keeps_an_excess w =
      let h : 1 ≤ 0 = w case_g.table case_g.request _ says_nine in
      omega arith
