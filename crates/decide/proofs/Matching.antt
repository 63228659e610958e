-- What is counted of the lines from the clock is what the rules count of the slots in absolute ticks: the frame, the sums, the ends, the first short one and the start.
use Prim.Native.Nat.{ℕ, ◌+◌, ◌-◌, ◌≤◌, ◌<◌, max}
use mathlib.Core.Path.{◌≡◌, refl, ap, sym, ◌∙◌}
use Rattle.std.specs.Prelude.{Some}
use mathlib.Core.List.{List, ◌∷◌, map}
use native.Mathlib.Omega.{arith}
use lib.IntN.{pos, sub_ℕ}
use lib.Signed.{lt_z}
use Rattle.periods.specs.Multiples.{All, frame_of}
use Rattle.line.specs.declared.Slot.{Slot}
use Rattle.line.specs.declared.Stream.{Stream}
use Rattle.line.specs.Slots.{total}
use Rattle.line.specs.Streams.{flow, share_of, claim_of, full_of}
use Rattle.line.specs.Demand.{demands}
use Rattle.line.specs.Shares.{frame, share, claim, full}
use Rattle.line.specs.Ends.{ends_of, slack, bound, greatest, soonest_of, start, excess_at, short_at, first_short}
use Rattle.line.proofs.Ends.{soonest_here}
use Rattle.sums.specs.Lines.{sum_of, longest, Fit}
use Rattle.sums.specs.Weighed.{periods_of}
use Rattle.pass.specs.Pass.{due_by, demand_of, last_by, ends_by, excess_by, short_by, bound_by}
use Rattle.pass.proofs.LastEnd.{last_small}
use Rattle.decide.specs.Lines.{by_period, by_gap, lines_in, absolute}
use Rattle.decide.proofs.Ticks.{total_lines, flow_shift, periods_lines, last_lines, ends_lines, ends_early, shifted, soonest_shift, bound_shift, greatest_shift}

module _ (l : List Slot) where
  -- R8: the frame of the lines is the slots'
  pub frame_lines : (Tn : ℕ) → frame_of (Tn ∷ periods_of (map by_period (lines_in l))) ≡ frame l Tn
  frame_lines Tn = ap (λ (ps : List ℕ). frame_of (Tn ∷ ps)) (sym (periods_lines l))

  -- R28: the shares of the lines add up to the slots'
  pub share_lines : (F : ℕ) → sum_of (share_of F) (map by_period (lines_in l)) ≡ total (share F) l
  share_lines F = sym (total_lines (share_of F) (share_of F) by_period (λ s. refl) l)

  -- R29: their claims
  pub claim_lines : (F : ℕ) → sum_of (claim_of F) (map by_period (lines_in l)) ≡ total (claim F) l
  claim_lines F = sym (total_lines (claim_of F) (claim_of F) by_period (λ s. refl) l)

  -- R29: their needs
  pub full_lines : (F : ℕ) → sum_of (full_of F) (map by_period (lines_in l)) ≡ total (full F) l
  full_lines F = sym (total_lines (full_of F) (full_of F) by_period (λ s. refl) l)

  abbrev spaced : List Stream
  spaced = map by_gap (lines_in l)

  abbrev all : ℕ → ℕ
  all d = demand_of spaced d

  abbrev last : ℕ
  last = last_by spaced

  abbrev ends : List ℕ
  ends = ends_by last spaced

  demand_is : (t0 d : ℕ) → d < longest → demands t0 l (t0 + d) ≡ all d
  demand_is t0 d h = total_lines (λ s. flow t0 s (t0 + d)) (due_by d) by_gap (flow_shift t0 d h) l

  -- R12: the excess at a tick before every second end of a line that leaves
  excess_lines : (t0 d : ℕ) → d < longest → excess_at t0 l (t0 + d) ≡ excess_by all d
  excess_lines t0 d h =
      let z : t0 + d - t0 ≡ d = omega arith in
      ap (λ (x : ℕ). sub_ℕ x (t0 + d - t0)) (demand_is t0 d h) ∙ ap (sub_ℕ (all d)) z

  module _ (fit : All Fit spaced) (t0 : ℕ) where
    -- R30: the first short end
    pub short_lines : first_short t0 l ≡ shifted t0 (soonest_of (short_by all) ends)
    unfolding first_short
    short_lines =
        let near : last ≤ longest = last_small spaced fit in
        ap (λ (x : ℕ). soonest_of (short_at t0 l) (ends_of t0 x l)) (last_lines t0 l)
        ∙ ap (soonest_of (short_at t0 l)) (ends_lines t0 last l near)
        ∙ soonest_shift (short_at t0 l) (short_by all) t0 last (λ d b. ap (lt_z (pos 0)) (excess_lines t0 d (omega arith))) ends (ends_early last spaced fit)

    -- R103: and the excess there
    pub over_lines : (d : ℕ) → soonest_of (short_by all) ends ≡ Some d → excess_at t0 l (t0 + d) ≡ excess_by all d
    over_lines d e =
        let w = soonest_here (short_by all) (λ u. u < last) d ends e (ends_early last spaced fit) in
        excess_lines t0 d (omega (arith, w.1, last_small spaced fit))

  slack_is : (t0 d : ℕ) → d < longest → slack t0 l (t0 + d) ≡ d - all d
  unfolding slack
  slack_is t0 d h = let e = demand_is t0 d h in omega arith

  -- R14: the greatest bound is the start
  pub start_lines : All Fit spaced → (t0 Cn Tn : ℕ) → 1 ≤ Cn → t0 + greatest (bound_by Cn Tn last all) 0 ends ≡ start t0 l Cn Tn
  unfolding start
  start_lines fit t0 Cn Tn h =
      let near : last ≤ longest = last_small spaced fit in
      let f : ℕ → ℕ → ℕ = λ La d. bound Cn Tn La d (slack t0 l d) in
      let b = bound_by Cn Tn last all in
      let z : t0 ≡ t0 + 0 = omega arith in
      sym
      (greatest_shift (f (t0 + last)) b t0 last
      (λ r d g. ap (λ (s : ℕ). max (t0 + r) (bound Cn Tn (t0 + last) (t0 + d) s)) (slack_is t0 d (omega arith)) ∙ bound_shift Cn Tn last t0 r d (d - all d) h)
      0 ends (ends_early last spaced fit)
      )
      ∙ ap (λ (x : ℕ). greatest (f (t0 + last)) x (absolute t0 ends)) (sym z)
      ∙ ap (greatest (f (t0 + last)) t0) (sym (ends_lines t0 last l near))
      ∙ ap (λ (x : ℕ). greatest (f x) t0 (ends_of t0 x l)) (sym (last_lines t0 l))
