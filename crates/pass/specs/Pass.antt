-- The pass over the ends, counted from the clock: the demand at each end tells whether the running lines have excess there and what start
-- the new line may have. The period of a line is here the time from one of its ends to the next.
use Rattle.std.specs.Prelude.{ℕ, ◌-◌, ◌≤◌, max, Bool, not, List, [], ◌∷◌, ◌++◌, map, ltb, ℤ, pos, Option, None, Some, Result, Ok, Err}
use Rattle.std.proofs.Math.IntN.{sub_ℕ}
use Rattle.std.specs.Int.Signed.{lt_z}
use Rattle.line.specs.declared.Stream.{Stream}
use Rattle.line.specs.Slots.{pick}
use Rattle.line.specs.Streams.{due, ends_before}
use Rattle.line.specs.Demand.{ticks_short}
use Rattle.line.specs.Ends.{bound, greatest, soonest_of}
use Rattle.sums.specs.Lines.{sum_of, lines_of, alike, longest}
use Rattle.sums.specs.Weighed.{fitting}
use Rattle.pass.specs.declared.FirstExcess.{FirstExcess}
use Rattle.pass.specs.declared.NoPass.{NoPass}
use Rattle.pass.specs.declared.NoPass.TheVariants.{Short, Unfit}
use Rattle.pass.specs.declared.New.{New}

-- R10: a line's demand d ticks after the clock
abbrev pub due_by : ℕ → Stream → ℕ
due_by d x = due x.end x.remaining x.need x.period d

-- R12: the demands of the lines, added up
abbrev pub demand_of : List Stream → ℕ → ℕ
demand_of l d = sum_of (due_by d) l

-- R15: the greatest of these ends, or 0
unfoldable pub greatest_end : List ℕ → ℕ
greatest_end [] = 0
greatest_end (e ∷ es) = max e (greatest_end es)

-- R15: the greatest first end, or 0
abbrev pub last_by : List Stream → ℕ
last_by l = greatest_end (map (λ x. x.end) l)

-- R9: the ends before `last`, one line after the other
unfoldable pub ends_by : (last : ℕ) → List Stream → List ℕ
ends_by last [] = []
ends_by last (x ∷ l) = ends_before x.end x.period last ++ ends_by last l

-- R12: with `all d` for the demand at d: the excess at d
abbrev pub excess_by : (ℕ → ℕ) → ℕ → ℤ
excess_by all d = sub_ℕ (all d) d

-- R30: it is above 0
abbrev pub short_by : (ℕ → ℕ) → ℕ → Bool
short_by all d = lt_z (pos 0) (excess_by all d)

-- R103: the tick d, and the excess there
abbrev pub excess_from : (ℕ → ℕ) → ℕ → FirstExcess
excess_from all d = record { after = d; excess = ticks_short (excess_by all d) }

-- R14: the bound that the end d puts on the start
abbrev pub bound_by : (Cn Tn last : ℕ) → (ℕ → ℕ) → ℕ → ℕ
bound_by Cn Tn last all d = bound Cn Tn last d (d - all d)

-- R103, R14: what is said of the soonest short end, or else of the start r
abbrev pub pass_by : (ℕ → ℕ) → Option ℕ → (r : ℕ) → Result ℕ NoPass
pass_by all (Some d) r = Err (Short (excess_from all d))
pass_by all None r = Ok r

-- R30, R14: the soonest of the ends that is short, else the greatest of f at each end. The order of the ends is not looked at.
unfoldable pub pass_over : (all f : ℕ → ℕ) → List ℕ → Result ℕ NoPass
pass_over all f ds = pass_by all (soonest_of (short_by all) ds) (greatest f 0 ds)

-- R30, R14: the pass over the ends of the lines before `last`, from the clock on
abbrev pub pass_to : (last : ℕ) → List Stream → (Cn Tn : ℕ) → Result ℕ NoPass
pass_to last l Cn Tn = pass_over (demand_of l) (bound_by Cn Tn last (demand_of l)) (ends_by last l)

-- R15: and over those before the last end
abbrev pub pass_in : List Stream → (Cn Tn : ℕ) → Result ℕ NoPass
pass_in l Cn Tn = pass_to (last_by l) l Cn Tn

-- R30, R14: the pass of lines that are fit, with a need of at least 1
unfoldable pub pass_of : List Stream → (Cn Tn : ℕ) → Result ℕ NoPass
pass_of l Cn Tn = pick (not (fitting l)) (Err Unfit) (pick (ltb Cn 1) (Err Unfit) (pass_in l Cn Tn))

-- the same of slices: not fit where they differ in length
abbrev pub passed_in : (e c n p : List ℕ) → (Cn Tn : ℕ) → Result ℕ NoPass
passed_in e c n p Cn Tn = pick (alike e c n p) (pass_of (lines_of e c n p) Cn Tn) (Err Unfit)

-- R26, R3: what is known of the new line, since its ground did not hold, and of the last end
pub record FitNew (new : New) : Type 0 where
  pub some : 1 ≤ new.need
  pub small : new.need ≤ 65535
  pub wide : new.period ≤ 65535
  pub near : new.last ≤ longest
