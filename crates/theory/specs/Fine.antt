-- What a run of the pump keeps: the shares, no excess, the lag, and the runs themselves. A line that waits has its stream too, and counts in all of it.
use Rattle.std.specs.Prelude.{ℕ, zero, suc, ◌-◌, ◌≤◌, ◌<◌, ◌≡◌, List, length, Option, None, Some}
use Rattle.line.specs.declared.Held.{Held}
use Rattle.line.specs.declared.Stream.{Stream}
use Rattle.line.specs.declared.Slot.{Slot}
use Rattle.line.specs.Slots.{at, Each, total}
use Rattle.line.specs.Sound.{Sound}
use Rattle.line.specs.Streams.{by_stream}
use Rattle.line.specs.Demand.{demands}
use Rattle.line.specs.Stretch.{Barred}
use Rattle.line.specs.Shares.{Divides, share, claim, full}
use Rattle.line.specs.Tick.{Owed}
use Rattle.table.specs.Step.{Earliest, serve, pass}

-- M is a common multiple of the periods, and by it the shares of all lines add up to at most 1
pub record Shares (M : ℕ) (l : List Slot) : Type 0 where
  pub some_frame : 0 < M
  pub common : Each (Divides M) l
  pub at_most_one : total (share M) l ≤ M

-- what a step keeps: at the clock k every line is sound, the shares fit, and no t has excess
pub record Fine (M k : ℕ) (l : List Slot) : Type 0 where
  pub sound : Each Sound l
  pub shares : Shares M l
  pub no_excess : (t : ℕ) → k ≤ t → demands k l t ≤ t - k

-- any serving of a running line that is owed, or none
abbrev pub May : Option ℕ → List Slot → Type 0
May None l = Unit {0}
May (Some j) l = (j < length l) × Owed (at l j)

-- no tick is wasted: none is served only if nobody is owed
abbrev pub Busy : Option ℕ → List Slot → Type 0
Busy None l = Each (λ h. Owed h → ⊥) l
Busy (Some j) l = (j < length l) × Owed (at l j)

-- R46: where the period ends with the coming tick, nothing is owed
abbrev pub Closes : Stream → Type 0
Closes s = s.end ≤ 1 → s.remaining ≡ 0

-- R46: the same of what a slot holds
abbrev pub Kept : Held → Type 0
Kept h = by_stream (Unit {0}) Closes h

-- R29: the lines are not behind their shares
abbrev pub Lag : ℕ → List Slot → Type 0
Lag M l = total (claim M) l ≤ total (full M) l

-- some run of n ticks, whoever is served, has no line short
abbrev pub Reach : ℕ → List Slot → Type 0
Reach zero l = Unit {0}
Reach (suc n) l = (o : Option ℕ) × May o l × Each Kept (serve o l) × Reach n (pass (serve o l))

-- every run of n ticks by the earliest end, whichever of equals, has no line short
abbrev pub Safe : ℕ → List Slot → Type 0
Safe zero l = Unit {0}
Safe (suc n) l = (o : Option ℕ) → Earliest o l → Each Kept (serve o l) × Safe n (pass (serve o l))

-- R25: every running line may have its T' for its period
abbrev pub Unbarred : List Slot → (ℕ → ℕ) → Type 0
Unbarred l p = (i : ℕ) → i < length l → Barred (p i) (at l i) → ⊥
