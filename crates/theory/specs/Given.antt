-- What is known of a table and a request that no ground refuses, and the ends at which the excess can rise.
use Rattle.std.specs.Prelude.{ℕ, ◌+◌, ◌-◌, ◌*◌, ◌/◌, ◌^◌, ◌≤◌, ◌<◌, ◌≡◌, List, length, Some}
use Rattle.std.specs.Int.{◌∣◌}
use Rattle.line.specs.declared.Held.{Held}
use Rattle.line.specs.declared.Slot.{Slot}
use Rattle.table.specs.declared.Table.{Table}
use Rattle.table.specs.declared.Request.{Request}
use Rattle.line.specs.Slots.{at, Each, total, is_nothing, Waits, lowest_of}
use Rattle.line.specs.Sound.{Sound}
use Rattle.line.specs.Streams.{by_stream, EndAt}
use Rattle.line.specs.Demand.{demands, new_demand, Least}
use Rattle.table.specs.Counts.{accounted}
use Rattle.table.specs.Grounds.{entry, asked}
use Rattle.line.specs.Shares.{frame, Divides, share, claim, full}
use Rattle.theory.specs.Fine.{Unbarred}

-- R24, R26, R28, R29: none of these grounds holds of the lines l at their T' and the new line (Cn, Tn), the sums taken times a common multiple F
pub record Given (F : ℕ) (l : List Slot) (Cn Tn : ℕ) : Type 0 where
  pub sound : Each Sound l
  pub some_frame : 1 ≤ F
  pub divides : Each (Divides F) l
  pub new_some : 1 ≤ Cn
  pub new_fits : Cn ≤ Tn
  pub new_divides : Tn ∣ F
  pub eight : total (share F) l + Cn * (F / Tn) ≤ F
  pub nine : total (claim F) l ≤ total (full F) l

-- R30: nor does this one
abbrev pub Alone : ℕ → List Slot → Type 0
Alone t0 l = (t : ℕ) → t0 ≤ t → demands t0 l t ≤ t - t0

-- d is an end of what a slot holds
abbrev pub IsEnd : ℕ → Held → ℕ → Type 0
IsEnd t0 h d = by_stream ⊥ (λ s. EndAt t0 s d) h

-- d is an end of some line
abbrev pub AnyEnd : ℕ → List Slot → ℕ → Type 0
AnyEnd t0 l d = (i : ℕ) × (i < length l) × IsEnd t0 (at l i) d

-- R18: what is known of a request of which none of the grounds 1 to 9 holds
pub record Cleared (t : Table) (q : Request) : Type 0 where
  pub early : t.clock ≤ 2 ^ 48 - 65536
  pub slot : ℕ
  pub lowest_empty : lowest_of is_nothing t.slots ≡ Some slot
  pub none_waits : Each (λ h. Waits h → ⊥) t.slots
  pub sound : Each Sound t.slots
  pub within : accounted t ≤ t.clock
  pub unbarred : Unbarred t.slots (entry q)
  pub given : Given (frame (asked t q) q.period) (asked t q) q.need q.period

-- R18, R14: what is known of a request that is granted the start r: no ground holds, and r is the least smooth start
pub record Granted (t : Table) (q : Request) (r : ℕ) : Type 0 where
  pub cleared : Cleared t q
  pub alone : Alone t.clock (asked t q)
  pub least : Least t.clock (asked t q) (new_demand q.need q.period) r
