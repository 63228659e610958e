-- Which requests agree before a table, at an example with each thing that a slot can hold; and which answers are allowed.
use Rattle.std.specs.Prelude.{Ok, Err}
use Rattle.table.specs.Words.{Said}
use Prim.Native.Nat.{ℕ, zero, suc, ◌<◌}
use mathlib.Core.Path.{◌≡◌, refl, ap}
use mathlib.Core.List.{[], ◌∷◌}
use native.Mathlib.Omega.{arith}
use lib.ListN.{length, replicate}
use Rattle.table.specs.declared.Table.{Table}
use Rattle.table.specs.declared.Request.{Request}
use Rattle.line.specs.Slots.{empty, at, lowest}
use Rattle.table.specs.Words.{request_with, refusal}
use Rattle.table.specs.Grounds.{entry}
use Rattle.table.specs.Ask.{ask_of}
use Rattle.table.specs.Cases.{running, waiting, table_of}
use Rattle.ask.specs.Agree.{Runs, Agree}
use Rattle.ask.specs.Asked.{Asked}
use Rattle.ask.proofs.Right.{asked}

-- slot 0 runs a line, slot 1 holds nothing, slot 2 holds a waiting line
abbrev pub mixed : Table
mixed = table_of 8 (running 1 4 0 1 ∷ empty ∷ waiting 2 6 3 ∷ [])

-- a request with the entries of the first three slots, the need and the period
abbrev pub asking : (first second third Cn Tn : ℕ) → Request
asking a b c Cn Tn = request_with (a ∷ b ∷ c ∷ replicate 13 0) Cn Tn

-- R6: the entries of the slot with nothing and of the waiting one are not looked at
pub agree_unseen : Agree mixed (asking 4 0 6 1 4) (asking 4 65521 5 1 4)
agree_unseen = record { need = refl; period = refl; entries = each }
  where
    each : (i : ℕ) → i < length mixed.slots → Runs (at mixed.slots i) → entry (asking 4 0 6 1 4) i ≡ entry (asking 4 65521 5 1 4) i
    each zero h r = refl
    each (suc zero) h r = absurd r
    each (suc (suc zero)) h r = absurd r
    each (suc (suc (suc i))) h r = refl

-- R6: requests with another entry for the running slot do not agree
pub apart_by_entry : Agree mixed (asking 4 0 6 1 4) (asking 5 0 6 1 4) → ⊥
apart_by_entry a = omega (arith, a.entries 0 (omega arith) tt)

-- R6: requests with another need do not agree
pub apart_by_need : Agree mixed (asking 4 0 6 1 4) (asking 4 0 6 2 4) → ⊥
apart_by_need a = omega (arith, a.need)

-- R6: requests with another period do not agree
pub apart_by_period : Agree mixed (asking 4 0 6 1 4) (asking 4 0 6 1 5) → ⊥
apart_by_period a = omega (arith, a.period)

-- R41: the line that waits in slot 2 is the first ground
pub asked_mixed : Asked mixed (asking 4 0 6 1 4) (Err (refusal 3 2))
unfolding lowest ask_of
asked_mixed = asked mixed (asking 4 0 6 1 4) refl

-- R41: the same ground at another place is no answer
pub asked_elsewhere : Asked mixed (asking 4 0 6 1 4) (Err (refusal 3 0)) → ⊥
unfolding lowest ask_of
asked_elsewhere a = omega (arith, ap place_of a.computed)
  where
    place_of : Said ℕ → ℕ
    place_of (Ok r) = 0
    place_of (Err x) = x.place
