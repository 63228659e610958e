-- R18, R19: the order of the grounds and their places in the answer relation, on one table in which two grounds hold: slot 0 has an unsound line and slot 1 waits.
use Rattle.std.specs.Prelude.{Err}
use mathlib.Core.Path.{refl}
use mathlib.Core.Logic.{inl, inr}
use mathlib.Core.List.{[], ◌∷◌}
use Prim.Native.Nat.{ℕ, zero, suc, ◌<◌}
use native.Mathlib.Omega.{arith}
use lib.ListN.{replicate}
use Rattle.table.specs.declared.Table.{Table}
use Rattle.table.specs.declared.Request.{Request}
use Rattle.line.specs.Slots.{at, Waits}
use Rattle.line.proofs.Search.{true_false}
use Rattle.table.specs.Words.{request_with, refusal}
use Rattle.table.specs.Grounds.{Answers}
use Rattle.table.specs.Cases.{running, waiting, table_of}

abbrev two_grounds : Table
two_grounds = table_of 5 (running 9 8 0 0 ∷ waiting 1 8 3 ∷ [])

abbrev any_request : Request
any_request = request_with (replicate 16 8) 1 8

-- R18, R23, R24: 3 is given, at slot 1, and not 4 at slot 0
pub waiting_before_unsound : Answers two_grounds any_request (Err (refusal 3 1))
waiting_before_unsound =
    inr ((λ x h. omega (arith, h.1.0)), inr ((λ x h. h.1.0 2 (omega arith) refl), inl (1, record { inside = omega arith; here = refl; below = below }, refl)))
  where
    below : (i : ℕ) → i < 1 → Waits (at two_grounds.slots i) → ⊥
    below zero b v = true_false v refl
    below (suc i) b v = omega arith
