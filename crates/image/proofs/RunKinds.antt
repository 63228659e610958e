-- The kinds of a running line (R81): 1 where it renews, 3 where it leaves. Nine bytes of either are all a line's.
use mathlib.Core.Path.{◌≡◌, refl}
use mathlib.Core.List.{List}
use Rattle.std.specs.Prelude.{None}
use Prim.Native.Nat.{ℕ, ◌<◌}
use native.Mathlib.Omega.{arith}
use Rattle.line.specs.declared.Follows.{Follows}
use Rattle.line.specs.declared.Follows.TheVariants.{Renews, Leaves}
use Rattle.line.specs.declared.Held.TheVariants.{Running}
use Rattle.line.specs.Slots.{lowest}
use Rattle.line.proofs.After.{by_follows_lem}
use Rattle.image.specs.Image.{run_kind}
use Rattle.image.specs.Loading.{byte, blank_from, slot_wrong, run_in, held_in}

module _ (f : Follows) where
  -- R81: it is a kind
  pub run_kind_small : run_kind f < 4
  run_kind_small = by_follows_lem (λ (k : ℕ). k < 4) 1 3 f (omega arith) (omega arith)

  -- R83: none of its bytes must be 0
  pub run_blank : blank_from (run_kind f) ≡ 9
  unfolding blank_from
  run_blank = by_follows_lem (λ (k : ℕ). blank_from k ≡ 9) 1 3 f refl refl

-- nine bytes that open with such a kind
pub run_in_lem : (f : Follows) (l : List ℕ) → byte l 0 ≡ run_kind f → held_in l ≡ Running (run_in f l)
unfolding held_in
run_in_lem Renews l e = rw e
run_in_lem Leaves l e = rw e

-- R83: nothing is wrong with them
pub run_right : (f : Follows) (l : List ℕ) → byte l 0 ≡ run_kind f → slot_wrong l ≡ None
unfolding lowest
run_right f l e = rw (e, run_blank f)
