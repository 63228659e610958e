-- What the pass says: the soonest short end, else the greatest bound; and of lines that are not fit.
use Prim.Native.Nat.{ℕ, ◌-◌, ◌/◌, ◌≤◌, ◌<◌}
use mathlib.Core.Path.{◌≡◌, refl, sym, ◌∙◌}
use mathlib.Core.Bool.{Bool, true, false, not}
use mathlib.Core.List.{List, [], ◌∷◌}
use Rattle.std.specs.Prelude.{Option, None, Some, Result, Ok, Err}
use native.Mathlib.Nat.{le-add_left, mul-le-mul_right}
use native.Mathlib.Omega.{arith}
use lib.Dec.{ltb}
use borrow.Author.Tests.{lt-ltb, le-ltb}
use Rattle.periods.specs.Multiples.{All}
use Rattle.line.specs.Slots.{pick}
use Rattle.line.specs.declared.Stream.{Stream}
use Rattle.line.specs.Ends.{bound, soonest_of, greatest}
use Rattle.line.proofs.Ends.{greatest_least}
use Rattle.sums.specs.Lines.{lines_of, alike}
use Rattle.sums.specs.Weighed.{fitting, fitting_in}
use Rattle.sums.proofs.Weighing.{fitting_says, unfit_is, fit_is}
use Rattle.pass.specs.declared.NoPass.{NoPass}
use Rattle.pass.specs.declared.NoPass.TheVariants.{Unfit}
use Rattle.pass.specs.Pass.{demand_of, last_by, ends_by, pass_by, pass_over, short_by, bound_by, pass_in, pass_of, passed_in}
use Rattle.pass.proofs.LastEnd.{last_small}

-- a start is said where no end is short, and it is the greatest bound
start_one : (all : ℕ → ℕ) (o : Option ℕ) (g r : ℕ) → pass_by all o g ≡ Ok r → (o ≡ None) × (g ≡ r)
start_one all None g r e = (refl, cc)
start_one all (Some d) g r e = absurd cc

-- R14: where a start is said it is the greatest bound
pass_greatest : (all f : ℕ → ℕ) (ds : List ℕ) (r : ℕ) → pass_over all f ds ≡ Ok r → greatest f 0 ds ≡ r
unfolding pass_over
pass_greatest all f ds r e = (start_one all (soonest_of (short_by all) ds) (greatest f 0 ds) r e).1

bound_most : (Cn Tn last d s : ℕ) → bound Cn Tn last d s ≤ last - Tn
unfolding bound
bound_most Cn Tn last d s = omega (arith, mul-le-mul_right Tn (le-add_left 1 (s / Cn)))

all_of : {Q : ℕ → Type 0} → ((d : ℕ) → Q d) → (ds : List ℕ) → All Q ds
all_of f [] = tt
all_of f (d ∷ ds) = (f d, all_of f ds)

-- ---- lines that are fit, and those that are not

in_near : (l : List Stream) (Cn Tn r : ℕ) → fitting l ≡ true → 1 ≤ Tn → pass_in l Cn Tn ≡ Ok r → r ≤ 65535
in_near l Cn Tn r e h q =
    let g = pass_greatest (demand_of l) (bound_by Cn Tn (last_by l) (demand_of l)) (ends_by (last_by l) l) r q in
    omega (
      arith,
      g,
      greatest_least (bound_by Cn Tn (last_by l) (demand_of l)) 0 (last_by l - Tn) (ends_by (last_by l) l) (omega arith)
          (all_of (λ d. bound_most Cn Tn (last_by l) d (d - demand_of l d)) (ends_by (last_by l) l)),
      last_small l (fitting_says l e),
    )

near_one : (b m : Bool) (x : Result ℕ NoPass) (r : ℕ) → pick (not b) (Err Unfit) (pick m (Err Unfit) x) ≡ Ok r → (b ≡ true) × (x ≡ Ok r)
near_one true true x r e = absurd cc
near_one true false x r e = (refl, e)
near_one false m x r e = absurd cc

-- R14, R3: the start has sixteen bits
pub start_near : (l : List Stream) (Cn Tn r : ℕ) → 1 ≤ Tn → pass_of l Cn Tn ≡ Ok r → r ≤ 65535
unfolding pass_of
start_near l Cn Tn r h e = let w = near_one (fitting l) (ltb Cn 1) (pass_in l Cn Tn) r e in in_near l Cn Tn r w.0 h w.1

module _ (e c n p : List ℕ) (Cn Tn : ℕ) {b : Bool} (t : b ≡ fitting_in e c n p) where
  -- the slices differ in length, or the lines are not fit
  pub ends_unfit : b ≡ false → Err Unfit ≡ passed_in e c n p Cn Tn
  unfolding pass_of
  ends_unfit m = unfit_is (alike e c n p) (fitting (lines_of e c n p)) (Err Unfit) _ (sym t ∙ m)

  module _ (m : b ≡ true) where
    fit_ends : pick (ltb Cn 1) (Err Unfit) (pass_in (lines_of e c n p) Cn Tn) ≡ passed_in e c n p Cn Tn
    unfolding pass_of
    fit_ends = fit_is (alike e c n p) (fitting (lines_of e c n p)) (Err Unfit) _ (sym t ∙ m)

    -- the need is 0
    pub ends_needless : Cn < 1 → Err Unfit ≡ passed_in e c n p Cn Tn
    ends_needless h = rw (lt-ltb Cn 1 h) at fit_ends

    -- neither
    pub ends_passed : {r : Result ℕ NoPass} → 1 ≤ Cn → r ≡ pass_in (lines_of e c n p) Cn Tn → r ≡ passed_in e c n p Cn Tn
    ends_passed h q = q ∙ rw (le-ltb Cn 1 h) at fit_ends

-- R30, R14: of fit lines and a need above 0 it is the pass
pub pass_fit : (l : List Stream) (Cn Tn : ℕ) → fitting l ≡ true → 1 ≤ Cn → pass_of l Cn Tn ≡ pass_in l Cn Tn
unfolding pass_of
pass_fit l Cn Tn e h = rw (e, le-ltb Cn 1 h)
