-- The first ends and what remains, in an array of their own: it holds the same lines.
use Prim.Native.Nat.{ℕ, ◌≤◌, ◌<◌}
use mathlib.Core.Path.{◌≡◌, sym, ap, ◌∙◌}
use mathlib.Core.List.{List}
use native.Mathlib.Omega.{arith}
use lib.ListN.{length}
use Rattle.line.specs.declared.Stream.{Stream}
use Rattle.line.specs.Streams.{stream}
use Rattle.sums.specs.Lines.{along, line_at, lines_of, most, Packed}
use Rattle.sums.proofs.Along.{along_same}
use Rattle.std.specs.Prelude.{Result}
use Rattle.pass.specs.declared.Due.{Due}
use Rattle.pass.specs.declared.NoPass.{NoPass}
use Rattle.pass.specs.Pass.{greatest_end, pass_to, pass_in}
use Rattle.pass.specs.Order.{nth, next_of, LinedUp, Soonest, Places, line_from, lines_from, FitFrom}
use Rattle.pass.proofs.LastEnd.{last_slices}
use Rattle.pass.proofs.TakingEnds.{soon_same}

module _ {e c n p : List ℕ} {dues : List Due} (v : Packed e c n p) (up : LinedUp e c dues) where
  same_line : (k : ℕ) → k < length e → line_from dues n p k ≡ line_at e c n p k
  same_line k h = ap (λ (y : Due). stream y.at y.owed (nth n k) (nth p k)) (up.same k h)

  -- line k is fit
  pub lined_fit : FitFrom dues n p
  lined_fit k h = rw (same_line k (omega (arith, v.same_p))) (v.each k (omega (arith, v.same_p)))

  -- there is room, and the numbers fit
  pub lined_room : most ≤ length dues → Places dues n p
  lined_room a = record {
    few = omega (arith, v.few, v.same_p);
    needy = v.same_n ∙ sym v.same_p;
    room = omega (arith, v.few, v.same_p);
    small = λ k h. let f = lined_fit k h in omega (arith, f.rest, f.less, f.wide);
    near = λ k h. (lined_fit k h).wide;
  }

  -- R9: the first tick is the soonest of their ends
  pub lined_first : {last r : ℕ} → Soonest (nth e) (length e) last r → Soonest (next_of dues) (length p) last r
  lined_first s = rw v.same_p (soon_same s (next_of dues) (λ k h. ap (λ (y : Due). y.at) (up.same k h)))

  -- the lines are those of the slices
  same_lines : lines_from dues n p ≡ lines_of e c n p
  same_lines =
      ap (along (line_from dues n p) 0) v.same_p ∙ along_same (line_from dues n p) (line_at e c n p) 0 (length e) (λ k x y. same_line k (omega arith))

  -- R15: and the pass over them, up to the greatest end, is the pass over those
  pub lined_passed : (Cn Tn : ℕ) {last : ℕ} {r : Result ℕ NoPass} → last ≡ greatest_end e → r ≡ pass_to last (lines_from dues n p) Cn Tn → r ≡ pass_in (lines_of e c n p) Cn Tn
  lined_passed Cn Tn {last} g q =
      q ∙ ap (λ (l : List Stream). pass_to last l Cn Tn) same_lines ∙ ap (λ (x : ℕ). pass_to x (lines_of e c n p) Cn Tn) (last_slices e c n p g)
