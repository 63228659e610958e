-- From a list of slots to its lines as they are gathered, and from absolute ticks to ticks counted from the clock.
use Prim.Native.Nat.{ℕ, zero, suc, ◌+◌, ◌-◌, ◌*◌, ◌/◌, ◌%◌, ◌≤◌, ◌<◌, max, min}
use mathlib.Core.Path.{◌≡◌, refl, ap, sym, ◌∙◌}
use mathlib.Core.Bool.{Bool, true, false}
use mathlib.Core.List.{List, [], ◌∷◌, ◌++◌, map}
use Rattle.std.specs.Prelude.{Option, None, Some}
use native.Mathlib.Nat.{mod-lt, div-eq_of_lt, div-eq_of_lt-le}
use native.Mathlib.Decide.{dec_lt}
use native.Mathlib.Omega.{arith}
use borrow.Author.Tests.{lt-ltb, le-ltb}
use Rattle.periods.specs.Multiples.{All}
use Rattle.periods.proofs.Lists.{all_appended}
use Rattle.line.specs.declared.Follows.{Follows}
use Rattle.line.specs.declared.Follows.TheVariants.{Renews, Leaves}
use Rattle.line.specs.declared.Slot.{Slot}
use Rattle.line.specs.declared.Stream.{Stream}
use Rattle.line.specs.Slots.{pick, by_follows, total}
use Rattle.line.specs.Streams.{asks, of_stream, by_stream, due, end_at, flow, count_before, every, ends_before, only_end, ends_then, ends_at}
use Rattle.line.specs.Demand.{last_end}
use Rattle.line.specs.Shares.{periods_in}
use Rattle.line.specs.Ends.{ends_of, bound, greatest, or_sooner, soonest_of}
use Rattle.line.proofs.Due.{due_before_lem, due_after, due_shift}
use Rattle.line.proofs.Ends.{before_all}
use Rattle.sums.specs.Lines.{sum_of, longest, Fit}
use Rattle.sums.specs.Weighed.{periods_of}
use Rattle.pass.specs.Pass.{due_by, greatest_end, last_by, ends_by}
use Rattle.decide.specs.Lines.{Line, by_period, by_gap, gap_of, line_of, lines_in, absolute}

-- the lines of a slot that asks for o, and those behind it
abbrev with : Option Stream → List Line → List Line
with o rest = of_stream [] (λ x. line_of x ∷ []) o ++ rest

-- ---- sums over the slots are sums over the lines

module _ (F f : Stream → ℕ) (by : Line → Stream) (e : (s : Stream) → F s ≡ f (by (line_of s))) where
  total_one : (o : Option Stream) (rest : List Line) → of_stream 0 F o + sum_of f (map by rest) ≡ sum_of f (map by (with o rest))
  unfolding sum_of
  total_one None rest = omega arith
  total_one (Some s) rest = omega (arith, e s)

  -- what is added up over the slots by their streams is added up over the lines
  pub total_lines : (l : List Slot) → total (by_stream 0 F) l ≡ sum_of f (map by (lines_in l))
  unfolding total lines_in sum_of
  total_lines [] = refl
  total_lines (s ∷ l) = ap (λ (x : ℕ). by_stream 0 F s.held + x) (total_lines l) ∙ total_one (asks s.held) (lines_in l)

-- R10, R99: of a line that leaves nothing is added before the gap is over
due_gap : (e c C P g d : ℕ) → d < g → due e c 0 P d ≡ due e c C g d
due_gap e c C P g d h =
    elim (dec_lt d e) [
      | yes l ↦ due_before_lem e c 0 P d l ∙ sym (due_before_lem e c C g d l)
      | no l ↦
          let z : (d - e) / g ≡ 0 = div-eq_of_lt (omega arith) in
          omega (arith, due_after e c 0 P d (omega arith), due_after e c C g d (omega arith), ap (λ (n : ℕ). C * n) z)
    ]

-- R10: a stream's demand, counted from the clock
pub flow_shift : (t0 d : ℕ) → d < longest → (s : Stream) → flow t0 s (t0 + d) ≡ due_by d (by_gap (line_of s))
flow_shift t0 d h s = go s.follows
  where
    go : (f : Follows) → due (t0 + s.end) s.remaining (by_follows s.need 0 f) s.period (t0 + d) ≡ due s.end s.remaining s.need (by_follows s.period longest f) d
    go Renews = due_shift t0 s.end s.remaining s.need s.period d
    go Leaves =
        due_shift t0 s.end s.remaining 0 s.period d ∙ due_gap s.end s.remaining s.need s.period longest d h

-- ---- periods, the last end, the ends

period_one : (o : Option Stream) (rest : List Line) → of_stream [] (λ (x : Stream). x.period ∷ []) o ++ periods_of (map by_period rest) ≡ periods_of (map by_period (with o rest))
period_one None rest = refl
period_one (Some s) rest = refl

-- R8: the slots' periods are the lines'
pub periods_lines : (l : List Slot) → periods_in l ≡ periods_of (map by_period (lines_in l))
unfolding periods_in lines_in
periods_lines [] = refl
periods_lines (s ∷ l) =
    ap (λ (x : List ℕ). by_stream [] (λ y. y.period ∷ []) s.held ++ x) (periods_lines l) ∙ period_one (asks s.held) (lines_in l)

last_one : (t0 : ℕ) (o : Option Stream) (rest : List Line) → max (of_stream t0 (end_at t0) o) (t0 + last_by (map by_gap rest)) ≡ t0 + last_by (map by_gap (with o rest))
unfolding greatest_end
last_one t0 None rest = omega arith
last_one t0 (Some s) rest = omega arith

-- R15: the last end, counted from the clock
pub last_lines : (t0 : ℕ) (l : List Slot) → last_end t0 l ≡ t0 + last_by (map by_gap (lines_in l))
unfolding last_end lines_in greatest_end
last_lines t0 [] = omega arith
last_lines t0 (s ∷ l) = ap (max (by_stream t0 (end_at t0) s.held)) (last_lines t0 l) ∙ last_one t0 (asks s.held) (lines_in l)

absolute_append : (t0 : ℕ) (a b : List ℕ) → absolute t0 (a ++ b) ≡ absolute t0 a ++ absolute t0 b
unfolding absolute
absolute_append t0 [] b = refl
absolute_append t0 (d ∷ a) b = ap {B = List ℕ} (λ l. (t0 + d) ∷ l) (absolute_append t0 a b)

every_shift : (t0 n e p : ℕ) → every n (t0 + e) p ≡ absolute t0 (every n e p)
unfolding every absolute
every_shift t0 zero e p = refl
every_shift t0 (suc n) e p =
    let z : t0 + e + p ≡ t0 + (e + p) = omega arith in
    ap {B = List ℕ} (λ l. (t0 + e) ∷ l) (ap (λ (x : ℕ). every n x p) z ∙ every_shift t0 n (e + p) p)

before_shift : (t0 e p last : ℕ) → ends_before (t0 + e) p (t0 + last) ≡ absolute t0 (ends_before e p last)
unfolding ends_before
before_shift t0 e p last =
    let z : t0 + last - (t0 + e) + p - 1 ≡ last - e + p - 1 = omega arith in
    ap (λ (x : ℕ). every (x / p) (t0 + e) p) z ∙ every_shift t0 (count_before e p last) e p

-- R9, R99: the one end of a line that leaves is the list of its ends a gap apart
only_shift : (t0 e g last : ℕ) → 1 ≤ g → last ≤ g → only_end (t0 + e) (t0 + last) ≡ absolute t0 (ends_before e g last)
unfolding only_end ends_before every absolute
only_shift t0 e g last p h =
    elim (dec_lt e last) [
      | yes l ↦
          let z : count_before e g last ≡ 1 = div-eq_of_lt-le g (omega arith) (omega arith) in
          rw (lt-ltb (t0 + e) (t0 + last) (omega arith), z)
      | no l ↦
          let z : count_before e g last ≡ 0 = div-eq_of_lt (omega arith) in
          rw (le-ltb (t0 + e) (t0 + last) (omega arith), z)
    ]

ends_shift : (t0 last : ℕ) (s : Stream) → last ≤ longest → ends_at t0 (t0 + last) s ≡ absolute t0 (ends_before s.end (gap_of s) last)
ends_shift t0 last s h = go s.follows
  where
    go : (f : Follows) → ends_then f (t0 + s.end) s.period (t0 + last) ≡ absolute t0 (ends_before s.end (by_follows s.period longest f) last)
    go Renews = before_shift t0 s.end s.period last
    go Leaves = only_shift t0 s.end longest last (omega arith) h

ends_one : (t0 last : ℕ) (o : Option Stream) (rest : List Line) → last ≤ longest
    → of_stream [] (ends_at t0 (t0 + last)) o ++ absolute t0 (ends_by last (map by_gap rest)) ≡ absolute t0 (ends_by last (map by_gap (with o rest)))
unfolding ends_by
ends_one t0 last None rest h = refl
ends_one t0 last (Some s) rest h =
    ap (λ (x : List ℕ). x ++ absolute t0 (ends_by last (map by_gap rest))) (ends_shift t0 last s h)
    ∙ sym (absolute_append t0 (ends_before s.end (gap_of s) last) (ends_by last (map by_gap rest)))

-- R9: the ends, counted from the clock
pub ends_lines : (t0 last : ℕ) (l : List Slot) → last ≤ longest → ends_of t0 (t0 + last) l ≡ absolute t0 (ends_by last (map by_gap (lines_in l)))
unfolding ends_of lines_in ends_by absolute
ends_lines t0 last [] h = refl
ends_lines t0 last (s ∷ l) h =
    ap (λ (x : List ℕ). by_stream [] (ends_at t0 (t0 + last)) s.held ++ x) (ends_lines t0 last l h) ∙ ends_one t0 last (asks s.held) (lines_in l) h

-- R9: every end listed is before `last`
pub ends_early : (last : ℕ) (l : List Stream) → All Fit l → All (λ d. d < last) (ends_by last l)
unfolding ends_by
ends_early last [] f = tt
ends_early last (x ∷ l) f =
    all_appended (λ d. d < last) (ends_before x.end x.period last) (ends_by last l)
    (before_all (λ d. d < last) x.end x.period last f.0.some (λ k b. b)) (ends_early last l f.1)

-- ---- what is looked for and what is greatest over ticks counted from the clock

-- what was found, as an absolute tick
abbrev pub shifted : (clock : ℕ) → Option ℕ → Option ℕ
shifted t0 None = None
shifted t0 (Some d) = Some (t0 + d)

sooner_shift : (t0 d : ℕ) (b : Bool) (o : Option ℕ) → pick b (or_sooner (t0 + d) (shifted t0 o)) (shifted t0 o) ≡ shifted t0 (pick b (or_sooner d o) o)
sooner_shift t0 d true None = refl
sooner_shift t0 d true (Some u) = ap Some (omega arith)
sooner_shift t0 d false o = refl

-- the soonest tick before `last` at which a test holds, counted from the clock
pub soonest_shift : (test other : ℕ → Bool) (t0 last : ℕ) → ((d : ℕ) → d < last → test (t0 + d) ≡ other d) → (ds : List ℕ) → All (λ d. d < last) ds
    → soonest_of test (absolute t0 ds) ≡ shifted t0 (soonest_of other ds)
unfolding soonest_of absolute
soonest_shift test other t0 last e [] a = refl
soonest_shift test other t0 last e (d ∷ ds) a =
    rw (e d a.0, soonest_shift test other t0 last e ds a.1) (sooner_shift t0 d (other d) (soonest_of other ds))

-- a bound before the clock bounds nothing
clipped : (t0 r a b last w : ℕ) → b ≡ t0 + a → max (t0 + r) (min b (t0 + last) - w) ≡ t0 + max r (min a last - w)
clipped t0 r a b last w e = omega arith

-- R14: the bound on the start, counted from the clock
pub bound_shift : (Cn Tn last t0 r d s : ℕ) → 1 ≤ Cn → max (t0 + r) (bound Cn Tn (t0 + last) (t0 + d) s) ≡ t0 + max r (bound Cn Tn last d s)
unfolding bound
bound_shift Cn Tn last t0 r d s h =
    let m = mod-lt s h in
    clipped t0 r (d + Cn - s % Cn) (t0 + d + Cn - s % Cn) last ((s / Cn + 1) * Tn) (omega arith)

-- R14: the greatest bound of ticks before `last`, counted from the clock
pub greatest_shift : (f g : ℕ → ℕ) (t0 last : ℕ) → ((r d : ℕ) → d < last → max (t0 + r) (f (t0 + d)) ≡ t0 + max r (g d)) → (r : ℕ) (ds : List ℕ)
    → All (λ d. d < last) ds → greatest f (t0 + r) (absolute t0 ds) ≡ t0 + greatest g r ds
unfolding greatest absolute
greatest_shift f g t0 last e r [] a = refl
greatest_shift f g t0 last e r (d ∷ ds) a =
    ap (λ (x : ℕ). greatest f x (absolute t0 ds)) (e r d a.0) ∙ greatest_shift f g t0 last e (max r (g d)) ds a.1
