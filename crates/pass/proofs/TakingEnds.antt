-- The laws of the loops over the lines: an array that is written element by element, the soonest end, and the lines that end at a tick.
use Prim.Native.Nat.{ℕ, ◌+◌, ◌≤◌, ◌<◌, min}
use mathlib.Core.Path.{◌≡◌, refl, sym, ap, ◌∙◌}
use mathlib.Core.Logic.{inl, inr, ⊎_elim}
use mathlib.Core.List.{List}
use native.Mathlib.Decide.{dec_lt}
use native.Mathlib.Omega.{arith}
use lib.ListN.{length, set, length-set}
use lib.Seq.{get_or-set_same, get_or-set_other}
use borrow.Author.Count.{below_more}
use borrow.Author.Tests.{eq-eqb, ne_eqb}
use Rattle.line.specs.Slots.{pick}
use Rattle.sums.specs.Lines.{longest}
use Rattle.sums.proofs.Adding.{Summing, sum_start, sum_on, sum_end}
use Rattle.pass.specs.declared.Due.{Due}
use Rattle.pass.specs.Order.{nth, due_at, due_of, next_of, owed_of, Soonest, if_ends, due_now, added_at, due_past, Moved}

-- ---- an array that is written element by element

-- the first i elements of `old` are written, each with f at its index
pub record WrittenTo (old : List Due) (f : ℕ → Due) (l : List Due) (i : ℕ) : Type 0 where
  pub long : length l ≡ length old
  pub done : (k : ℕ) → k < i → due_of l k ≡ f k
  pub left : (k : ℕ) → i ≤ k → due_of l k ≡ due_of old k

-- nothing is written
pub write_start : (old : List Due) (f : ℕ → Due) → WrittenTo old f old 0
write_start old f = record { long = refl; done = λ k h. absurd (omega arith); left = λ k h. refl }

module _ {old : List Due} {f : ℕ → Due} {l : List Due} {i : ℕ} (v : WrittenTo old f l i) where
  -- element i is written
  pub write_on : {x : Due} → i < length old → x ≡ f i → WrittenTo old f (set l i x) (i + 1)
  write_on {x} h e = record {
    long = length-set l i x ∙ v.long;
    done =
        below_more _ _ (λ k b. get_or-set_other l i k x (due_at 0 0) (λ q. omega arith) ∙ v.done k b)
        (get_or-set_same l i x (due_at 0 0) (omega (arith, v.long)) ∙ e);
    left = λ k m. get_or-set_other l i k x (due_at 0 0) (λ q. omega arith) ∙ v.left k (omega arith);
  }

  -- element i is already what it is to be
  pub write_same : due_of old i ≡ f i → WrittenTo old f l (i + 1)
  write_same e = record {
    long = v.long;
    done = below_more _ _ v.done (v.left i (omega arith) ∙ e);
    left = λ k m. v.left k (omega arith);
  }

-- ---- the soonest end

-- of no end
pub soon_start : (end : ℕ → ℕ) (last : ℕ) → Soonest end 0 last last
soon_start end last = record { within = omega arith; below = λ k h. absurd (omega arith); there = inl refl }

module _ {end : ℕ → ℕ} {i last r : ℕ} (v : Soonest end i last r) where
  -- of one end more
  pub soon_on : {x : ℕ} → x ≡ min r (end i) → Soonest end (i + 1) last x
  soon_on {x} e = record {
    within = omega (arith, v.within);
    below = below_more _ _ (λ k b. omega (arith, v.below k b)) (omega arith);
    there =
        elim (dec_lt (end i) r) [
          | yes l ↦ inr (i, omega arith, omega arith)
          | no l ↦ let z : x ≡ r = omega arith in ⊎_elim (λ q. inl (z ∙ q)) (λ q. inr (q.0, omega (arith, q.1), q.2 ∙ sym z)) v.there
        ];
  }

  -- equal ends have the same soonest
  pub soon_same : (other : ℕ → ℕ) → ((k : ℕ) → k < i → other k ≡ end k) → Soonest other i last r
  soon_same other e = record {
    within = v.within;
    below = λ k h. omega (arith, v.below k h, e k h);
    there = ⊎_elim (λ q. inl q) (λ q. inr (q.0, q.1, e q.0 q.1 ∙ q.2)) v.there;
  }

-- ---- the lines that end at a tick

pub ends_now : {A : Type 0} (d : ℕ) (now : Due) (x y : A) → now.at ≡ d → if_ends d now x y ≡ x
ends_now d now x y e = ap (λ b. pick b x y) (eq-eqb now.at d e)

pub ends_later : {A : Type 0} (d : ℕ) (now : Due) (x y : A) → (now.at ≡ d → ⊥) → if_ends d now x y ≡ y
ends_later d now x y e = ap (λ b. pick b x y) (ne_eqb now.at d e)

module _ (old : List Due) (needs gaps : List ℕ) (d last : ℕ) where
  -- i lines are passed: those that end at d are taken, `added` fell due, and the soonest of their next ends is `tick`
  pub record TakingEnds (dues : List Due) (added tick i : ℕ) : Type 0 where
    pub moves : WrittenTo old (due_past old needs gaps d) dues i
    pub sums : Summing (due_now old d) (λ k. k) longest (length gaps) i added
    pub soon : Soonest (λ k. (due_past old needs gaps d k).at) i last tick

  -- no line is passed
  pub taking_start : TakingEnds old 0 last 0
  taking_start = record { moves = write_start _ _; sums = sum_start _ _ _ _; soon = soon_start _ _ }

  module _ {dues : List Due} {added tick i : ℕ} (v : TakingEnds dues added tick i) (h : i < length gaps) {dues' : List Due} {added' end tick' : ℕ} where
    -- line i ends at d
    pub taking_hit : length gaps ≤ length old → owed_of old i ≤ longest → next_of dues i ≡ d → dues' ≡ set dues i (due_at (d + nth gaps i) (nth needs i))
        → added' ≡ added + owed_of dues i → end ≡ d + nth gaps i → tick' ≡ min tick end → TakingEnds dues' added' tick' (i + 1)
    taking_hit a small e q s w x =
        let same = v.moves.left i (omega arith) in
        let now : next_of old i ≡ d = ap (λ (y : Due). y.at) (sym same) ∙ e in
        let past = ends_now d (due_of old i) (due_at (d + nth gaps i) (nth needs i)) (due_of old i) now in
        let o : owed_of dues i ≡ owed_of old i = ap (λ (y : Due). y.owed) same in
        rw (q, s) (record {
          moves = write_on v.moves (omega arith) (sym past);
          sums = sum_on v.sums h (o ∙ sym (ends_now d (due_of old i) (owed_of old i) 0 now)) (omega (arith, o));
          soon = soon_on v.soon (omega (arith, x, w, ap (λ (y : Due). y.at) past));
        })

    -- line i does not
    pub taking_miss : (next_of dues i ≡ d → ⊥) → dues' ≡ dues → added' ≡ added → end ≡ next_of dues i → tick' ≡ min tick end → TakingEnds dues' added' tick' (i + 1)
    taking_miss e q s w x =
        let same = v.moves.left i (omega arith) in
        let at : next_of dues i ≡ next_of old i = ap (λ (y : Due). y.at) same in
        let later : next_of old i ≡ d → ⊥ = λ z. e (at ∙ z) in
        let past = ends_later d (due_of old i) (due_at (d + nth gaps i) (nth needs i)) (due_of old i) later in
        let z : added' ≡ added + 0 = omega (arith, s) in
        rw (q, z) (record {
          moves = write_same v.moves (sym past);
          sums = sum_on v.sums h (sym (ends_later d (due_of old i) (owed_of old i) 0 later)) (omega arith);
          soon = soon_on v.soon (omega (arith, x, w, at, ap (λ (y : Due). y.at) past));
        })

  -- all lines are passed
  pub taking_end : {dues : List Due} {added tick i : ℕ} → TakingEnds dues added tick i → length gaps ≤ 16 → length gaps ≤ i
      → Moved old needs gaps d dues × ((added ≡ added_at old (length gaps) d) × (added ≤ 1048576)) × Soonest (next_of dues) (length gaps) last tick
  taking_end {dues} {i = i} v few h =
      let z : i ≡ length gaps = omega (arith, v.sums.upto) in (
        record { moved = λ k l. v.moves.done k (omega arith) },
        (sum_end v.sums h, omega (arith, v.sums.small, v.sums.upto)),
        soon_same (rw z at v.soon) (next_of dues) (λ k l. ap (λ (y : Due). y.at) (v.moves.done k (omega arith))),
      )
