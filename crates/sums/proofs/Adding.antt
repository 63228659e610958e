-- Sums over the lines, term by term, and what keeps them small.
use Prim.Native.Nat.{ℕ, zero, suc, ◌+◌, ◌-◌, ◌*◌, ◌/◌, ◌≤◌, ◌<◌}
use mathlib.Core.Path.{◌≡◌, refl, ap, ◌∙◌}
use mathlib.Core.List.{List, []}
use lib.ListN.{length, get_or}
use Rattle.sums.proofs.Zipped.{line_of_four, zip_four, four_length, four_at}
use native.Mathlib.Omega.{arith}
use Rattle.line.specs.Streams.{stream, share_of, claim_of, full_of}
use Rattle.sums.specs.declared.Weights.{Weights}
use Rattle.sums.specs.Lines.{along, sum_of, line_at, lines_of, Packed}
use Rattle.sums.specs.Weighed.{Weighs, AddedUp}
use Rattle.sums.proofs.Along.{along_step, along_end, along_all}

sum_none : {A : Type 0} (f : A → ℕ) → sum_of f [] ≡ 0
unfolding sum_of
sum_none f = refl

module _ {A : Type 0} (f : A → ℕ) (a : ℕ → A) where
  sum_step : (i n : ℕ) → i < n → sum_of f (along a i (n - i)) ≡ f (a i) + sum_of f (along a (i + 1) (n - (i + 1)))
  unfolding sum_of
  sum_step i n h = ap (sum_of f) (along_step a i n h)

  -- a sum that has passed i of n terms, each of them at most `top`: with those left it is the whole
  pub record Summing (top n i sum : ℕ) : Type 0 where
    pub upto : i ≤ n
    pub small : sum ≤ top * i
    pub left : sum + sum_of f (along a i (n - i)) ≡ sum_of f (along a 0 n)

  -- no term is passed
  pub sum_start : (top n : ℕ) → Summing top n 0 0
  sum_start top n = record { upto = omega arith; small = omega arith; left = omega (arith, ap (sum_of f) (along_all a n)) }

module _ {A : Type 0} {f : A → ℕ} {a : ℕ → A} {top n i sum : ℕ} (v : Summing f a top n i sum) where
  -- one term more
  pub sum_on : {x : ℕ} → i < n → x ≡ f (a i) → x ≤ top → Summing f a top n (i + 1) (sum + x)
  sum_on h e l = record { upto = omega arith; small = omega arith; left = omega (arith, sum_step f a i n h, v.left) }

  -- all terms are passed
  pub sum_end : n ≤ i → sum ≡ sum_of f (along a 0 n)
  sum_end h = omega (arith, v.left, ap (sum_of f) (along_end a i n h) ∙ sum_none f)

-- ---- sums term by term

module _ {A B C : Type 0} (f : A → ℕ) (a : ℕ → A) (g : B → ℕ) (b : ℕ → B) (h : C → ℕ) (c : ℕ → C) where
  -- each term is made of two: so is the sum
  pub sums_plus : (i n : ℕ) → ((k : ℕ) → i ≤ k → k < i + n → f (a k) ≡ g (b k) + h (c k)) → sum_of f (along a i n) ≡ sum_of g (along b i n) + sum_of h (along c i n)
  unfolding along sum_of
  sums_plus i zero e = refl
  sums_plus i (suc n) e = omega (arith, e i (omega arith) (omega arith), sums_plus (suc i) n (λ k p q. e k (omega arith) (omega arith)))

-- each term is 0: so is the sum
pub sums_none : {A : Type 0} (f : A → ℕ) (a : ℕ → A) (i n : ℕ) → ((k : ℕ) → i ≤ k → k < i + n → f (a k) ≡ 0) → sum_of f (along a i n) ≡ 0
unfolding along sum_of
sums_none f a i zero e = refl
sums_none f a i (suc n) e = omega (arith, e i (omega arith) (omega arith), sums_none f a (suc i) n (λ k p q. e k (omega arith) (omega arith)))

-- ---- the shares, claims and needs of the lines

module _ (e c n p : List ℕ) (F : ℕ) where
  -- what has been added up of the first i lines with the frame F
  pub record AddingUp (i : ℕ) (w : Weights) : Type 0 where
    pub shares : Summing (share_of F) (line_at e c n p) 1000000 (length e) i w.shares
    pub claims : Summing (claim_of F) (line_at e c n p) 131072000000 (length e) i w.claims
    pub needs : Summing (full_of F) (line_at e c n p) 65536000000 (length e) i w.needs

  -- no line is passed
  pub up_start : AddingUp 0 (record { shares = 0; claims = 0; needs = 0 })
  up_start = record { shares = sum_start _ _ _ _; claims = sum_start _ _ _ _; needs = sum_start _ _ _ _ }

  module _ (k : Packed e c n p) {i : ℕ} {v : Weights} (u : AddingUp i v) where
    -- line i is passed
    pub up_on : {j : ℕ} {q : ((ℕ × ℕ) × ℕ) × ℕ} {w : Weights} → (i < length (zip_four e c n p)) × (q ≡ get_or (zip_four e c n p) i q) → Weighs F (line_of_four q) w
        → j ≡ i + 1 → AddingUp j (record { shares = v.shares + w.shares; claims = v.claims + w.claims; needs = v.needs + w.needs })
    up_on {j} {q} {w} t s g =
        let h : i < length e = omega (arith, t.0, four_length e c n p k.same_c k.same_n k.same_p) in
        let z : line_of_four q ≡ line_at e c n p i = ap line_of_four t.1 ∙ four_at e c n p i q k.same_c k.same_n k.same_p h in
        let s' = rw z at s in
        rw g
        (record {
          shares = sum_on u.shares h s'.shares s'.few;
          claims = sum_on u.claims h s'.claims s'.great;
          needs = sum_on u.needs h s'.needs s'.more;
        })

    -- all lines are passed
    pub up_end : i ≡ length (zip_four e c n p) → AddedUp (lines_of e c n p) F v
    up_end g =
        let h : length e ≤ i = omega (arith, g, four_length e c n p k.same_c k.same_n k.same_p) in
        record {
          shares = sum_end u.shares h;
          small = omega (arith, u.shares.small, u.shares.upto, k.few);
          claims = sum_end u.claims h;
          needs = sum_end u.needs h;
        }

-- R28, R29: the weights of a line, over the code's values: its share, what remains, what the age should have brought, and its need, each times the frame
pub line_weighs : (F e c n p : ℕ) {s x y z : ℕ} → (s ≡ n * (F / p)) × (s ≤ 1000000) → (x ≡ F * c) × (x ≤ 65536000000) → (y ≡ s * (p - e)) × (y ≤ 65536000000)
    → (z ≡ F * n) × (z ≤ 65536000000) → Weighs F (stream e c n p) (record { shares = s; claims = x + y; needs = z })
line_weighs F e c n p es ex ey ez = record {
  shares = es.0;
  claims = omega (arith, ex.0, ey.0 ∙ ap (λ (w : ℕ). w * (p - e)) es.0);
  needs = ez.0;
  few = es.1;
  great = omega arith;
  more = ez.1;
}
