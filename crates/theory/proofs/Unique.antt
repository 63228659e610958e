-- There is only one right answer.
use Rattle.std.specs.Prelude.{Ok, Err}
use mathlib.Core.Path.{◌≡◌, sym, ap, ◌∙◌}
use mathlib.Core.Logic.{inl, inr}
use mathlib.Core.List.{List, [], ◌∷◌}
use Prim.Native.Nat.{ℕ, ◌+◌, ◌-◌, ◌<◌}
use native.Mathlib.Omega.{arith}
use lib.IntN.{pos}
use Rattle.table.specs.declared.Table.{Table}
use Rattle.table.specs.declared.Request.{Request}
use Rattle.table.specs.declared.Refusal.{Refusal}
use Rattle.line.specs.Slots.{Lowest}
use Rattle.table.specs.Words.{refusal, short_refusal, Said}
use Rattle.line.specs.Demand.{demands, new_demand}
use Rattle.line.specs.Ends.{excess_at}
use Rattle.line.proofs.Excess.{excess_is, excess_within}
use Rattle.table.specs.Grounds.{asked, Late, Full, Waiters, Unsound, Misstretched, Misfit, Wide, Overload, Behind, Short, Row, row, row_short, grounds, FirstOf, NoneOf, Answers}
use Rattle.table.specs.Ask.{ask_of}
use Rattle.theory.proofs.Numbers.{split}
use Rattle.theory.proofs.Start.{least_unique}
use Rattle.theory.proofs.Answers.{ask_answers}

-- a row gives one refusal only
abbrev One : Row → Table → Request → Type 0
One r t q = (x y : Refusal) → r t q x → r t q y → x ≡ y

abbrev AllOne : List Row → Table → Request → Type 0
AllOne [] t q = Unit {0}
AllOne (r ∷ rs) t q = One r t q × AllOne rs t q

-- a row whose ground has one place
row_one : (n : ℕ) (H : Table → Request → ℕ → Type 0) (t : Table) (q : Request) → ((j k : ℕ) → H t q j → H t q k → j ≡ k) → One (row n H) t q
row_one n H t q o x y p r = p.2 ∙ ap (refusal n) (o p.0 r.0 p.1 r.1) ∙ sym r.2

lowest_one : (P : ℕ → Type 0) (n j k : ℕ) → Lowest P n j → Lowest P n k → j ≡ k
lowest_one P n j k p q =
    split j k (λ a. split k j (λ b. omega arith) (λ b. absurd (q.below j b p.here))) (λ a. absurd (p.below k a q.here))

zero_one : (P : Type 0) (j k : ℕ) → P × (j ≡ 0) → P × (k ≡ 0) → j ≡ k
zero_one P j k p q = p.1 ∙ sym q.1

-- R24, R96: an unsound line excludes the second part of ground 4
unsound_one : (t : Table) (q : Request) (j k : ℕ) → Unsound t q j → Unsound t q k → j ≡ k
unsound_one t q j k (inl p) (inl r) = lowest_one _ _ j k p r
unsound_one t q j k (inl p) (inr r) = absurd (p.here (r.0 j p.inside))
unsound_one t q j k (inr p) (inl r) = absurd (r.here (p.0 k r.inside))
unsound_one t q j k (inr p) (inr r) = p.2 ∙ sym r.2

-- R103: there is one first tick, and one excess at it
short_one : (t : Table) (q : Request) → One row_short t q
short_one t q x y (d, n, p, e) (u, m, r, f) =
    let same : d ≡ u = split d u (λ a. split u d (λ b. omega arith) (λ b. absurd (earlier u m d n r p b))) (λ a. absurd (earlier d n u m p r a)) in
    let over : n ≡ m = omega (arith, wanted d n p.by, wanted u m r.by, same, ap all same) in
    e ∙ ap (λ (k : ℕ). short_refusal k n) same ∙ ap (short_refusal u) over ∙ sym f
  where
    all : ℕ → ℕ
    all k = demands t.clock (asked t q) k

    wanted : (d x : ℕ) → excess_at t.clock (asked t q) d ≡ pos x → all d ≡ d - t.clock + x
    wanted d x e = excess_is (all d) (d - t.clock) x e

    earlier : (d n u m : ℕ) → Short t q d n → Short t q u m → u < d → ⊥
    earlier d n u m p r b =
        omega (arith, r.above, wanted u m r.by, excess_within (all u) (u - t.clock) (p.first u r.from_clock b))

all_one : (t : Table) (q : Request) → AllOne grounds t q
all_one t q = (
  row_one 1 Late t q (zero_one _),
  (
    row_one 2 Full t q (zero_one _),
    (
      row_one 3 Waiters t q (lowest_one _ _),
      (
        row_one 4 Unsound t q (unsound_one t q),
        (
          row_one 5 Misstretched t q (lowest_one _ _),
          (
            row_one 6 Misfit t q (zero_one _),
            (
              row_one 7 Wide t q (zero_one _),
              (
                row_one 8 Overload t q (zero_one _),
                (row_one 9 Behind t q (zero_one _), (short_one t q, tt)),
              ),
            ),
          ),
        ),
      ),
    ),
  ),
)

first_one : (rs : List Row) (t : Table) (q : Request) (x y : Refusal) → AllOne rs t q → FirstOf rs t q x → FirstOf rs t q y → x ≡ y
first_one [] t q x y o p r = absurd p
first_one (s ∷ rs) t q x y o (inl p) (inl r) = o.0 x y p r
first_one (s ∷ rs) t q x y o (inl p) (inr r) = absurd (r.0 x p)
first_one (s ∷ rs) t q x y o (inr p) (inl r) = absurd (p.0 y r)
first_one (s ∷ rs) t q x y o (inr p) (inr r) = first_one rs t q x y o.1 p.1 r.1

first_none : (rs : List Row) (t : Table) (q : Request) (x : Refusal) → FirstOf rs t q x → NoneOf rs t q → ⊥
first_none [] t q x p n = p
first_none (s ∷ rs) t q x (inl p) n = n.0 x p
first_none (s ∷ rs) t q x (inr p) n = first_none rs t q x p.1 n.1

-- R71, R41: two answers that the relation allows are equal
pub answers_unique : (t : Table) (q : Request) (a b : Said ℕ) → Answers t q a → Answers t q b → a ≡ b
answers_unique t q (Ok r) (Ok u) p s = ap Ok (least_unique t.clock (asked t q) (new_demand q.need q.period) r u p.1 s.1)
answers_unique t q (Ok r) (Err y) p s = absurd (first_none grounds t q y s p.0)
answers_unique t q (Err x) (Ok u) p s = absurd (first_none grounds t q x p s.0)
answers_unique t q (Err x) (Err y) p s = ap Err (first_one grounds t q x y (all_one t q) p s)

says_one : (a b : Said ℕ) → a ≡ b → a ≡ b
says_one (Ok r) (Ok u) e = cc
says_one (Ok r) (Err y) e = cc
says_one (Err x) (Ok u) e = cc
says_one (Err x) (Err y) e = cc

-- R41: so an answer is right exactly when it is the computed one
pub answers_is : (t : Table) (q : Request) (a : Said ℕ) → Answers t q a → a ≡ ask_of t q
answers_is t q a h = says_one a (ask_of t q) (answers_unique t q a ((ask_of t q)) h (ask_answers t q))
