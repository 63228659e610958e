-- A part of a slice, from a start to the end: what it is, and what lending it leaves of the whole.
use mathlib.Core.Path.{◌≡◌, sym, ap, ◌∙◌}
use mathlib.Core.List.{List, [], ◌++◌, append_assoc, append-nil}
use Prim.Native.Nat.{ℕ, ◌+◌, ◌-◌}
use native.Mathlib.Omega.{arith}
use lib.ListN.{length, take, drop, length-drop, drop_of_length-le}
use lib.Seq.{take_all, take_at, drop_at, drop-drop}

-- the part from a on, as the code lends it, is what is left when a are dropped
pub part_all : (l : List ℕ) (a : ℕ) → take (length l - a) (drop a l) ≡ drop a l
part_all l a = take_all (length l - a) (drop a l) (omega (arith, length-drop a l))

-- a callee writes bs at the front of the part from a on, where p stands written before
pub put_at_lem : (l₀ l p bs ys : List ℕ) (a n : ℕ) → l ≡ p ++ drop a l₀ → length p ≡ a → length bs ≡ n
    → ys ≡ bs ++ drop n (take (length l - a) (drop a l))
    → take a l ++ (ys ++ drop (length l - a) (drop a l)) ≡ (p ++ bs) ++ drop (a + n) l₀
put_at_lem l₀ l p bs ys a n e ep eb ey =
    let d : drop a l ≡ drop a l₀ = ap (drop a) e ∙ drop_at p (drop a l₀) a ep in
    let t : take a l ≡ p = ap (take a) e ∙ take_at p (drop a l₀) a ep in
    let nothing : drop (length l - a) (drop a l) ≡ [] = drop_of_length-le (drop a l) {i = length l - a} (omega (arith, length-drop a l)) in
    let y : ys ≡ bs ++ drop (a + n) l₀ =
    ey ∙ ap (λ (x : List ℕ). bs ++ drop n x) (part_all l a ∙ d) ∙ ap (λ (x : List ℕ). bs ++ x) (drop-drop n a l₀) in
    ap (λ (x : List ℕ). x ++ (ys ++ drop (length l - a) (drop a l))) t
    ∙ ap (λ (x : List ℕ). p ++ (ys ++ x)) nothing
    ∙ ap (λ (x : List ℕ). p ++ x) (append-nil ys ∙ y)
    ∙ sym (append_assoc p bs (drop (a + n) l₀))
