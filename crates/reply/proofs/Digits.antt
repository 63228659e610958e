-- The decimal digits of a number. The steps of the definition fall away first: `digits_below` and `digits_more` hold for every number, and `by_digits` is the
-- induction that goes with them. Everything else cites these three.
use Prim.Native.Nat.{ℕ, zero, suc, ◌+◌, ◌-◌, ◌*◌, ◌/◌, ◌%◌, ◌^◌, ◌≤◌, ◌<◌, max}
use mathlib.Core.Path.{◌≡◌, refl, ap, sym, ◌∙◌}
use mathlib.Core.List.{List, [], ◌∷◌, ◌++◌}
use native.Mathlib.Decide.{dec_lt}
use native.Mathlib.Nat.{pow-suc}
use native.Mathlib.Omega.{arith}
use borrow.Author.Tests.{lt-ltb, le-ltb}
use lib.Dec.{ltb}
use lib.ListN.{length, get_or, length-append, get_or-append}
use Rattle.std.specs.Fmt.{decimal}
use Rattle.std.proofs.lemmas.Fmt.{decimal_by_steps}
use Rattle.std.proofs.lemmas.Grind.{common_steps}
use Rattle.reply.specs.Line.{glyph, in_decimal, digits_in, digits, value_from, value_of, AllDigits}

-- a number is one digit, or more
pub below_ten_or_not : {G : Type 0} (n : ℕ) → (n < 10 → G) → (10 ≤ n → G) → G
below_ten_or_not n a b = elim (dec_lt n 10) [ yes p ↦ a p | no q ↦ b (omega arith) ]

in_below : (s n : ℕ) → n < 10 → digits_in s n ≡ glyph n ∷ []
unfolding digits_in
in_below zero n h = refl
in_below (suc s) n h = simp (lt-ltb n 10 h)

in_more : (s n : ℕ) → 10 ≤ n → digits_in (suc s) n ≡ digits_in s (n / 10) ++ (glyph (n % 10) ∷ [])
unfolding digits_in
in_more s n h = simp (le-ltb n 10 h)

-- any number of steps that is enough gives the same digits
enough_steps_same_digits : (s t n : ℕ) → n ≤ s → n ≤ t → digits_in s n ≡ digits_in t n
enough_steps_same_digits zero t n a b = in_below zero n (omega arith) ∙ sym (in_below t n (omega arith))
enough_steps_same_digits (suc s) zero n a b = in_below (suc s) n (omega arith) ∙ sym (in_below zero n (omega arith))
enough_steps_same_digits (suc s) (suc t) n a b =
    below_ten_or_not n
    (λ h. in_below (suc s) n h ∙ sym (in_below (suc t) n h))
    (λ h. in_more s n h ∙ ap (λ (l : List ℕ). l ++ (glyph (n % 10) ∷ [])) (enough_steps_same_digits s t (n / 10) (omega arith) (omega arith)) ∙ sym (in_more t n h))

-- R61: below 10 it is its one digit
pub digits_below : (n : ℕ) → n < 10 → digits n ≡ glyph n ∷ []
unfolding digits
digits_below n h = in_below n n h

-- R61: from 10 on they are those of n / 10, and then the last
pub digits_more : (n : ℕ) → 10 ≤ n → digits n ≡ digits (n / 10) ++ (glyph (n % 10) ∷ [])
unfolding digits
digits_more n h =
    enough_steps_same_digits n (suc n) n (omega arith) (omega arith)
    ∙ in_more n n h
    ∙ ap (λ (l : List ℕ). l ++ (glyph (n % 10) ∷ [])) (enough_steps_same_digits n (n / 10) (n / 10) (omega arith) (omega arith))

-- R61: decimal for every number, the steps of the definition gone
pub digits_equation : (n : ℕ) → digits n ≡ in_decimal (ltb n 10) n digits
digits_equation n = below_ten_or_not n (λ h. rw (lt-ltb n 10 h) (digits_below n h)) (λ h. rw (le-ltb n 10 h) (digits_more n h))

module _ (P : ℕ → Type 0) (below : (n : ℕ) → n < 10 → P n) (more : (n : ℕ) → 10 ≤ n → P (n / 10) → P n) where
  by_steps : (s n : ℕ) → n ≤ s → P n
  by_steps zero n h = below n (omega arith)
  by_steps (suc s) n h = below_ten_or_not n (below n) (λ g. more n g (by_steps s (n / 10) (omega arith)))

  -- what holds below 10, and of n where it holds of n / 10, holds of every number
  pub by_digits : (n : ℕ) → P n
  by_digits n = by_steps n n (omega arith)

value_append : (xs ys : List ℕ) (v : ℕ) → value_from v (xs ++ ys) ≡ value_from (value_from v xs) ys
unfolding value_from
value_append [] ys v = refl
value_append (x ∷ xs) ys v = value_append xs ys (v * 10 + (x - 48))

value_one : (v d : ℕ) → value_from v (glyph d ∷ []) ≡ v * 10 + d
unfolding value_from
value_one v d = omega arith

-- R61: reading the digits in decimal gives the number
pub digits_read_back : (n : ℕ) → value_of (digits n) ≡ n
digits_read_back =
    by_digits (λ n. value_of (digits n) ≡ n)
    (λ n h. rw (digits_below n h, value_one) (omega arith))
    (λ n h e. rw (digits_more n h, value_append, e, value_one) (omega arith))

-- R61: so two numbers with the same digits are the same
pub digits_one : (m n : ℕ) → digits m ≡ digits n → m ≡ n
digits_one m n e = sym (digits_read_back m) ∙ ap value_of e ∙ digits_read_back n

all_digits_append : (xs ys : List ℕ) → AllDigits xs → AllDigits ys → AllDigits (xs ++ ys)
unfolding AllDigits
all_digits_append [] ys a b = b
all_digits_append (x ∷ xs) ys a b = (a.0, a.1, all_digits_append xs ys a.2 b)

glyph_is_digit : (d : ℕ) → d < 10 → AllDigits (glyph d ∷ [])
unfolding AllDigits
glyph_is_digit d h = (omega arith, omega arith, tt)

-- R61: every byte is a digit
pub digits_are_digits : (n : ℕ) → AllDigits (digits n)
digits_are_digits =
    by_digits (λ n. AllDigits (digits n))
    (λ n h. rw (digits_below n h) (glyph_is_digit n h))
    (λ n h a. rw (digits_more n h) (all_digits_append (digits (n / 10)) _ a (glyph_is_digit (n % 10) (omega arith))))

-- from 10 on there is one digit more than in n / 10
pub length_more : (n : ℕ) → 10 ≤ n → length (digits n) ≡ length (digits (n / 10)) + 1
length_more n h = rw (digits_more n h, length-append)

-- below 10 there is one digit
pub length_below : (n : ℕ) → n < 10 → length (digits n) ≡ 1
length_below n h = rw (digits_below n h)

-- a number has at least one digit
pub digits_some : (n : ℕ) → 1 ≤ length (digits n)
digits_some =
    by_digits (λ n. 1 ≤ length (digits n))
    (λ n h. omega (arith, length_below n h))
    (λ n h e. omega (arith, length_more n h))

zero_digit : digits 0 ≡ 48 ∷ []
zero_digit = digits_below 0 (omega arith)

first_digit : (n : ℕ) → get_or (digits n) 0 0 ≡ 48 → n ≡ 0
first_digit =
    by_digits (λ n. get_or (digits n) 0 0 ≡ 48 → n ≡ 0)
    (λ n h e. let g : glyph n ≡ 48 = rw (digits_below n h) at e in omega arith)
    (λ n h f e.
    let g : get_or (digits (n / 10)) 0 0 ≡ 48 =
    sym (rw (digits_more n h) (get_or-append (digits (n / 10)) (glyph (n % 10) ∷ []) 0 0 (omega (arith, digits_some (n / 10))))) ∙ e in
    let z : n / 10 ≡ 0 = f g in
    omega arith)

-- R61: the first digit is a zero only for 0, which is the single digit 48
pub digits_no_leading_zero : (n : ℕ) → get_or (digits n) 0 0 ≡ 48 → (n ≡ 0) × (digits n ≡ 48 ∷ [])
digits_no_leading_zero n e = (first_digit n e, ap digits (first_digit n e) ∙ zero_digit)

-- R61: a number below a power of ten has no more digits than that power
pub digits_short : (k n : ℕ) → n < 10 ^ suc k → length (digits n) ≤ suc k
digits_short zero n h = omega (arith, length_below n (omega arith))
digits_short (suc k) n h =
    let g : n < 10 ^ suc k * 10 = rw (pow-suc 10 (suc k)) at h in
    below_ten_or_not n
    (λ b. omega (arith, length_below n b))
    (λ m. omega (arith, length_more n m, digits_short k (n / 10) (omega arith)))

-- R61: what std prints of a number
pub digits_decimal : (n : ℕ) → n < 2 ^ 64 → decimal n ≡ digits n
digits_decimal = decimal_by_steps (λ n ds. ds ≡ digits n) (λ n h. sym (digits_below n h)) (λ n ds h e. rw e (sym (digits_more n h)))

-- R61: a number of 16 bits has at most 5 digits, one of 32 at most 10, and one of 64 at most 20
pub digits_16 : (n : ℕ) → n < 2 ^ 16 → length (digits n) ≤ 5
digits_16 n h = digits_short 4 n (omega arith)

pub digits_32 : (n : ℕ) → n < 2 ^ 32 → length (digits n) ≤ 10
digits_32 n h = digits_short 9 n (omega arith)

pub digits_64 : (n : ℕ) → n < 2 ^ 64 → length (digits n) ≤ 20
digits_64 n h = digits_short 19 n (omega arith)

-- R61: how many digits a number has, by its logarithm
digits_log : (k n : ℕ) → 10 ^ k ≤ n → n < 10 * 10 ^ k → length (digits n) ≡ k + 1
digits_log zero n l h = length_below n (omega arith)
digits_log (suc k) n l h =
    let p : 10 ^ suc k ≡ 10 ^ k * 10 = pow-suc 10 k in
    omega (arith, length_more n (omega (arith, p)), digits_log k (n / 10) (omega (arith, p)) (omega (arith, p)))

-- R61: 0 has one, as 1 has
pub places_log : (n m k : ℕ) → m ≡ max n 1 → 10 ^ k ≤ m → m < 10 * 10 ^ k → k + 1 ≡ length (digits n)
places_log n m k e l h =
    below_ten_or_not n
    (λ b. omega (arith, length_below n b, length_below m (omega arith), digits_log k m l h))
    (λ g. let i : m ≡ n = omega arith in rw i at (sym (digits_log k m l h)))

-- R61: how many digits a number has at most, by its width, and that std prints them
pub ruleset printed = (digits_16, digits_32, digits_64, digits_decimal, common_steps)
