-- What is taken at its limits: how many bytes may be counted, and which bytes they are.
use Rattle.std.proofs.Common.{ℕ, ◌≡◌, refl, ap, get_or, List, [], ◌∷◌, length, arith}
use Rattle.std.specs.Prelude.{None, Some}
use Rattle.input.specs.Counts.{Counts, Begins, Fills}

-- R60, R94: as many bytes are counted as are lent, and not one more
pub whole_counted : Counts 2 (7 ∷ 8 ∷ [])
whole_counted = (omega arith, refl)

pub one_more_not_counted : Counts 3 (7 ∷ 8 ∷ []) → ⊥
one_more_not_counted h = omega (arith, h.0)

-- R60, R94: they are the next that the reader has, whatever it has behind them and whatever is lent behind them
pub next_begin : Begins 2 (7 ∷ 8 ∷ 0 ∷ []) (Some (7 ∷ 8 ∷ 9 ∷ []))
next_begin = refl

-- R60, R94: all that it has, and no byte more
pub last_begin : Begins 1 (7 ∷ 0 ∷ []) (Some (7 ∷ []))
last_begin = refl

pub no_byte_begins_behind_the_last : Begins 2 (7 ∷ 0 ∷ []) (Some (7 ∷ [])) → ⊥
no_byte_begins_behind_the_last h = let e : 1 ≡ 2 = ap length h in omega (arith, e)

-- R60, R94: in order, and none left out
pub no_other_order_begins : Begins 2 (8 ∷ 7 ∷ []) (Some (7 ∷ 8 ∷ [])) → ⊥
no_other_order_begins h = let e : 7 ≡ 8 = ap (λ (l : List ℕ). get_or l 0 0) h in omega (arith, e)

pub no_later_byte_begins : Begins 1 (8 ∷ []) (Some (7 ∷ 8 ∷ [])) → ⊥
no_later_byte_begins h = let e : 7 ≡ 8 = ap (λ (l : List ℕ). get_or l 0 0) h in omega (arith, e)

-- R60: of a reader of which nothing is known, any bytes are allowed
pub unknown_begin : Begins 1 (8 ∷ []) None
unknown_begin = tt

-- R60, R94: without a failure they are all that it has, or as many as are lent
pub all_fill : Fills 1 (7 ∷ 0 ∷ []) (Some (7 ∷ []))
all_fill = refl

pub no_more_than_lent_fill : Fills 2 (7 ∷ 8 ∷ []) (Some (7 ∷ 8 ∷ 9 ∷ []))
no_more_than_lent_fill = refl

pub one_left_over_does_not_fill : Fills 1 (7 ∷ 0 ∷ []) (Some (7 ∷ 8 ∷ [])) → ⊥
one_left_over_does_not_fill h = let e : 1 ≡ 2 = ap length h in omega (arith, e)
