-- Numbers and marks in lists of bytes (R52).
use Rattle.std.specs.Prelude.{ℕ, zero, suc, ◌+◌, ◌*◌, ◌/◌, ◌%◌, ◌<◌, List, [], ◌∷◌, Bool, true, false, get_or, eqb}
use Rattle.line.specs.Slots.{both}

-- every element is a byte
abbrev pub Bytes : List ℕ → Type 0
Bytes l = (i : ℕ) → get_or l i 0 < 256

-- R52: v in so many bytes, the lowest first
abbrev pub le : (width : ℕ) → ℕ → List ℕ
le zero v = []
le (suc n) v = v % 256 ∷ le n (v / 256)

-- R52: the number in so many bytes from an offset on
abbrev pub value : (width : ℕ) → List ℕ → (at : ℕ) → ℕ
value zero l at = 0
value (suc n) l at = get_or l at 0 + 256 * value n l (suc at)

-- R52: the bytes open with the mark
unfoldable pub marked : (mark : List ℕ) → List ℕ → Bool
marked [] l = true
marked (a ∷ m) [] = false
marked (a ∷ m) (b ∷ l) = both (eqb b a) (marked m l)
