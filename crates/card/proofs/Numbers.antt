-- A number in so many bytes and back, for any width.
use mathlib.Core.Path.{◌≡◌, refl, sym, ap, ap₂, ◌∙◌}
use mathlib.Core.List.{List, ◌∷◌, ◌++◌}
use Prim.Native.Nat.{ℕ, zero, suc, ◌+◌, ◌*◌, ◌/◌, ◌%◌, ◌^◌, ◌≤◌, ◌<◌}
use native.Mathlib.Omega.{arith}
use native.Mathlib.Nat.{add-zero, pow-succ', pow-suc, mul-add-mod_self_left, div-div-eq-div-mul}
use native.Mathlib.Numerals.{add-one}
use lib.ListN.{length, drop, get_or}
use lib.Seq.{drop-cons, get_or-drop}
use Rattle.std.specs.Int.{w64, bytes_low_first, to_le_bytes}
use Rattle.card.specs.Bytes.{Bytes, le, value}

-- bytes are left when some are dropped
pub bytes_drop : (n : ℕ) (l : List ℕ) → Bytes l → Bytes (drop n l)
bytes_drop n l h i = rw get_or-drop (h (n + i))

value_cons : (n b : ℕ) (l : List ℕ) (at : ℕ) → value n (b ∷ l) (suc at) ≡ value n l at
value_cons zero b l at = refl
value_cons (suc n) b l at = ap (λ (v : ℕ). get_or l at 0 + 256 * v) (value_cons n b l (suc at))

less : (n v w : ℕ) → v < w → w ≡ 256 * n → v / 256 < n
less n v w h e = omega arith

-- R52: what was put is what is got
pub value_le : (n v : ℕ) (x : List ℕ) → v < 256 ^ n → value n (le n v ++ x) 0 ≡ v
value_le zero v x h = omega arith
value_le (suc n) v x h =
    let e : value n (v % 256 ∷ (le n (v / 256) ++ x)) 1 ≡ v / 256 =
    value_cons n (v % 256) (le n (v / 256) ++ x) 0 ∙ value_le n (v / 256) x (less (256 ^ n) v (256 ^ suc n) h (pow-succ' 256 n)) in
    omega arith

low_byte : (a b : ℕ) → a < 256 → (a + 256 * b) % 256 ≡ a
low_byte a b h = omega arith

higher_bytes : (a b : ℕ) → a < 256 → (a + 256 * b) / 256 ≡ b
higher_bytes a b h = omega arith

-- R52: what is got stands there
pub le_value : (n : ℕ) (l : List ℕ) (at : ℕ) → Bytes l → at + n ≤ length l → drop at l ≡ le n (value n l at) ++ drop (at + n) l
le_value zero l at b h = ap (λ (k : ℕ). drop k l) (sym (add-zero at))
le_value (suc n) l at b h =
    let i : suc at + n ≡ at + suc n = omega arith in
    let e : drop (suc at) l ≡ le n (value n l (suc at)) ++ drop (suc at + n) l = le_value n l (suc at) b (omega arith) in
    drop-cons l at 0 (omega arith)
    ∙ ap₂ (λ (x : ℕ) (y : List ℕ). x ∷ y) (sym (low_byte (get_or l at 0) (value n l (suc at)) (b at)))
    (e ∙ ap₂ (λ (v k : ℕ). le n v ++ drop k l) (sym (higher_bytes (get_or l at 0) (value n l (suc at)) (b at))) i)

more : (b v m w : ℕ) → b < 256 → v < m → w ≡ 256 * m → b + 256 * v < w
more b v m w h k e = omega arith

-- R52: a number in n bytes is below 256 to the n
pub value_lt : (n : ℕ) (l : List ℕ) (at : ℕ) → Bytes l → value n l at < 256 ^ n
value_lt zero l at b = omega arith
value_lt (suc n) l at b = more (get_or l at 0) (value n l (suc at)) (256 ^ n) (256 ^ suc n) (b at) (value_lt n l (suc at) b) (pow-succ' 256 n)

-- two bytes, as the reader adds them
pub value_two : (l : List ℕ) (at : ℕ) → get_or l at 0 + get_or l (at + 1) 0 * 256 ≡ value 2 l at
value_two l at = let e : get_or l (at + 1) 0 ≡ get_or l (suc at) 0 = ap (λ (i : ℕ). get_or l i 0) (add-one at) in omega arith

-- R52: the bytes as std makes them
bytes_low : (k i n v : ℕ) → v ≡ n / 256 ^ i → bytes_low_first i k n ≡ le k v
bytes_low zero i n v e = refl
bytes_low (suc k) zero n v e =
    let p : n % 256 ≡ v % 256 = omega arith in
    let q : v / 256 ≡ n / 256 ^ 1 = omega arith in
    ap₂ (λ (x : ℕ) (y : List ℕ). x ∷ y) p (bytes_low k 1 n (v / 256) q)
bytes_low (suc k) (suc i) n v e =
    let q : v / 256 ≡ n / 256 ^ suc (suc i) = ap (λ (x : ℕ). x / 256) e ∙ div-div-eq-div-mul n (256 ^ suc i) 256 ∙ ap (λ (x : ℕ). n / x) (sym (pow-suc 256 (suc i))) in
    ap₂ (λ (x : ℕ) (y : List ℕ). x ∷ y) (ap (λ (x : ℕ). x % 256) (sym e)) (bytes_low k (suc (suc i)) n (v / 256) q)

-- R52: a number of 64 bits
pub bytes_eight : (v : ℕ) → to_le_bytes w64 v ≡ le 8 v
bytes_eight v = bytes_low 8 0 v v (omega arith)

-- R52: the two lowest bytes, and the others
pub two_of : (n v : ℕ) → le 2 (v % 65536) ++ le n (v / 65536) ≡ le (suc (suc n)) v
two_of n v =
    let e : v / 256 ≡ 256 * (v / 65536) + v % 65536 / 256 = omega arith in
    let a : v % 65536 % 256 ≡ v % 256 = omega arith in
    let b : v % 65536 / 256 % 256 ≡ v / 256 % 256 = sym (ap (λ (x : ℕ). x % 256) e ∙ mul-add-mod_self_left 256 (v / 65536) (v % 65536 / 256)) in
    let c : v / 65536 ≡ v / 256 / 256 = omega arith in
    rw (a, b, c)
