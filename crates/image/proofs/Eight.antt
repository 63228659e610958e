-- Numbers of eight bytes (R81): at an offset, and four numbers of two bytes as one and back.
use mathlib.Core.Path.{◌≡◌, refl, sym, ap, ap₂, ◌∙◌}
use mathlib.Core.List.{List, ◌∷◌, ◌++◌}
use Prim.Native.Nat.{ℕ, zero, suc, ◌+◌, ◌*◌, ◌/◌, ◌%◌, ◌<◌}
use native.Mathlib.Omega.{arith}
use native.Mathlib.Nat.{add-zero}
use lib.ListN.{drop}
use lib.Seq.{get_or-drop}
use borrow.Author.Tests.{ne_eqb}
use Rattle.line.specs.declared.Follows.{Follows}
use Rattle.line.specs.declared.Run.{Run}
use Rattle.line.specs.declared.Wait.{Wait}
use Rattle.line.specs.declared.Held.{Held}
use Rattle.line.specs.declared.Held.TheVariants.{Nothing, Running, Waiting}
use Rattle.line.specs.Slots.{run_then, wait_with, holding, empty}
use Rattle.card.specs.Bytes.{Bytes, le, value}
use Rattle.card.proofs.Numbers.{value_lt, two_of}
use Rattle.image.specs.Image.{run_kind, slot_bytes}
use Rattle.image.specs.Loading.{byte, held_in}
use Rattle.image.proofs.RunKinds.{run_in_lem}

value_drop : (n a : ℕ) (l : List ℕ) (at : ℕ) → value n (drop a l) at ≡ value n l (a + at)
value_drop zero a l at = refl
value_drop (suc n) a l at =
    let e : a + suc at ≡ suc (a + at) = omega arith in
    ap₂ (λ (b v : ℕ). b + 256 * v) (get_or-drop a l at 0) (value_drop n a l (suc at) ∙ ap (value n l) e)

-- R81: a number at an offset is the one in front of what is left there
pub value_front : (n a : ℕ) (l : List ℕ) → value n (drop a l) 0 ≡ value n l a
value_front n a l = value_drop n a l 0 ∙ ap (value n l) (add-zero a)

-- R81: and so is a byte
pub byte_front : (a : ℕ) (l : List ℕ) → byte (drop a l) 0 ≡ byte l a
byte_front a l = get_or-drop a l 0 0 ∙ ap (byte l) (add-zero a)

-- a number of two bytes below others
two_more : (n a v : ℕ) → a < 65536 → le (suc (suc n)) (a + 65536 * v) ≡ le 2 a ++ le n v
two_more n a v h =
    let low : (a + 65536 * v) % 65536 ≡ a = omega arith in
    let high : (a + 65536 * v) / 65536 ≡ v = omega arith in
    sym (rw (low, high) at (two_of n (a + 65536 * v)))

-- R81: one number in eight bytes is four in two bytes each
pub four_is : (a b c d : ℕ) → a < 65536 → b < 65536 → c < 65536
    → le 8 (a + 65536 * (b + 65536 * (c + 65536 * d))) ≡ le 2 a ++ (le 2 b ++ (le 2 c ++ le 2 d))
four_is a b c d ha hb hc =
    two_more 6 a (b + 65536 * (c + 65536 * d)) ha
    ∙ ap (λ (x : List ℕ). le 2 a ++ x) (two_more 4 b (c + 65536 * d) hb ∙ ap (λ (x : List ℕ). le 2 b ++ x) (two_more 2 c d hc))

value_more : (n : ℕ) (l : List ℕ) (at : ℕ) → value (suc (suc n)) l at ≡ value 2 l at + 65536 * value n l (suc (suc at))
value_more n l at = omega arith

-- the four numbers, as the code takes them out of the one
module _ (l : List ℕ) (b : Bytes l) {v : ℕ} (e : v ≡ value 8 l 1) where
  first : v % 65536 ≡ value 2 l 1
  first = omega (arith, value_more 6 l 1, value_lt 2 l 1 b)

  rest : v / 65536 ≡ value 6 l 3
  rest = omega (arith, value_more 6 l 1, value_lt 2 l 1 b)

  second : v / 65536 % 65536 ≡ value 2 l 3
  second = omega (arith, rest, value_more 4 l 3, value_lt 2 l 3 b)

  half : v / 4294967296 ≡ value 4 l 5
  half = omega (arith, rest, value_more 4 l 3, value_lt 2 l 3 b)

  third : v / 4294967296 % 65536 ≡ value 2 l 5
  third = omega (arith, half, value_more 2 l 5, value_lt 2 l 5 b)

  -- the last of the four
  pub fourth : v / 281474976710656 % 65536 ≡ value 2 l 7
  fourth = omega (arith, half, value_more 2 l 5, value_lt 2 l 5 b, value_lt 2 l 7 b)

  -- R81: a slot of kind 1 or 3 holds the running line of the four numbers
  pub running_in : (f : Follows) → byte l 0 ≡ run_kind f → {n p a r : ℕ} → n ≡ v % 65536 → p ≡ v / 65536 % 65536 → a ≡ v / 4294967296 % 65536 → r ≡ v / 281474976710656 % 65536
      → holding (Running (run_then f n p a r)) ≡ holding (held_in l)
  running_in f k en ep ea er = rw (run_in_lem f l k, en ∙ first, ep ∙ second, ea ∙ third, er ∙ fourth)

  -- R81: a slot of kind 2 holds the waiting line of the first three
  pub waiting_in : byte l 0 ≡ 2 → {n p w : ℕ} → n ≡ v % 65536 → p ≡ v / 65536 % 65536 → w ≡ v / 4294967296 % 65536
      → holding (Waiting (wait_with n p w)) ≡ holding (held_in l)
  unfolding held_in
  waiting_in k en ep ew = rw (k, en ∙ first, ep ∙ second, ew ∙ third)

-- R81: a slot of any other kind holds nothing
pub nothing_in : (l : List ℕ) → (byte l 0 ≡ 1 → ⊥) → (byte l 0 ≡ 2 → ⊥) → (byte l 0 ≡ 3 → ⊥) → empty ≡ holding (held_in l)
unfolding held_in
nothing_in l p q r = rw (ne_eqb (byte l 0) 1 p, ne_eqb (byte l 0) 2 q, ne_eqb (byte l 0) 3 r)

-- nine bytes were put into a buffer that held l before
module _ (h : Held) (l y : List ℕ) where
  -- R81: for a slot that holds nothing
  pub put_nothing : h ≡ Nothing → y ≡ (0 ∷ le 8 0) ++ drop 9 l → y ≡ slot_bytes h ++ drop 9 l
  put_nothing e q = q ∙ ap (λ (g : Held). slot_bytes g ++ drop 9 l) (sym e)

  -- R81: for a running line
  pub put_running : (r : Run) (k v : ℕ) → h ≡ Running r → k ≡ run_kind r.follows
      → le 8 v ≡ le 2 r.need ++ (le 2 r.period ++ (le 2 r.age ++ le 2 r.remaining))
      → y ≡ (k ∷ le 8 v) ++ drop 9 l → y ≡ slot_bytes h ++ drop 9 l
  put_running r k v e d f q = q ∙ ap₂ (λ (j : ℕ) (x : List ℕ). (j ∷ x) ++ drop 9 l) d f ∙ ap (λ (g : Held). slot_bytes g ++ drop 9 l) (sym e)

  -- R81: for a waiting line
  pub put_waiting : (w : Wait) (v : ℕ) → h ≡ Waiting w → le 8 v ≡ le 2 w.need ++ (le 2 w.period ++ (le 2 w.wait ++ le 2 0))
      → y ≡ (2 ∷ le 8 v) ++ drop 9 l → y ≡ slot_bytes h ++ drop 9 l
  put_waiting w v e f q = q ∙ ap (λ (x : List ℕ). (2 ∷ x) ++ drop 9 l) f ∙ ap (λ (g : Held). slot_bytes g ++ drop 9 l) (sym e)
