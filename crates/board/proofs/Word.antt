-- Words by their bits: a bit set above a word, the ready word's loop, and that equal bits make equal words.
use Prim.Native.Nat.{ℕ, zero, suc, ◌+◌, ◌-◌, ◌*◌, ◌/◌, ◌%◌, ◌^◌, ◌≤◌, ◌<◌}
use mathlib.Core.Path.{◌≡◌, refl, sym, ◌∙◌}
use mathlib.Core.Bool.{Bool, true, false}
use mathlib.Core.List.{List}
use native.Mathlib.Omega.{arith}
use native.Mathlib.Decide.{dec_lt}
use native.Mathlib.Numerals.{add-one}
use native.Mathlib.Nat.{pow-succ', div-div-eq-div-mul, add-mul-div_right}
use lib.Bits.{bit_or, block_odd}
use lib.ListN.{length}
use lib.Pow.{pow-add, pow_pos, high}
use Rattle.line.specs.declared.Slot.{Slot}
use Rattle.line.specs.Slots.{at}
use Rattle.line.specs.Tick.{is_owed}
use Rattle.line.proofs.Bits.{or_bit}
use Rattle.board.specs.Board.{bit, ReadyWord}

-- what is added from bit i on leaves the bits below
bit_under : (a w j k : ℕ) → (a * 2 ^ (suc j + k) + w) / 2 ^ k % 2 ≡ w / 2 ^ k % 2
bit_under a w j k =
    let f : a * 2 ^ (suc j + k) + w ≡ w + a * 2 ^ suc j * 2 ^ k = rw (pow-add 2 (suc j) k) (omega arith) in
    let g : w / 2 ^ k + a * 2 ^ suc j ≡ a * 2 ^ suc j + w / 2 ^ k = omega arith in
    rw (f, add-mul-div_right w (a * 2 ^ suc j) (pow_pos k), g, block_odd a j (w / 2 ^ k))

-- a bit below 2^i is not touched by what is added from 2^i on
pub bit_below : (a w i k : ℕ) → k < i → (a * 2 ^ i + w) / 2 ^ k % 2 ≡ w / 2 ^ k % 2
bit_below a w i k h =
    let e : suc (i - k - 1) + k ≡ i = omega arith in
    rw e at (bit_under a w (i - k - 1) k)

-- two numbers below 2 ^ n with equal bits below n are equal
pub same_bits : (n v w : ℕ) → v < 2 ^ n → w < 2 ^ n → ((k : ℕ) → k < n → v / 2 ^ k % 2 ≡ w / 2 ^ k % 2) → v ≡ w
same_bits zero v w h g e = omega arith
same_bits (suc n) v w h g e =
    let half : (x k : ℕ) → x / 2 / 2 ^ k ≡ x / 2 ^ suc k = λ x k. rw (div-div-eq-div-mul x 2 (2 ^ k), pow-succ' 2 k) in
    let odd : v % 2 ≡ w % 2 = omega (arith, e 0 (omega arith)) in
    let rest : v / 2 ≡ w / 2 =
    same_bits n (v / 2) (w / 2) (omega (arith, pow-succ' 2 n)) (omega (arith, pow-succ' 2 n)) (λ k l. rw (half v k, half w k) (e (suc k) (omega arith))) in
    omega arith

-- R49: there is only one ready word
pub word_unique : (l : List Slot) (v w : ℕ) → ReadyWord l v → ReadyWord l w → v ≡ w
word_unique l v w p q = same_bits (length l) v w p.small q.small (λ k h. p.bits k h ∙ sym (q.bits k h))

-- a word that has the bits of the slots below i, and none above
pub record Wording (l : List Slot) (i w : ℕ) : Type 0 where
  pub upto : i ≤ length l
  pub bits : (k : ℕ) → k < i → w / 2 ^ k % 2 ≡ bit (is_owed (at l k))
  pub small : w < 2 ^ i

-- no slot passed, no bit set
pub word_start : (l : List Slot) → Wording l 0 0
word_start l = record { upto = omega arith; bits = λ k h. absurd (omega arith); small = omega arith }

bit_odd : (b : Bool) → bit b % 2 ≡ bit b
bit_odd true = refl
bit_odd false = refl

bit_small : (b : Bool) (w i : ℕ) → w < 2 ^ i → bit b * 2 ^ i + w < 2 ^ (i + 1)
bit_small true w i h = rw (add-one, pow-succ' 2 i) (omega arith)
bit_small false w i h = rw (add-one, pow-succ' 2 i) (omega arith)

module _ {l : List Slot} {i w : ℕ} (v : Wording l i w) where
  word_on : (b : Bool) → i < length l → is_owed (at l i) ≡ b → Wording l (i + 1) (bit b * 2 ^ i + w)
  word_on b h e =
      record {
        upto = omega arith;
        bits =
            λ k g. elim (dec_lt k i) [
              | yes p ↦ bit_below (bit b) w i k p ∙ v.bits k p
              | no q ↦ let z : k ≡ i = omega arith in rw (z, high (bit b) i v.small, e) (bit_odd b)
            ];
        small = bit_small b w i v.small;
      }

  -- R49: a slot that is not owed leaves the word as it is
  pub word_skip : i < length l → is_owed (at l i) ≡ false → Wording l (i + 1) w
  word_skip h e =
      let z : bit false * 2 ^ i + w ≡ w = omega arith in
      rw z at (word_on false h e)

  -- R49: a slot that is owed sets its bit
  pub word_set : length l ≤ 16 → i < length l → is_owed (at l i) ≡ true → Wording l (i + 1) (bit_or w (1 * 2 ^ i % 65536))
  word_set n h e = rw (or_bit i w (omega arith) v.small) (word_on true h e)

  -- R49: after all slots it is the ready word
  pub word_end : length l ≤ i → ReadyWord l w
  word_end h =
      let z : length l ≡ i = omega arith in
      record { bits = λ k g. v.bits k (omega arith); small = rw z v.small }
