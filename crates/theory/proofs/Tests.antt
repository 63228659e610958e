-- What the computed tests of the grounds say, and that the frame divides by every period.
use mathlib.Core.Path.{◌≡◌, refl}
use mathlib.Core.Bool.{Bool, true, false, not}
use mathlib.Core.List.{List, [], ◌∷◌}
use Rattle.std.specs.Prelude.{Option, None, Some}
use Prim.Native.Nat.{ℕ, zero, suc, ◌∣◌, ◌≤◌, ◌<◌}
use native.Mathlib.Nat.{not-suc-le-zero}
use native.Mathlib.Omega.{arith}
use borrow.Author.Tests.{not-false, leb-true, leb-false}
use lib.Dec.{leb}
use lib.ListN.{length}
use Rattle.periods.specs.Multiples.{All}
use Rattle.periods.proofs.Lists.{all_appended, all_of_each}
use Rattle.line.specs.declared.Held.{Held}
use Rattle.line.specs.declared.Held.TheVariants.{Nothing, Running, Waiting}
use Rattle.line.specs.declared.Stream.{Stream}
use Rattle.line.specs.declared.Slot.{Slot}
use Rattle.line.specs.Slots.{both, at, Each, is_nothing, Lowest, lowest, lowest_of}
use Rattle.line.specs.Sound.{Sound, sound}
use Rattle.line.specs.Streams.{asks, of_stream, by_stream, Measures, Proper}
use Rattle.line.specs.Shares.{periods_in, Divides}
use Rattle.std.specs.Prelude.{is_none}
use Rattle.line.proofs.Search.{true_false, lowest_is, lowest_none}
use Rattle.line.proofs.Sound.{sound_says}
use Rattle.line.proofs.Streams.{sound_asks}

-- R19: a search finds the lowest of which P holds, where its test says P
pub lowest_of_lem : (P : ℕ → Type 0) (test : ℕ → Bool) (n k : ℕ) → ((i : ℕ) → test i ≡ true → P i) → ((i : ℕ) → P i → test i ≡ false → ⊥)
    → lowest test n ≡ Some k → Lowest P n k
lowest_of_lem P test n k yes-is no-not e =
    let w = lowest_is test n e in
    record { inside = w.inside; here = yes-is k w.here; below = λ i b p. by_bool (test i) (λ x. w.below i b x) (λ x. no-not i p x) }
  where
    by_bool : (b : Bool) → (b ≡ true → ⊥) → (b ≡ false → ⊥) → ⊥
    by_bool true f g = f refl
    by_bool false f g = g refl

-- R19: a search that finds nothing leaves none of which P holds
pub none_of : (P : ℕ → Type 0) (test : ℕ → Bool) (n : ℕ) → ((i : ℕ) → P i → test i ≡ false → ⊥)
    → lowest test n ≡ None → (i : ℕ) → i < n → P i → ⊥
none_of P test n no-not e i b p = no-not i p (lowest_none test n e i b)

-- R24: where no unsound line is found every line is sound
pub all_sound : (l : List Slot) → lowest_of (λ h. not (sound h)) l ≡ None → Each Sound l
all_sound l e i b = sound_says (at l i) (not-false (sound (at l i)) (lowest_none (λ i. not (sound (at l i))) (length l) e i b))

-- R22: the test says that a slot is empty
pub nothing_says : (h : Held) → is_nothing h ≡ true → h ≡ Nothing
nothing_says Nothing e = refl
nothing_says (Running r) e = absurd (true_false e refl)
nothing_says (Waiting w) e = absurd (true_false e refl)

-- what is not none is some slot
pub some_of : (o : Option ℕ) → is_none o ≡ false → (k : ℕ) × (o ≡ Some k)
some_of None e = absurd (true_false refl e)
some_of (Some k) e = (k, refl)

-- the test says that there is none
pub none_is : (o : Option ℕ) → is_none o ≡ true → o ≡ None
none_is None e = refl
none_is (Some k) e = absurd (true_false e refl)

-- R26: the test says that the new line fits its period
pub fits_says : (C P : ℕ) → both (leb 1 C) (leb C P) ≡ true → (1 ≤ C) × (C ≤ P)
fits_says C P e = go (leb 1 C) refl e
  where
    go : (b : Bool) → leb 1 C ≡ b → both b (leb C P) ≡ true → (1 ≤ C) × (C ≤ P)
    go true a e = (leb-true _ _ a, leb-true _ _ e)
    go false a e = absurd (true_false e refl)

-- R26: and a new line that fits passes it
pub fits_not : (C P : ℕ) → both (leb 1 C) (leb C P) ≡ false → (1 ≤ C) × (C ≤ P) → ⊥
fits_not C P e h = go (leb 1 C) refl e
  where
    go : (b : Bool) → leb 1 C ≡ b → both b (leb C P) ≡ false → ⊥
    go true a e = omega (arith, leb-false C P e, h.1)
    go false a e = omega (arith, leb-false 1 C a, h.0)

-- ---- the frame divides by every period

-- R8: a common multiple of the periods is one for every slot
pub periods_divide : (F : ℕ) (l : List Slot) → All (λ p. p ∣ F) (periods_in l) → Each (Divides F) l
unfolding periods_in
periods_divide F [] a i b = absurd (not-suc-le-zero b)
periods_divide F (s ∷ l) a zero b = one (asks s.held) (all_of_each (λ p. p ∣ F) (by_stream [] (λ x. x.period ∷ []) s.held) (periods_in l) a).0
  where
    one : (o : Option Stream) → All (λ p. p ∣ F) (of_stream [] (λ x. x.period ∷ []) o) → of_stream (Unit {0}) (Measures F) o
    one None a = tt
    one (Some x) a = a.0
periods_divide F (s ∷ l) a (suc i) b =
    periods_divide F l (all_of_each (λ p. p ∣ F) (by_stream [] (λ x. x.period ∷ []) s.held) (periods_in l) a).1 i (omega arith)

-- R5: the periods of sound lines are at least 1
pub periods_pos : (l : List Slot) → Each Sound l → All (λ p. 1 ≤ p) (periods_in l)
unfolding periods_in
periods_pos [] s = tt
periods_pos (x ∷ l) s =
    all_appended (λ p. 1 ≤ p) (by_stream [] (λ y. y.period ∷ []) x.held) (periods_in l) (one (asks x.held) (sound_asks x.held (s 0 (omega arith))))
    (periods_pos l (λ i b. s (suc i) (omega arith)))
  where
    one : (o : Option Stream) → of_stream (Unit {0}) Proper o → All (λ p. 1 ≤ p) (of_stream [] (λ y. y.period ∷ []) o)
    one None p = tt
    one (Some y) p = (omega arith, tt)
