-- The sums of R28 and R29 do not depend on which common multiple is taken, R16.
use mathlib.Core.Path.{◌≡◌, ap}
use mathlib.Core.List.{List}
use Rattle.std.specs.Prelude.{Option, None, Some}
use Prim.Native.Nat.{ℕ, ◌+◌, ◌*◌, ◌-◌, ◌/◌, ◌∣◌, ◌≤◌}
use native.Mathlib.Nat.{le_of_mul-le-mul_left, mul-le-mul_left}
use native.Mathlib.Omega.{arith}
use Rattle.periods.proofs.Whole.{share_scale}
use Rattle.line.specs.declared.Held.{Held}
use Rattle.line.specs.declared.Stream.{Stream}
use Rattle.line.specs.declared.Slot.{Slot}
use Rattle.line.specs.Slots.{at, Each, total}
use Rattle.line.specs.Streams.{asks, of_stream, share_of, claim_of, full_of, Measures}
use Rattle.line.specs.Shares.{Divides, share, claim, full}
use Rattle.theory.proofs.Sums.{total_eq, total_mul}

claim_scale : (F G c x y a : ℕ) → x * G ≡ y * F → G * (F * c + x * a) ≡ F * (G * c + y * a)
claim_scale F G c x y a e = omega (arith, ap (λ (n : ℕ). n * a) e)

share_both : (F G : ℕ) (h : Held) → Divides F h → Divides G h → G * share F h ≡ F * share G h
share_both F G h f g = go (asks h) f g
  where
    go : (o : Option Stream) → of_stream (Unit {0}) (Measures F) o → of_stream (Unit {0}) (Measures G) o → G * of_stream 0 (share_of F) o ≡ F * of_stream 0 (share_of G) o
    go None f g = omega arith
    go (Some s) f g = omega (arith, share_scale s.period F G s.need f g)

claim_both : (F G : ℕ) (h : Held) → Divides F h → Divides G h → G * claim F h ≡ F * claim G h
claim_both F G h f g = go (asks h) f g
  where
    go : (o : Option Stream) → of_stream (Unit {0}) (Measures F) o → of_stream (Unit {0}) (Measures G) o → G * of_stream 0 (claim_of F) o ≡ F * of_stream 0 (claim_of G) o
    go None f g = omega arith
    go (Some s) f g = claim_scale F G s.remaining _ _ (s.period - s.end) (share_scale s.period F G s.need f g)

full_both : (F G : ℕ) (h : Held) → G * full F h ≡ F * full G h
full_both F G h = go (asks h)
  where
    go : (o : Option Stream) → G * of_stream 0 (full_of F) o ≡ F * of_stream 0 (full_of G) o
    go None = omega arith
    go (Some s) = omega arith

module _ (F G : ℕ) (l : List Slot) (f : Each (Divides F) l) (g : Each (Divides G) l) (pos : 1 ≤ F) where
  -- R16, R28: the shares, taken times F, are at most 1: so they are times G
  pub eight_scale : (Cn Tn : ℕ) → Tn ∣ F → Tn ∣ G → total (share F) l + Cn * (F / Tn) ≤ F → total (share G) l + Cn * (G / Tn) ≤ G
  eight_scale Cn Tn a b h =
      le_of_mul-le-mul_left {k = F}
      (omega (
        arith,
        total_eq (λ h. G * share F h) (λ h. F * share G h) l (λ i c. share_both F G (at l i) (f i c) (g i c)),
        total_mul G (share F) l,
        total_mul F (share G) l,
        share_scale Tn F G Cn a b,
        mul-le-mul_left G h,
      ))
      pos

  -- R16, R29: and the lag likewise
  pub nine_scale : total (claim F) l ≤ total (full F) l → total (claim G) l ≤ total (full G) l
  nine_scale h =
      le_of_mul-le-mul_left {k = F}
      (omega (
        arith,
        total_eq (λ h. G * claim F h) (λ h. F * claim G h) l (λ i c. claim_both F G (at l i) (f i c) (g i c)),
        total_eq (λ h. G * full F h) (λ h. F * full G h) l (λ i c. full_both F G (at l i)),
        total_mul G (claim F) l,
        total_mul F (claim G) l,
        total_mul G (full F) l,
        total_mul F (full G) l,
        mul-le-mul_left G h,
      ))
      pos
