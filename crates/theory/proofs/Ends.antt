-- The demand rises only at ends, and the list of ends before a tick has them all.
use mathlib.Core.Path.{◌≡◌, refl, sym, ◌∙◌}
use mathlib.Core.Logic.{◌⊎◌, inl, inr, ⊎_elim}
use mathlib.Core.List.{List, [], ◌∷◌}
use Rattle.std.specs.Prelude.{Option, None, Some}
use Prim.Native.Nat.{ℕ, zero, suc, ◌+◌, ◌*◌, ◌≤◌, ◌<◌}
use native.Mathlib.Nat.{not-suc-le-zero, le_refl}
use native.Mathlib.Decide.{le_ind}
use native.Mathlib.Omega.{arith}
use Rattle.periods.specs.Multiples.{All}
use Rattle.periods.proofs.Lists.{all_appended, all_of_each}
use Rattle.line.specs.declared.Follows.{Follows}
use Rattle.line.specs.declared.Follows.TheVariants.{Renews, Leaves}
use Rattle.line.specs.declared.Held.{Held}
use Rattle.line.specs.declared.Stream.{Stream}
use Rattle.line.specs.declared.Slot.{Slot}
use Rattle.line.specs.Slots.{at, Each, total}
use Rattle.line.specs.Sound.{Sound}
use Rattle.line.specs.Streams.{asks, of_stream, by_stream, end_at, flow, ends_then, EndThen, ends_at, EndAt, Proper}
use Rattle.line.specs.Demand.{demand, demands}
use Rattle.line.specs.Ends.{ends_of}
use Rattle.line.proofs.Streams.{sound_asks}
use Rattle.line.proofs.Ends.{before_all, all_before, only_all, all_only}
use Rattle.theory.specs.Given.{IsEnd, AnyEnd}
use Rattle.theory.proofs.Sums.{total_le}
use Rattle.theory.proofs.Flow.{flow_mono, flow_step}
use Rattle.theory.proofs.Pump.{demands_now}

-- ---- between two ends the demand stays

demand_step : (t0 : ℕ) (h : Held) (t : ℕ) → Sound h → (demand t0 h (suc t) ≡ demand t0 h t) ⊎ IsEnd t0 h (suc t)
demand_step t0 h t s = go (asks h) (sound_asks h s)
  where
    go : (o : Option Stream) → of_stream (Unit {0}) Proper o
        → (of_stream 0 (λ x. flow t0 x (suc t)) o ≡ of_stream 0 (λ x. flow t0 x t) o) ⊎ of_stream ⊥ (λ x. EndAt t0 x (suc t)) o
    go None p = inl refl
    go (Some x) p = flow_step t0 x t p

demands_step : (t0 : ℕ) (l : List Slot) (t : ℕ) → Each Sound l → (demands t0 l (suc t) ≡ demands t0 l t) ⊎ AnyEnd t0 l (suc t)
unfolding total
demands_step t0 [] t s = inl refl
demands_step t0 (x ∷ l) t s =
    ⊎_elim
    (λ e. ⊎_elim (λ f. inl (omega arith)) (λ y. inr (suc y.0, omega (arith, y.1), y.2)) (demands_step t0 l t (λ i b. s (suc i) (omega arith))))
    (λ e. inr (0, omega arith, e))
    (demand_step t0 x.held t (s 0 (omega arith)))

-- what is due at t was due at the latest end up to t, or nothing is due yet
abbrev pub Latest : ℕ → List Slot → ℕ → Type 0
Latest t0 l t = (demands t0 l t ≡ 0) ⊎ ((d : ℕ) × (d ≤ t) × AnyEnd t0 l d × (demands t0 l d ≡ demands t0 l t))

-- R10: what is due at t was due at the latest end up to t
pub latest : (t0 : ℕ) (l : List Slot) → Each Sound l → (t : ℕ) → t0 ≤ t → Latest t0 l t
latest t0 l s =
    le_ind (Latest t0 l) (inl (demands_now t0 l s))
    (λ m g w.
    ⊎_elim
    (λ e. ⊎_elim (λ y. inl (e ∙ y)) (λ y. inr (y.0, omega (arith, y.1), y.2, y.3 ∙ sym e)) w)
    (λ z. inr (suc m, le_refl (suc m), z, refl))
    (demands_step t0 l m s))

demand_mono : (t0 : ℕ) (h : Held) (t u : ℕ) → Sound h → t ≤ u → demand t0 h t ≤ demand t0 h u
demand_mono t0 h t u s b = go (asks h) (sound_asks h s)
  where
    go : (o : Option Stream) → of_stream (Unit {0}) Proper o → of_stream 0 (λ x. flow t0 x t) o ≤ of_stream 0 (λ x. flow t0 x u) o
    go None p = omega arith
    go (Some x) p = flow_mono t0 x t u p b

-- R10: demand never falls
pub demands_mono : (t0 : ℕ) (l : List Slot) (t u : ℕ) → Each Sound l → t ≤ u → demands t0 l t ≤ demands t0 l u
demands_mono t0 l t u s b = total_le (λ h. demand t0 h t) (λ h. demand t0 h u) l (λ i c. demand_mono t0 (at l i) t u (s i c) b)

-- R9: an end of a stream comes after the clock
end_after : (k : ℕ) (s : Stream) (d : ℕ) → Proper s → EndAt k s d → k < d
end_after k s d p = go s.follows
  where
    go : (f : Follows) → EndThen f (end_at k s) s.period d → k < d
    go Renews e = omega (arith, e.1)
    go Leaves e = omega arith

end_late : (t0 : ℕ) (h : Held) (d : ℕ) → Sound h → IsEnd t0 h d → t0 < d
end_late t0 h d s e = go (asks h) (sound_asks h s) e
  where
    go : (o : Option Stream) → of_stream (Unit {0}) Proper o → of_stream ⊥ (λ x. EndAt t0 x d) o → t0 < d
    go None p e = absurd e
    go (Some x) p e = end_after t0 x d p e

-- R9: every end comes after the clock
pub any_late : (t0 : ℕ) (l : List Slot) (d : ℕ) → Each Sound l → AnyEnd t0 l d → t0 < d
any_late t0 l d s e = end_late t0 (at l e.0) d (s e.0 e.1) e.2

-- ---- the list of ends

-- what holds of every end before last holds of the stream's list of them
ends_listed : (Q : ℕ → Type 0) (k last : ℕ) (s : Stream) → Proper s → ((d : ℕ) → EndAt k s d → d < last → Q d) → All Q (ends_at k last s)
ends_listed Q k last s p = go s.follows
  where
    go : (w : Follows) → ((d : ℕ) → EndThen w (end_at k s) s.period d → d < last → Q d)
        → All Q (ends_then w (end_at k s) s.period last)
    go Renews f = before_all Q (end_at k s) s.period last (omega arith) (λ n b. f (end_at k s + n * s.period) (n, refl) b)
    go Leaves f = only_all Q (end_at k s) last (λ b. f (end_at k s) refl b)

-- and the other way round
listed_ends : (Q : ℕ → Type 0) (k last : ℕ) (s : Stream) (d : ℕ) → Proper s → All Q (ends_at k last s) → EndAt k s d → d < last → Q d
listed_ends Q k last s d p = go s.follows
  where
    go : (w : Follows) → All Q (ends_then w (end_at k s) s.period last)
        → EndThen w (end_at k s) s.period d → d < last → Q d
    go Renews a e b = rw e.1 (all_before Q (end_at k s) s.period last (omega arith) a e.0 (omega (arith, e.1)))
    go Leaves a e b = rw e (all_only Q (end_at k s) last a (omega arith))

ends_in : (Q : ℕ → Type 0) (t0 last : ℕ) (h : Held) → Sound h → ((d : ℕ) → IsEnd t0 h d → d < last → Q d) → All Q (by_stream [] (ends_at t0 last) h)
ends_in Q t0 last h s f = go (asks h) (sound_asks h s) f
  where
    go : (o : Option Stream) → of_stream (Unit {0}) Proper o → ((d : ℕ) → of_stream ⊥ (λ x. EndAt t0 x d) o → d < last → Q d) → All Q (of_stream [] (ends_at t0 last) o)
    go None p f = tt
    go (Some x) p f = ends_listed Q t0 last x p f

in_ends : (Q : ℕ → Type 0) (t0 last : ℕ) (h : Held) → Sound h → All Q (by_stream [] (ends_at t0 last) h) → (d : ℕ) → IsEnd t0 h d → d < last → Q d
in_ends Q t0 last h s a d e b = go (asks h) (sound_asks h s) a e
  where
    go : (o : Option Stream) → of_stream (Unit {0}) Proper o → All Q (of_stream [] (ends_at t0 last) o) → of_stream ⊥ (λ x. EndAt t0 x d) o → Q d
    go None p a e = absurd e
    go (Some x) p a e = listed_ends Q t0 last x d p a e b

-- what holds of every end before last holds of the list's members
pub ends_all : (Q : ℕ → Type 0) (t0 last : ℕ) (l : List Slot) → Each Sound l → ((d : ℕ) → AnyEnd t0 l d → d < last → Q d) → All Q (ends_of t0 last l)
unfolding ends_of
ends_all Q t0 last [] s f = tt
ends_all Q t0 last (x ∷ l) s f =
    all_appended Q (by_stream [] (ends_at t0 last) x.held) (ends_of t0 last l)
    (ends_in Q t0 last x.held (s 0 (omega arith)) (λ d e b. f d (0, omega arith, e) b))
    (ends_all Q t0 last l (λ i b. s (suc i) (omega arith)) (λ d e b. f d (suc e.0, omega (arith, e.1), e.2) b))

-- and the other way round
pub all_ends : (Q : ℕ → Type 0) (t0 last : ℕ) (l : List Slot) → Each Sound l → All Q (ends_of t0 last l) → (d : ℕ) → AnyEnd t0 l d → d < last → Q d
unfolding ends_of
all_ends Q t0 last [] s a d e b = absurd (not-suc-le-zero e.1)
all_ends Q t0 last (x ∷ l) s a d (zero, i, e) b =
    in_ends Q t0 last x.held (s 0 (omega arith)) (all_of_each Q (by_stream [] (ends_at t0 last) x.held) (ends_of t0 last l) a).0 d e b
all_ends Q t0 last (x ∷ l) s a d (suc k, i, e) b =
    all_ends Q t0 last l (λ i b. s (suc i) (omega arith)) (all_of_each Q (by_stream [] (ends_at t0 last) x.held) (ends_of t0 last l) a).1 d (k, omega (arith, i), e) b
