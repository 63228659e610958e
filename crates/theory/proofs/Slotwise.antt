-- The laws of one slot: what a tick and a serving do to demand, soundness and share. Each is a law of the stream that the slot holds.
use mathlib.Core.Path.{◌≡◌, refl}
use Rattle.std.specs.Prelude.{Option, None, Some}
use Prim.Native.Nat.{ℕ, suc, ◌+◌, ◌*◌, ◌-◌, ◌≤◌, ◌<◌}
use native.Mathlib.Omega.{arith}
use Rattle.line.specs.declared.Held.{Held}
use Rattle.line.specs.declared.Stream.{Stream}
use Rattle.line.specs.Sound.{Sound}
use Rattle.line.specs.Streams.{asks, of_stream, end_at, again, flow, share_of, Measures, Proper, paid, onward}
use Rattle.line.specs.Demand.{demand, end_of}
use Rattle.line.specs.Shares.{Divides, share}
use Rattle.line.specs.Tick.{Owed, to_end, served, passed}
use Rattle.line.proofs.Streams.{sound_asks, asks_sound, asks_served, asks_passed}
use Rattle.line.proofs.Due.{due_after}
use Rattle.theory.specs.Fine.{Closes, Kept}
use Rattle.theory.proofs.Numbers.{split}
use Rattle.theory.proofs.Flow.{flow_before, flow_share, flow_paid, flow_unpaid, flow_onward, onward_is}

-- a tick of the clock changes no demand
pub demand_passed : (k : ℕ) (h : Held) (t : ℕ) → Sound h → Kept h → demand (suc k) (passed h) t ≡ demand k h t
demand_passed k h t s v = rw (asks_passed h) (go (asks h) (sound_asks h s) v)
  where
    go : (o : Option Stream) → of_stream (Unit {0}) Proper o → of_stream (Unit {0}) Closes o
        → of_stream 0 (λ x. flow (suc k) x t) (of_stream None onward o) ≡ of_stream 0 (λ x. flow k x t) o
    go None p c = refl
    go (Some x) p c = flow_onward k x t p c

-- a tick served pays what is due at the line's end and later
pub served_late : (k : ℕ) (h : Held) (t : ℕ) → Owed h → end_of k h ≤ t → demand k h t ≡ suc (demand k (served h) t)
served_late k h t v g = rw (asks_served h) (go (asks h) v g)
  where
    go : (o : Option Stream) → of_stream ⊥ (λ x. 0 < x.remaining) o → of_stream k (end_at k) o ≤ t
        → of_stream 0 (λ x. flow k x t) o ≡ suc (of_stream 0 (λ x. flow k x t) (of_stream None (λ x. Some (paid x)) o))
    go None v g = absurd v
    go (Some x) v g = flow_paid k x t v g

-- and nothing before it
pub served_early : (k : ℕ) (h : Held) (t : ℕ) → Owed h → t < end_of k h → demand k h t ≡ demand k (served h) t
served_early k h t v g = rw (asks_served h) (go (asks h) v g)
  where
    go : (o : Option Stream) → of_stream ⊥ (λ x. 0 < x.remaining) o → t < of_stream k (end_at k) o
        → of_stream 0 (λ x. flow k x t) o ≡ of_stream 0 (λ x. flow k x t) (of_stream None (λ x. Some (paid x)) o)
    go None v g = absurd v
    go (Some x) v g = flow_unpaid k x t g

-- R45: a tick served takes at most one from what a line wants by t
pub served_any : (k : ℕ) (h : Held) (t : ℕ) → Owed h → demand k h t ≤ suc (demand k (served h) t)
served_any k h t v = split (end_of k h) t (λ g. omega (arith, served_late k h t v g)) (λ g. omega (arith, served_early k h t v g))

-- R9: an owed line's first end is its time to the end after the clock
pub end_of_owed : (k : ℕ) (h : Held) → Owed h → end_of k h ≡ k + to_end h
end_of_owed k h v = go (asks h) v
  where
    go : (o : Option Stream) → of_stream ⊥ (λ x. 0 < x.remaining) o → of_stream k (end_at k) o ≡ k + of_stream 0 (λ x. x.end) o
    go None v = absurd v
    go (Some x) v = refl

-- where no end up to t has anything owed, the demand is at most the share of the time after the coming tick
pub demand_within_share : (M k : ℕ) (h : Held) (t : ℕ) → Sound h → Divides M h → (Owed h → t < end_of k h) → M * demand k h t ≤ share M h * (t - suc k)
demand_within_share M k h t s d q = go (asks h) (sound_asks h s) d q
  where
    go : (o : Option Stream) → of_stream (Unit {0}) Proper o → of_stream (Unit {0}) (Measures M) o → (of_stream ⊥ (λ x. 0 < x.remaining) o → t < of_stream k (end_at k) o)
        → M * of_stream 0 (λ x. flow k x t) o ≤ of_stream 0 (share_of M) o * (t - suc k)
    go None p d q = omega arith
    go (Some x) p d q = flow_share k x t M p d q

-- a sound line asks for nothing at the clock itself
pub demand_now : (k : ℕ) (h : Held) → Sound h → demand k h k ≡ 0
demand_now k h s = go (asks h) (sound_asks h s)
  where
    go : (o : Option Stream) → of_stream (Unit {0}) Proper o → of_stream 0 (λ x. flow k x k) o ≡ 0
    go None p = refl
    go (Some x) p = flow_before k x k (omega arith)

-- a line that asks for nothing at the coming tick does not end short with it
pub none_wanted : (k : ℕ) (h : Held) → demand k h (suc k) ≤ 0 → Kept h
none_wanted k h v = go (asks h) v
  where
    go : (o : Option Stream) → of_stream 0 (λ x. flow k x (suc k)) o ≤ 0 → of_stream (Unit {0}) Closes o
    go None v = tt
    go (Some x) v = λ g. omega (arith, due_after (end_at k x) x.remaining (again x) x.period (suc k) (omega arith))

-- R45 to R47: a sound line is sound a tick later
pub sound_passed : (h : Held) → Sound h → Sound (passed h)
sound_passed h s = asks_sound (passed h) (rw (asks_passed h) (go (asks h) (sound_asks h s)))
  where
    go : (o : Option Stream) → of_stream (Unit {0}) Proper o → of_stream (Unit {0}) Proper (of_stream None onward o)
    go None p = tt
    go (Some x) p = onward_is x (λ (T : Type 0). T) (Unit {0}) Proper (λ g. omega arith) (λ g. omega arith) (λ g. tt)

-- R45: a sound line is sound when served
pub sound_served : (h : Held) → Sound h → Sound (served h)
sound_served h s = asks_sound (served h) (rw (asks_served h) (go (asks h) (sound_asks h s)))
  where
    go : (o : Option Stream) → of_stream (Unit {0}) Proper o → of_stream (Unit {0}) Proper (of_stream None (λ x. Some (paid x)) o)
    go None p = tt
    go (Some x) p = omega arith

-- R28: a line has no greater share a tick later
pub share_passed : (M : ℕ) (h : Held) → share M (passed h) ≤ share M h
share_passed M h = rw (asks_passed h) (go (asks h))
  where
    go : (o : Option Stream) → of_stream 0 (share_of M) (of_stream None onward o) ≤ of_stream 0 (share_of M) o
    go None = omega arith
    go (Some x) = onward_is x (λ (n : ℕ). n ≤ share_of M x) 0 (share_of M) (λ g. omega arith) (λ g. omega arith) (λ g. omega arith)

-- R28: nor when served
pub share_served : (M : ℕ) (h : Held) → share M (served h) ≤ share M h
share_served M h = rw (asks_served h) (go (asks h))
  where
    go : (o : Option Stream) → of_stream 0 (share_of M) (of_stream None (λ x. Some (paid x)) o) ≤ of_stream 0 (share_of M) o
    go None = omega arith
    go (Some x) = omega arith

-- R8: a common multiple stays one a tick later
pub divides_passed : (M : ℕ) (h : Held) → Divides M h → Divides M (passed h)
divides_passed M h d = rw (asks_passed h) (go (asks h) d)
  where
    go : (o : Option Stream) → of_stream (Unit {0}) (Measures M) o → of_stream (Unit {0}) (Measures M) (of_stream None onward o)
    go None d = tt
    go (Some x) d = onward_is x (λ (T : Type 0). T) (Unit {0}) (Measures M) (λ g. d) (λ g. d) (λ g. tt)

-- R8: and when a line is served
pub divides_served : (M : ℕ) (h : Held) → Divides M h → Divides M (served h)
divides_served M h d = rw (asks_served h) (go (asks h) d)
  where
    go : (o : Option Stream) → of_stream (Unit {0}) (Measures M) o → of_stream (Unit {0}) (Measures M) (of_stream None (λ x. Some (paid x)) o)
    go None d = tt
    go (Some x) d = d
