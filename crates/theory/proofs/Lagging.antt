-- The lag: on a table whose lag is at most 0 a tick that is not wasted keeps it so.
use mathlib.Core.Path.{◌≡◌, refl, ap}
use Rattle.std.specs.Prelude.{Option, None, Some}
use mathlib.Core.List.{List}
use Prim.Native.Nat.{ℕ, ◌+◌, ◌*◌, ◌-◌, ◌≤◌, ◌<◌}
use native.Mathlib.Omega.{arith}
use Rattle.line.specs.declared.Held.{Held}
use Rattle.line.specs.declared.Stream.{Stream}
use Rattle.line.specs.declared.Slot.{Slot}
use Rattle.line.specs.Slots.{slot_at, at, Each, total}
use Rattle.line.specs.Sound.{Sound}
use Rattle.line.specs.Streams.{asks, of_stream, share_of, claim_of, full_of, Measures, Proper, paid, onward}
use Rattle.line.specs.Shares.{Divides, share, claim, full}
use Rattle.line.specs.Tick.{Owed, served, passed, served_slot}
use Rattle.line.proofs.Streams.{sound_asks, asks_served, asks_passed}
use Rattle.table.specs.Step.{Earliest, serve, pass}
use Rattle.theory.specs.Fine.{Shares, Busy, Closes, Kept, Lag}
use Rattle.theory.proofs.Sums.{total_le, total_add, total_set, total_pass}
use Rattle.theory.proofs.Flow.{lag_onward, idle_onward}
use Rattle.theory.proofs.Pump.{sound_serve, shares_serve}

-- the lag of one slot over a tick: it rises by the share at most
lag_passed : (M : ℕ) (h : Held) → Sound h → Divides M h → Kept h → claim M (passed h) + full M h ≤ claim M h + share M h + full M (passed h)
lag_passed M h s d v = rw (asks_passed h) (go (asks h) (sound_asks h s) d v)
  where
    go : (o : Option Stream) → of_stream (Unit {0}) Proper o → of_stream (Unit {0}) (Measures M) o → of_stream (Unit {0}) Closes o
        → of_stream 0 (claim_of M) (of_stream None onward o) + of_stream 0 (full_of M) o ≤ of_stream 0 (claim_of M) o + of_stream 0 (share_of M) o + of_stream 0 (full_of M) (of_stream None onward o)
    go None p d v = omega arith
    go (Some x) p d v = lag_onward x M p d v

-- a slot that is owed nothing does not lag
lag_idle : (M : ℕ) (h : Held) → Divides M h → (Owed h → ⊥) → claim M (passed h) ≤ full M (passed h)
lag_idle M h d n = rw (asks_passed h) (go (asks h) d n)
  where
    go : (o : Option Stream) → of_stream (Unit {0}) (Measures M) o → (of_stream ⊥ (λ x. 0 < x.remaining) o → ⊥)
        → of_stream 0 (claim_of M) (of_stream None onward o) ≤ of_stream 0 (full_of M) (of_stream None onward o)
    go None d n = omega arith
    go (Some x) d n = idle_onward x M d n

-- a tick served takes M from the claim, and the need stays
lag_served : (M : ℕ) (h : Held) → Owed h → (claim M (served h) + M ≡ claim M h) × (full M (served h) ≡ full M h)
lag_served M h v = rw (asks_served h) (go (asks h) v)
  where
    go : (o : Option Stream) → of_stream ⊥ (λ x. 0 < x.remaining) o
        → (of_stream 0 (claim_of M) (of_stream None (λ x. Some (paid x)) o) + M ≡ of_stream 0 (claim_of M) o)
        × (of_stream 0 (full_of M) (of_stream None (λ x. Some (paid x)) o) ≡ of_stream 0 (full_of M) o)
    go None v = absurd v
    go (Some x) v =
        let e : x.remaining ≡ x.remaining - 1 + 1 = omega arith in
        (omega (arith, ap (λ (n : ℕ). M * n) e), refl)

-- over a tick of the clock the lag rises by M at most
pub lag_pass : {M : ℕ} {l : List Slot} → Each Sound l → Shares M l → Each Kept l → total (claim M) (pass l) + total (full M) l ≤ total (claim M) l + M + total (full M) (pass l)
lag_pass {M} {l} a v k =
    omega (
      arith,
      total_le (λ h. claim M (passed h) + full M h) (λ h. claim M h + share M h + full M (passed h)) l (λ i b. lag_passed M (at l i) (a i b) (v.common i b) (k i b)),
      total_add (λ h. claim M (passed h)) (full M) l,
      total_add (λ h. claim M h + share M h) (λ h. full M (passed h)) l,
      total_add (claim M) (share M) l,
      total_pass (claim M) l,
      total_pass (full M) l,
      v.at_most_one,
    )

-- R44: who serves an earliest end wastes no tick that somebody is owed
pub earliest_busy : (o : Option ℕ) (l : List Slot) → Earliest o l → Busy o l
earliest_busy None l e = e
earliest_busy (Some j) l e = (e.0, e.1)

-- R29: a tick that is not wasted keeps the lag at most 0
pub lag_kept : {M : ℕ} {l : List Slot} (o : Option ℕ) → Each Sound l → Shares M l → Busy o l → Each Kept (serve o l) → Lag M l → Lag M (pass (serve o l))
lag_kept {M} {l} None a v b k g =
    omega (
      arith,
      total_pass (claim M) l,
      total_pass (full M) l,
      total_le (λ h. claim M (passed h)) (λ h. full M (passed h)) l (λ i c. lag_idle M (at l i) (v.common i c) (b i c)),
    )
lag_kept {M} {l} (Some j) a v b k g =
    omega (
      arith,
      lag_pass (sound_serve (Some j) l b a) (shares_serve (Some j) b v) k,
      total_set (claim M) l j (served_slot (slot_at l j)) b.0,
      total_set (full M) l j (served_slot (slot_at l j)) b.0,
      (lag_served M (at l j) b.1).0,
      (lag_served M (at l j) b.1).1,
      g,
    )
