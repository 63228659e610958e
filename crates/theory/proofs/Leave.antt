-- A line let go, R100: it is sound as before, asks for no more and has no greater share, and so a fine table stays fine.
use mathlib.Core.List.{List}
use Prim.Native.Nat.{ℕ, ◌+◌, ◌-◌, ◌≤◌, ◌<◌}
use native.Mathlib.Omega.{arith}
use lib.ListN.{length, set}
use Rattle.line.specs.declared.Held.{Held}
use Rattle.line.specs.declared.Held.TheVariants.{Nothing, Running, Waiting}
use Rattle.line.specs.declared.Slot.{Slot}
use Rattle.line.specs.Slots.{slot_at, at}
use Rattle.line.specs.Sound.{Sound}
use Rattle.line.specs.Demand.{demand}
use Rattle.line.specs.Shares.{Divides, share}
use Rattle.line.specs.Leave.{let_go, let_go_slot}
use Rattle.theory.specs.Fine.{Fine}
use Rattle.theory.proofs.Numbers.{due_less}
use Rattle.theory.proofs.Sums.{total_set, each_set}

-- R5: a sound line let go is sound
sound_let_go : (h : Held) → Sound h → Sound (let_go h)
sound_let_go Nothing s = s
sound_let_go (Running r) s = s
sound_let_go (Waiting w) s = tt

-- R8: a common multiple of its period is one still
divides_let_go : (M : ℕ) (h : Held) → Divides M h → Divides M (let_go h)
divides_let_go M Nothing d = d
divides_let_go M (Running r) d = d
divides_let_go M (Waiting w) d = tt

-- R28: its share is the same while it is there
share_let_go : (M : ℕ) (h : Held) → share M (let_go h) ≤ share M h
share_let_go M Nothing = omega arith
share_let_go M (Running r) = omega arith
share_let_go M (Waiting w) = omega arith

-- R10: and it asks for no more
demand_let_go : (k : ℕ) (h : Held) (t : ℕ) → demand k (let_go h) t ≤ demand k h t
demand_let_go k Nothing t = omega arith
demand_let_go k (Running r) t = due_less (k + (r.period - r.age)) r.remaining 0 _ r.period t (omega arith)
demand_let_go k (Waiting w) t = omega arith

-- R100, R74: the table with the line of slot j let go
pub fine_let_go : {M k : ℕ} {l : List Slot} (j : ℕ) → j < length l → Fine M k l → Fine M k (set l j (let_go_slot (slot_at l j)))
fine_let_go {M} {k} {l} j b f = record {
  sound = each_set Sound l j gone f.sound (sound_let_go (at l j) (f.sound j b));
  shares = record {
    some_frame = f.shares.some_frame;
    common = each_set (Divides M) l j gone f.shares.common (divides_let_go M (at l j) (f.shares.common j b));
    at_most_one = omega (arith, total_set (share M) l j gone b, share_let_go M (at l j), f.shares.at_most_one);
  };
  no_excess = λ t h. omega (arith, total_set (λ x. demand k x t) l j gone b, demand_let_go k (at l j) t, f.no_excess t h);
}
  where
    gone : Slot
    gone = let_go_slot (slot_at l j)
