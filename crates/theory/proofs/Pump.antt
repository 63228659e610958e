-- A step keeps a fine table fine and ends no period short; a positive excess cannot be run away from.
use mathlib.Core.Path.{◌≡◌, ◌∙◌}
use Rattle.std.specs.Prelude.{Option, None, Some}
use mathlib.Core.List.{List}
use Prim.Native.Nat.{ℕ, zero, suc, ◌+◌, ◌*◌, ◌-◌, ◌≤◌, ◌<◌}
use native.Mathlib.Nat.{le_of_mul-le-mul_left, mul-le-mul_right}
use native.Mathlib.Omega.{arith}
use Rattle.line.specs.declared.Slot.{Slot}
use Rattle.line.specs.Slots.{slot_at, at, Each}
use Rattle.line.specs.Sound.{Sound}
use Rattle.line.specs.Demand.{demand, demands, end_of}
use Rattle.line.specs.Shares.{Divides, share}
use Rattle.line.specs.Tick.{Owed, passed, served_slot}
use Rattle.table.specs.Step.{Earliest, serve, pass}
use Rattle.theory.specs.Fine.{Shares, Fine, May, Kept, Reach, Safe}
use Rattle.theory.proofs.Numbers.{split}
use Rattle.theory.proofs.Sums.{total_le, total_eq, total_zero, total_mul, total_mulr, total_set, total_pass, one_le, each_pass, each_set}
use Rattle.theory.proofs.Slotwise.{demand_passed, served_late, served_early, served_any, end_of_owed, demand_within_share, demand_now, none_wanted, sound_passed, sound_served, share_passed, share_served, divides_passed, divides_served}

-- where nobody who is owed ends up to t, all demand is at most the time after the coming tick
pub demands_within_shares : {M : ℕ} {l : List Slot} (k t : ℕ) → Each Sound l → Shares M l → Each (λ h. Owed h → t < end_of k h) l → demands k l t ≤ t - suc k
demands_within_shares {M} {l} k t a v q =
    le_of_mul-le-mul_left
    (omega (
      arith,
      total_le (λ h. M * demand k h t) (λ h. share M h * (t - suc k)) l (λ i b. demand_within_share M k (at l i) t (a i b) (v.common i b) (q i b)),
      total_mul M (λ h. demand k h t) l,
      total_mulr (t - suc k) (share M) l,
      mul-le-mul_right (t - suc k) v.at_most_one,
    ))
    v.some_frame

-- the tick that the earliest end gets is enough
pub earliest_enough : {M k : ℕ} {l : List Slot} (o : Option ℕ) → Fine M k l → Earliest o l → (t : ℕ) → k < t → demands k (serve o l) t ≤ t - suc k
earliest_enough {M} {k} {l} None f e t b = demands_within_shares k t f.sound f.shares (λ i h v. absurd (e i h v))
earliest_enough {M} {k} {l} (Some j) f e t b =
    let s = total_set (λ h. demand k h t) l j (served_slot (slot_at l j)) e.0 in
    let z = end_of_owed k (at l j) e.1 in
    split (end_of k (at l j)) t
    (λ g. omega (arith, s, served_late k (at l j) t e.1 g, f.no_excess t (omega arith)))
    (λ g. omega (
      arith,
      s,
      served_early k (at l j) t e.1 g,
      demands_within_shares k t f.sound f.shares (λ i h v. omega (arith, z, end_of_owed k (at l i) v, e.2 i h v)),
    ))

-- R45: sound lines stay so when one of them is served
pub sound_serve : (o : Option ℕ) (l : List Slot) → May o l → Each Sound l → Each Sound (serve o l)
sound_serve None l m a = a
sound_serve (Some j) l m a = each_set Sound l j (served_slot (slot_at l j)) a (sound_served (at l j) (a j m.0))

-- R45 to R47: and when the tick has passed
pub sound_pass : (l : List Slot) → Each Sound l → Each Sound (pass l)
sound_pass l a = each_pass Sound l (λ i h. sound_passed (at l i) (a i h))

-- R28: a served line has the same share
pub shares_serve : {M : ℕ} {l : List Slot} (o : Option ℕ) → May o l → Shares M l → Shares M (serve o l)
shares_serve {M} {l} None m v = v
shares_serve {M} {l} (Some j) m v =
    record {
      some_frame = v.some_frame;
      common = each_set (Divides M) l j (served_slot (slot_at l j)) v.common (divides_served M (at l j) (v.common j m.0));
      at_most_one = omega (arith, total_set (share M) l j (served_slot (slot_at l j)) m.0, share_served M (at l j), v.at_most_one);
    }

-- R28: and no line has more of it a tick later
pub shares_pass : {M : ℕ} {l : List Slot} → Shares M l → Shares M (pass l)
shares_pass {M} {l} v =
    record {
      some_frame = v.some_frame;
      common = each_pass (Divides M) l (λ i h. divides_passed M (at l i) (v.common i h));
      at_most_one = omega (arith, total_pass (share M) l, total_le (λ h. share M (passed h)) (share M) l (λ i h. share_passed M (at l i)), v.at_most_one);
    }

-- a tick of the clock in which no line is short changes no demand
pub demands_pass : (k : ℕ) (l : List Slot) (t : ℕ) → Each Sound l → Each Kept l → demands (suc k) (pass l) t ≡ demands k l t
demands_pass k l t a v =
    total_pass (λ h. demand (suc k) h t) l
    ∙ total_eq (λ h. demand (suc k) (passed h) t) (λ h. demand k h t) l (λ i b. demand_passed k (at l i) t (a i b) (v i b))

-- R44: who has an earliest end may be served
pub earliest_may : (o : Option ℕ) (l : List Slot) → Earliest o l → May o l
earliest_may None l e = tt
earliest_may (Some j) l e = (e.0, e.1)

-- R74, R46: no period ends short
pub never_short : {M k : ℕ} {l : List Slot} (o : Option ℕ) → Fine M k l → Earliest o l → Each Kept (serve o l)
never_short {M} {k} {l} o f e i h =
    none_wanted k (at (serve o l) i)
    (omega (arith, one_le (λ x. demand k x (suc k)) (serve o l) i h, earliest_enough o f e (suc k) (omega arith)))

-- R74: a fine table is fine after the tick
pub fine_kept : {M k : ℕ} {l : List Slot} (o : Option ℕ) → Fine M k l → Earliest o l → Fine M (suc k) (pass (serve o l))
fine_kept {M} {k} {l} o f e =
    let m = earliest_may o l e in
    let a = sound_serve o l m f.sound in
    record {
      sound = sound_pass (serve o l) a;
      shares = shares_pass (shares_serve o m f.shares);
      no_excess = λ t b. omega (arith, demands_pass k (serve o l) t a (never_short o f e), earliest_enough o f e t b);
    }

-- so no run by the earliest end has a line short
pub fine_safe : {M k : ℕ} {l : List Slot} (n : ℕ) → Fine M k l → Safe n l
fine_safe zero f = tt
fine_safe {M} {k} {l} (suc n) f = λ o e. (never_short o f e, fine_safe {M = M} {k = suc k} {l = pass (serve o l)} n (fine_kept o f e))

-- a tick pays for one at most
pub serve_pays : (k : ℕ) (o : Option ℕ) (l : List Slot) (t : ℕ) → May o l → demands k l t ≤ suc (demands k (serve o l) t)
serve_pays k None l t m = omega arith
serve_pays k (Some j) l t m = omega (arith, total_set (λ h. demand k h t) l j (served_slot (slot_at l j)) m.0, served_any k (at l j) t m.1)

-- R10: at the clock nothing is wanted yet
pub demands_now : (k : ℕ) (l : List Slot) → Each Sound l → demands k l k ≡ 0
demands_now k l a = total_zero (λ h. demand k h k) l (λ i b. demand_now k (at l i) (a i b))

-- R77: whoever is served, the excess at t is still there after a tick without a short line, and t still to come
pub excess_kept : (k : ℕ) (o : Option ℕ) (l : List Slot) (t : ℕ) → Each Sound l → May o l → Each Kept (serve o l) → k < t → t - k < demands k l t
    → (t - suc k < demands (suc k) (pass (serve o l)) t) × (suc k < t)
excess_kept k o l t a m v b x =
    let s = sound_serve o l m a in
    let p = serve_pays k o l t m in
    let w = demands_pass k (serve o l) t s v in
    let y : t - suc k < demands (suc k) (pass (serve o l)) t = omega (arith, p, w) in (
      y,
      split t (suc k)
          (λ g. let e : t ≡ suc k = omega arith in
          let z : demands (suc k) (pass (serve o l)) t ≡ 0 = rw e (demands_now (suc k) (pass (serve o l)) (sound_pass (serve o l) s)) in
          absurd (omega (arith, y, z)))
          (λ g. g),
    )

doomed_in : (n k : ℕ) (l : List Slot) (t : ℕ) → t ≡ k + n → Each Sound l → n < demands k l t → Reach n l → ⊥
doomed_in zero k l t e a x r =
    let z : t ≡ k = omega arith in
    let y : 0 < demands k l k = rw z at x in
    omega (arith, y, demands_now k l a)
doomed_in (suc n) k l t e a x r =
    let s = sound_serve r.0 l r.1 a in
    let y = (excess_kept k r.0 l t a r.1 r.2 (omega arith) (omega arith)).0 in
    doomed_in n (suc k) (pass (serve r.0 l)) t (omega arith) (sound_pass (serve r.0 l) s) (omega (arith, y)) r.3

-- R77: no run up to a t with excess is without a short line
pub doomed : (k : ℕ) (l : List Slot) (t : ℕ) → Each Sound l → k ≤ t → t - k < demands k l t → Reach (t - k) l → ⊥
doomed k l t a b x r = doomed_in (t - k) k l t (omega arith) a x r
