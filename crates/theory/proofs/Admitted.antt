-- The table admitted, R42 and R43: its demand is that of R10 to R12, and a smooth start makes it fine.
use mathlib.Core.Path.{◌≡◌, refl, ap}
use Rattle.std.specs.Prelude.{Some}
use mathlib.Core.List.{List}
use Prim.Native.Nat.{ℕ, ◌+◌, ◌*◌, ◌-◌, ◌/◌, ◌∣◌, ◌≤◌, ◌<◌}
use native.Mathlib.Nat.{sub-zero, mul-le-mul_left}
use native.Mathlib.Omega.{arith}
use borrow.Author.Tests.{lt-ltb, le-ltb}
use lib.ListN.{length, replicate}
use Rattle.periods.proofs.Whole.{whole}
use Rattle.line.specs.declared.Held.{Held}
use Rattle.line.specs.declared.Held.TheVariants.{Nothing}
use Rattle.line.specs.declared.Slot.{Slot}
use Rattle.line.specs.Slots.{holding, empty, at, Each, total}
use Rattle.line.specs.Sound.{Sound}
use Rattle.line.specs.Streams.{due}
use Rattle.line.specs.Demand.{demand, new_demand, demands, Smooth}
use Rattle.line.specs.Shares.{Divides, share, claim, full}
use Rattle.line.proofs.Excess.{smooth_says}
use Rattle.table.specs.Admit.{new_line, put_at}
use Rattle.theory.specs.Fine.{Fine, Lag}
use Rattle.theory.proofs.Numbers.{split, due_renew}
use Rattle.theory.proofs.Sums.{total_zero, total_set, each_set, each_empty}

-- R11, R43: the new line in the table asks for what the rule says: one that starts at once is at the beginning of a period
pub new_asks : (k C P r t : ℕ) → 1 ≤ P → k ≤ r → demand k (new_line C P (r - k)) t ≡ new_demand C P r t
new_asks k C P r t p b =
    split (r - k) 0
    (λ g. let e : k ≡ r = omega arith in
    rw (le-ltb 0 (r - k) g, sub-zero P) (cc (due_renew k C P t p, e)))
    (λ g. let e : k + (r - k) ≡ r = omega arith in
    rw (lt-ltb 0 (r - k) g) (ap (λ (n : ℕ). due n 0 C P t) e))

module _ (C P w : ℕ) where
  -- R43, R5: a new line that fits its period is sound, waiting or not
  pub new_sound : 1 ≤ C → C ≤ P → Sound (new_line C P w)
  new_sound a b = split w 0 (λ g. rw (le-ltb 0 w g) (omega arith)) (λ g. rw (lt-ltb 0 w g) (omega arith))

  -- R28: its share is Cn/Tn, times M
  pub new_share : (M : ℕ) → share M (new_line C P w) ≡ C * (M / P)
  new_share M = split w 0 (λ g. rw (le-ltb 0 w g)) (λ g. rw (lt-ltb 0 w g))

  -- R8: a common multiple of its period is one for it
  pub new_divides : {M : ℕ} → P ∣ M → Divides M (new_line C P w)
  new_divides d = split w 0 (λ g. rw (le-ltb 0 w g) d) (λ g. rw (lt-ltb 0 w g) d)

  -- R29: it is not behind its share
  pub new_lag : (M : ℕ) → P ∣ M → claim M (new_line C P w) ≤ full M (new_line C P w)
  new_lag M d =
      split w 0 (λ g. let z : P - (P - 0) ≡ 0 = omega arith in rw (le-ltb 0 w g) (omega (arith, ap (λ (n : ℕ). C * (M / P) * n) z)))
      (λ g. let b : P - w ≤ P = omega arith in rw (lt-ltb 0 w g) (omega (arith, mul-le-mul_left (C * (M / P)) b, ap (λ (n : ℕ). C * n) (whole P M d))))

-- R11: with the new line put in, what the pump must give is the running lines' demand and the new line's
pub admitted_demands : (k : ℕ) (l : List Slot) (j C P r t : ℕ) → j < length l → at l j ≡ Nothing → 1 ≤ P → k ≤ r
    → demands k (put_at (Some j) (holding (new_line C P (r - k))) l) t ≡ demands k l t + new_demand C P r t
admitted_demands k l j C P r t h e p b =
    omega (
      arith,
      total_set (λ x. demand k x t) l j (holding (new_line C P (r - k))) h,
      ap (λ (x : Held). demand k x t) e,
      new_asks k C P r t p b,
    )

-- R5: sound lines stay so when a new line that fits its period is put in
pub admitted_sound : (l : List Slot) (j C P w : ℕ) → Each Sound l → 1 ≤ C → C ≤ P → Each Sound (put_at (Some j) (holding (new_line C P w)) l)
admitted_sound l j C P w a b c = each_set Sound l j (holding (new_line C P w)) a (new_sound C P w b c)

-- R42, R74: a smooth start makes a fine table
pub admitted_fine : (M k : ℕ) (l : List Slot) (j C P r : ℕ)
    → Each Sound l → 0 < M → Each (Divides M) l → P ∣ M → total (share M) l + C * (M / P) ≤ M → 1 ≤ C → C ≤ P
    → j < length l → at l j ≡ Nothing → Smooth k l (new_demand C P) r
    → Fine M k (put_at (Some j) (holding (new_line C P (r - k))) l)
admitted_fine M k l j C P r a m d p x c q h e s =
    record {
      sound = admitted_sound l j C P (r - k) a c q;
      shares =
          record {
            some_frame = m;
            common = each_set (Divides M) l j (holding (new_line C P (r - k))) d (new_divides C P (r - k) p);
            at_most_one =
                omega (
                  arith,
                  total_set (share M) l j (holding (new_line C P (r - k))) h,
                  new_share C P (r - k) M,
                  ap (share M) e,
                );
          };
      no_excess = λ t b. omega (arith, admitted_demands k l j C P r t h e (omega arith) s.from_clock, smooth_says s t b);
    }

-- R29: a new line does not lag
pub lag_admitted : (M : ℕ) (l : List Slot) (j C P w : ℕ) → P ∣ M → Lag M l → j < length l → at l j ≡ Nothing → Lag M (put_at (Some j) (holding (new_line C P w)) l)
lag_admitted M l j C P w d g h e =
    omega (
      arith,
      total_set (claim M) l j (holding (new_line C P w)) h,
      total_set (full M) l j (holding (new_line C P w)) h,
      new_lag C P w M d,
      ap (claim M) e,
      ap (full M) e,
    )

-- the empty table, at any clock
pub empty_fine : (k n : ℕ) → Fine 1 k (replicate n empty)
empty_fine k n =
    record {
      sound = each_empty Sound n tt;
      shares =
          record {
            some_frame = omega arith;
            common = each_empty (Divides 1) n tt;
            at_most_one = omega (arith, total_zero (share 1) (replicate n empty) (each_empty (λ h. share 1 h ≡ 0) n refl));
          };
      no_excess = λ t b. omega (arith, total_zero (λ h. demand k h t) (replicate n empty) (each_empty (λ h. demand k h t ≡ 0) n refl));
    }

-- R29: in an empty table nobody is behind
pub empty_lag : (M n : ℕ) → Lag M (replicate n empty)
empty_lag M n = omega (arith, total_zero (claim M) (replicate n empty) (each_empty (λ h. claim M h ≡ 0) n refl))
