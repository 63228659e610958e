-- What is known of a request that is granted, and of one that is refused with 10: every test before passed over.
use Rattle.std.specs.Prelude.{Ok, Err, Option, None, Some}
use Rattle.table.specs.Words.{Said}
use mathlib.Core.Path.{◌≡◌, refl, sym}
use mathlib.Core.Bool.{Bool, true, false, not}
use mathlib.Core.List.{◌∷◌}
use Prim.Native.Nat.{ℕ, ◌+◌, ◌*◌, ◌-◌, ◌/◌, ◌^◌, ◌≤◌}
use native.Mathlib.Omega.{arith}
use borrow.Author.Tests.{not-false, ltb-false}
use lib.Dec.{ltb, leb}
use lib.ListN.{length}
use Rattle.periods.proofs.Frames.{frame_is, frame_pos}
use Rattle.table.specs.declared.Table.{Table}
use Rattle.table.specs.declared.Request.{Request}
use Rattle.table.specs.declared.Refusal.{Refusal}
use Rattle.line.specs.Slots.{both, at, Each, total, is_nothing, is_waiting, Waits, lowest, lowest_of}
use Rattle.table.specs.Words.{refusal, short_refusal}
use Rattle.line.specs.Sound.{Sound}
use Rattle.line.specs.Demand.{ticks_short}
use Rattle.table.specs.Counts.{fault}
use Rattle.table.specs.Grounds.{entry, asked}
use Rattle.line.specs.Stretch.{Barred, barred}
use Rattle.line.specs.Shares.{periods_in, frame, share, claim, full}
use Rattle.std.specs.Prelude.{is_none}
use Rattle.table.specs.Ask.{refused_at, refused_if, refused_short, ask_in, ask_of}
use Rattle.line.specs.Ends.{start, excess_at, first_short}
use Rattle.line.proofs.Search.{true_false}
use Rattle.line.proofs.Sound.{barred_not}
use Rattle.table.proofs.Counts.{faultless}
use Rattle.theory.specs.Fine.{Unbarred}
use Rattle.theory.specs.Given.{Given, Cleared, Granted}
use Rattle.theory.proofs.Start.{start_least}
use Rattle.theory.proofs.Ten.{alone_without_short_end, FirstShort, found_short}
use Rattle.theory.proofs.Stretched.{sound_stretched}
use Rattle.theory.proofs.Tests.{none_of, all_sound, some_of, fits_says, periods_divide, periods_pos}

-- the frame is a common multiple, and with sums 8 and 9 it gives what the theory of the start asks
pub given : (t : Table) (q : Request) → Each Sound (asked t q) → 1 ≤ q.need → q.need ≤ q.period
    → let F = frame (asked t q) q.period in
    total (share F) (asked t q) + q.need * (F / q.period) ≤ F → total (claim F) (asked t q) ≤ total (full F) (asked t q)
    → Given F (asked t q) q.need q.period
given t q s c fits eight nine =
    let f = frame_is (q.period ∷ periods_in (asked t q)) in
    record {
      sound = s;
      some_frame = frame_pos (q.period ∷ periods_in (asked t q)) (omega arith, periods_pos (asked t q) s);
      divides = periods_divide (frame (asked t q) q.period) (asked t q) f.common.1;
      new_some = c;
      new_fits = fits;
      new_divides = f.common.0;
      eight = eight;
      nine = nine;
    }

-- ---- the tests, one after the other

-- R17: w is no refusal with the number n that says no more than its place
abbrev Not : ℕ → Said ℕ → Type 0
Not n w = (k : ℕ) → w ≡ Err (refusal n k) → ⊥

past_if : (b : Bool) (n : ℕ) (a w : Said ℕ) → Not n w → refused_if b n a ≡ w → (b ≡ false) × (a ≡ w)
past_if true n a w no' e = absurd (no' 0 (sym e))
past_if false n a w no' e = (refl, e)

past_at : (o : Option ℕ) (n : ℕ) (a w : Said ℕ) → Not n w → refused_at o n a ≡ w → (o ≡ None) × (a ≡ w)
past_at (Some k) n a w no' e = absurd (no' k (sym e))
past_at None n a w no' e = (refl, e)

-- what test 10 and the start answer
abbrev last : Table → Request → Said ℕ
last t q =
    refused_short (first_short t.clock (asked t q)) (λ d. ticks_short (excess_at t.clock (asked t q) d)) (Ok (start t.clock (asked t q) q.need q.period))

module _ (t : Table) (q : Request) (w : Said ℕ) (other : (n : ℕ) → n ≤ 9 → Not n w) where
  -- past test 9 the request is as the theory of the start wants it
  cleared_load : Each Sound (asked t q) → 1 ≤ q.need → q.need ≤ q.period
      → let F = frame (asked t q) q.period in
      ask_in t.clock F (asked t q) q.need q.period ≡ w → Given F (asked t q) q.need q.period × (last t q ≡ w)
  unfolding ask_in
  cleared_load s c fits e =
      let F = frame (asked t q) q.period in
      let l = asked t q in
      let p7 = past_if (ltb 1000000 F) 7 _ w (other 7 (omega arith)) e in
      let p8 = past_if (ltb F (total (share F) l + q.need * (F / q.period))) 8 _ w (other 8 (omega arith)) p7.1 in
      let p9 = past_if (ltb (total (full F) l) (total (claim F) l)) 9 _ w (other 9 (omega arith)) p8.1 in
      (given t q s c fits (ltb-false F (total (share F) l + q.need * (F / q.period)) p8.0) (ltb-false (total (full F) l) (total (claim F) l) p9.0), p9.1)

  -- R18: an answer that is none of the refusals 1 to 9: none of these grounds holds, and it is what the rest answers
  cleared : ask_of t q ≡ w → Cleared t q × (last t q ≡ w)
  unfolding ask_of
  cleared e =
      let l = t.slots in
      let n = length l in
      let p1 = past_if (ltb (2 ^ 48 - 65536) t.clock) 1 _ w (other 1 (omega arith)) e in
      let p2 = past_if (is_none (lowest_of is_nothing l)) 2 _ w (other 2 (omega arith)) p1.1 in
      let p3 = past_at (lowest_of is_waiting l) 3 _ w (other 3 (omega arith)) p2.1 in
      let p4 = past_at (fault t) 4 _ w (other 4 (omega arith)) p3.1 in
      let clean = faultless t p4.0 in
      let p5 = past_at (lowest (λ i. barred (entry q i) (at l i)) n) 5 _ w (other 5 (omega arith)) p4.1 in
      let p6 = past_if (not (both (leb 1 q.need) (leb q.need q.period))) 6 _ w (other 6 (omega arith)) p5.1 in
      let k = some_of (lowest_of is_nothing l) p2.0 in
      let waits = none_of (λ i. Waits (at l i)) (λ i. is_waiting (at l i)) n (λ i v e. true_false v e) p3.0 in
      let sounds = all_sound l clean.0 in
      let unbarred : Unbarred l (entry q) = none_of (λ i. Barred (entry q i) (at l i)) (λ i. barred (entry q i) (at l i)) n (λ i. barred_not (entry q i) (at l i)) p5.0 in
      let f = fits_says q.need q.period (not-false (both (leb 1 q.need) (leb q.need q.period)) p6.0) in
      let g = cleared_load (sound_stretched l (entry q) unbarred sounds) f.0 f.1 p6.1 in (
        record {
          early = ltb-false (2 ^ 48 - 65536) t.clock p1.0;
          slot = k.0;
          lowest_empty = k.1;
          none_waits = waits;
          sound = sounds;
          within = clean.1;
          unbarred = unbarred;
          given = g.0;
        },
        g.1,
      )

-- ---- what an answer tells

-- an answer that says a start is that start
pub says_start : (a : Said ℕ) (r : ℕ) → a ≡ Ok r → a ≡ Ok r
says_start (Ok u) r e = cc
says_start (Err x) r e = cc

start_short : (o : Option ℕ) (over : ℕ → ℕ) (u r : ℕ) → refused_short o over (Ok u) ≡ Ok r → (o ≡ None) × (u ≡ r)
start_short (Some d) over u r e = cc
start_short None over u r e = (refl, cc)

-- R18, R41: what a start tells: no ground holds, and it is the least smooth one
pub granted : (t : Table) (q : Request) (r : ℕ) → ask_of t q ≡ Ok r → Granted t q r
granted t q r e =
    let c = cleared t q (Ok r) (λ n h k z. let y : ◌≡◌ {A = ℕ} 0 1 = cc in omega arith) e in
    let l = asked t q in
    let s = start_short (first_short t.clock l) _ _ r c.1 in
    let g = c.0.given in
    let a = alone_without_short_end (frame l q.period) t.clock l q.need q.period g s.0 in
    record { cleared = c.0; alone = a; least = rw (← s.1) (start_least (frame l q.period) t.clock l q.need q.period g a) }

refused_short_lem : (o : Option ℕ) (over : ℕ → ℕ) (u : ℕ) (x : Refusal) → refused_short o over (Ok u) ≡ Err x → (d : ℕ) × (o ≡ Some d) × (x ≡ short_refusal d (over d))
refused_short_lem (Some d) over u x e = (d, refl, cc)
refused_short_lem None over u x e = cc

-- R103, R41: what refusal 10 tells: none of the grounds before it holds, and it says the first short tick and its excess
pub told_ten : (t : Table) (q : Request) (x : Refusal) → ask_of t q ≡ Err x → x.number ≡ 10
    → Cleared t q × ((d : ℕ) × FirstShort t.clock (asked t q) d × (x ≡ short_refusal d (ticks_short (excess_at t.clock (asked t q) d))))
told_ten t q x e ten =
    let c = cleared t q (Err x) (λ n h k z. let y : x.number ≡ n = cc in omega arith) e in
    let l = asked t q in
    let s = refused_short_lem (first_short t.clock l) _ _ x c.1 in
    (c.0, (s.0, found_short (frame l q.period) t.clock l q.need q.period s.0 c.0.given s.1, s.2))
