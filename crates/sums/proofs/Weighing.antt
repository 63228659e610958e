-- What it is for lines to be fit, computed, and which case of `weighed` holds, by the tests that the code makes.
use Prim.Native.Nat.{ℕ, zero, suc, ◌+◌, ◌*◌, ◌/◌, ◌≤◌, ◌<◌}
use mathlib.Core.Path.{◌≡◌, refl, sym, ap, ◌∙◌}
use mathlib.Core.Bool.{Bool, true, false, not}
use mathlib.Core.List.{List, [], ◌∷◌}
use native.Mathlib.Omega.{arith}
use native.Mathlib.Decide.{dec_le}
use lib.Dec.{leb}
use lib.ListN.{length, get_or}
use Rattle.std.specs.List.{list_all}
use borrow.Author.Tests.{leb-false, lt-ltb, le-ltb, le-leb, lt-leb, leb-true, eqb-true}
use Rattle.periods.specs.Multiples.{All, frame_of, CappedFrame}
use Rattle.line.specs.declared.Stream.{Stream}
use Rattle.line.specs.Slots.{pick, both}
use Rattle.line.specs.Streams.{share_of, claim_of, full_of}
use Rattle.line.proofs.Search.{true_false}
use Rattle.line.proofs.Sound.{both_says}
use Rattle.sums.specs.declared.Weights.{Weights}
use Rattle.sums.specs.Lines.{along, sum_of, all_of, line_at, lines_of, alike, most, Fit, Packed}
use Rattle.sums.specs.Weighed.{is_fit, fitting, AddedUp, periods_of, weighed_fit, weighed, fitting_in, weighed_in}
use Rattle.sums.proofs.Zipped.{line_of_four, zip_four, zipped, list_all_of}
use Rattle.sums.proofs.Along.{along_length, along_every, along_map, along_list}

-- ---- one line, and all of them

fit_says : (x : Stream) → is_fit x ≡ true → Fit x
fit_says x e =
    let a = both_says _ _ e in
    let b = both_says _ _ a.0 in
    let c = both_says _ _ b.1 in
    let d = both_says _ _ a.1 in
    record { some = leb-true _ _ d.0; ends = leb-true _ _ c.0; less = leb-true _ _ c.1; rest = leb-true _ _ b.0; wide = leb-true _ _ d.1 }

says_fit : (x : Stream) → Fit x → is_fit x ≡ true
says_fit x f =
    simp (le-leb _ _ f.some, le-leb _ _ f.ends, le-leb _ _ f.less, le-leb _ _ f.rest, le-leb _ _ f.wide)

all_fit : (l : List Stream) → All Fit l → all_of is_fit l ≡ true
unfolding all_of
all_fit [] a = refl
all_fit (x ∷ l) a = rw (says_fit x a.0, all_fit l a.1)

-- R24, R25, R3: fit lines pass the test
pub says_fitting : (l : List Stream) → length l ≤ most → All Fit l → fitting l ≡ true
unfolding fitting
says_fitting l h a = rw (le-leb (length l) most h) (all_fit l a)

fit_all : (l : List Stream) → all_of is_fit l ≡ true → All Fit l
unfolding all_of
fit_all [] e = tt
fit_all (x ∷ l) e = let b = both_says _ _ e in (fit_says x b.0, fit_all l b.1)

-- R24, R25, R3: and lines that pass it are fit
pub fitting_says : (l : List Stream) → fitting l ≡ true → All Fit l
unfolding fitting
fitting_says l e = fit_all l (both_says (leb (length l) most) (all_of is_fit l) e).1

module _ (test : Stream → Bool) (a : ℕ → Stream) where
  all_says : (i n : ℕ) → all_of test (along a i n) ≡ true → (k : ℕ) → i ≤ k → k < i + n → test (a k) ≡ true
  unfolding along all_of
  all_says i zero e k h l = absurd (omega arith)
  all_says i (suc n) e k h l =
      let b = both_says _ _ e in
      elim (dec_le (suc i) k) [
        | yes m ↦ all_says (suc i) n b.1 k m (omega arith)
        | no m ↦ let z : k ≡ i = omega arith in rw z b.0
      ]

-- ---- the lines of four slices

both_not : (a : Bool) → both a false ≡ false
both_not true = refl
both_not false = refl

module _ (e c n p : List ℕ) where
  abbrev whole : Bool
  whole = all_of is_fit (lines_of e c n p)

  fitting_few : length e ≤ most → fitting (lines_of e c n p) ≡ whole
  unfolding fitting
  fitting_few h = rw (along_length (line_at e c n p) 0 (length e), le-leb (length e) most h)

  fitting_many : most < length e → fitting (lines_of e c n p) ≡ false
  unfolding fitting
  fitting_many h = rw (along_length (line_at e c n p) 0 (length e), lt-leb (length e) most h)

  few_says : leb (length (lines_of e c n p)) most ≡ true → length e ≤ most
  few_says t = omega (arith, leb-true (length (lines_of e c n p)) most t, along_length (line_at e c n p) 0 (length e))

  -- R24, R25, R3: what is known where the test says fit
  pub packed_says : fitting_in e c n p ≡ true → Packed e c n p
  unfolding fitting
  packed_says t =
      let b = both_says _ _ t in
      let a = both_says _ _ b.0 in
      let d = both_says _ _ a.1 in
      let f = both_says _ _ b.1 in
      record {
        same_c = eqb-true _ _ a.0;
        same_n = eqb-true _ _ d.0;
        same_p = eqb-true _ _ d.1;
        few = few_says f.0;
        each = λ k h. fit_says _ (all_says is_fit (line_at e c n p) 0 (length e) f.1 k (omega arith) (omega arith));
      }

  -- the slices differ in length
  pub fit_apart : {b v : Bool} → b ≡ alike e c n p → b ≡ false → v ≡ b → v ≡ fitting_in e c n p
  fit_apart t m h = rw (h, m, sym t ∙ m)

  -- there are too many lines
  pub fit_many : {v : Bool} → v ≡ leb (length e) most → v ≡ false → v ≡ fitting_in e c n p
  fit_many {v} t m =
      let few = fitting_many (omega (arith, leb-false (length e) most (sym t ∙ m))) in
      rw (m, few) (sym (both_not (alike e c n p)))

  -- each line is tested
  pub fit_each : {b v r : Bool} → b ≡ alike e c n p → b ≡ true → v ≡ leb (length e) most → v ≡ true → r ≡ list_all (λ q. is_fit (line_of_four q)) (zip_four e c n p)
      → r ≡ fitting_in e c n p
  fit_each t m u k h =
      let a = both_says _ _ (sym t ∙ m) in
      let d = both_says _ _ a.1 in
      rw (sym t ∙ m, fitting_few (leb-true (length e) most (sym u ∙ k)), h)
      (list_all_of is_fit line_of_four (zip_four e c n p)
      ∙ ap (all_of is_fit) (zipped e c n p (eqb-true _ _ a.0) (eqb-true _ _ d.0) (eqb-true _ _ d.1))
      )

  -- R24, R25, R3: all lines of slices that are fit
  pub packed_all : Packed e c n p → All Fit (lines_of e c n p)
  packed_all v = along_every (line_at e c n p) Fit 0 (length e) (λ k h l. v.each k (omega arith))

  periods_are : length p ≡ length e → periods_of (lines_of e c n p) ≡ p
  periods_are h =
      along_map (line_at e c n p) (λ x. x.period) 0 (length e) ∙ ap (along (λ k. get_or p k 0) 0) (sym h) ∙ along_list p

-- ---- R27 to R29

module _ (l : List Stream) (F Cn Tn : ℕ) where
  -- R27: the frame is too long
  pub in_7 : 1000000 < F → 7 ≡ weighed_fit l F Cn Tn
  unfolding weighed_fit
  in_7 h = rw (lt-ltb 1000000 F h)

  module _ (h : F ≤ 1000000) where
    -- R28: the shares are above the whole
    pub in_8 : F < sum_of (share_of F) l + Cn * (F / Tn) → 8 ≡ weighed_fit l F Cn Tn
    unfolding weighed_fit
    in_8 k = rw (le-ltb 1000000 F h, lt-ltb F (sum_of (share_of F) l + Cn * (F / Tn)) k)

    module _ (k : sum_of (share_of F) l + Cn * (F / Tn) ≤ F) where
      -- R29: the claims are above the needs
      pub in_9 : sum_of (full_of F) l < sum_of (claim_of F) l → 9 ≡ weighed_fit l F Cn Tn
      unfolding weighed_fit
      in_9 j =
          rw (le-ltb 1000000 F h, le-ltb F (sum_of (share_of F) l + Cn * (F / Tn)) k, lt-ltb (sum_of (full_of F) l) (sum_of (claim_of F) l) j)

      -- none of the three holds
      pub in_0 : sum_of (claim_of F) l ≤ sum_of (full_of F) l → 0 ≡ weighed_fit l F Cn Tn
      unfolding weighed_fit
      in_0 j =
          rw (le-ltb 1000000 F h, le-ltb F (sum_of (share_of F) l + Cn * (F / Tn)) k, le-ltb (sum_of (full_of F) l) (sum_of (claim_of F) l) j)

-- the same over the code's values: f is the capped frame, w what the lines add up to, and new the new line's share
module _ (l : List Stream) (ps : List ℕ) (Cn Tn : ℕ) {f : ℕ} (ef : CappedFrame (Tn ∷ ps) f) where
  abbrev F : ℕ
  F = frame_of (Tn ∷ ps)

  -- R27: the frame is too long
  pub weigh_7 : 1000000 < f → 7 ≡ weighed_fit l F Cn Tn
  weigh_7 h = in_7 l F Cn Tn (omega (arith, ef.value))

  module _ (h : f ≤ 1000000) {w : Weights} {new : ℕ} (a : AddedUp l f w) (en : new ≡ Cn * (f / Tn)) where
    to_frame : weighed_fit l f Cn Tn ≡ weighed_fit l F Cn Tn
    to_frame = let z : f ≡ F = omega (arith, ef.value) in ap (λ (x : ℕ). weighed_fit l x Cn Tn) z

    -- R28: the shares are above the whole
    pub weigh_8 : f < w.shares + new → 8 ≡ weighed_fit l F Cn Tn
    weigh_8 k = in_8 l f Cn Tn h (omega (arith, a.shares)) ∙ to_frame

    module _ (k : w.shares + new ≤ f) where
      -- R29: the claims are above the needs
      pub weigh_9 : w.needs < w.claims → 9 ≡ weighed_fit l F Cn Tn
      weigh_9 j = in_9 l f Cn Tn h (omega (arith, a.shares)) (omega (arith, a.needs, a.claims)) ∙ to_frame

      -- none of the three holds
      pub weigh_0 : w.claims ≤ w.needs → 0 ≡ weighed_fit l F Cn Tn
      weigh_0 j = in_0 l f Cn Tn h (omega (arith, a.shares)) (omega (arith, a.needs, a.claims)) ∙ to_frame

-- ---- the whole ladder

-- what is said of slices that differ in length, or of lines that are not fit: z
pub unfit_is : {A : Type 0} (a f : Bool) (z x : A) → both a f ≡ false → z ≡ pick a (pick (not f) z x) z
unfit_is true true z x e = absurd (true_false refl e)
unfit_is true false z x e = refl
unfit_is false f z x e = refl

-- what is said of the others: x
pub fit_is : {A : Type 0} (a f : Bool) (z x : A) → both a f ≡ true → x ≡ pick a (pick (not f) z x) z
fit_is true true z x e = refl
fit_is true false z x e = absurd (true_false e refl)
fit_is false f z x e = absurd (true_false e refl)

module _ (e c n p : List ℕ) (Cn Tn : ℕ) {b : Bool} (eb : b ≡ fitting_in e c n p) where
  -- R24: the lines are not fit
  pub weigh_4 : b ≡ false → 4 ≡ weighed_in e c n p Cn Tn
  unfolding weighed
  weigh_4 m = unfit_is (alike e c n p) (fitting (lines_of e c n p)) 4 _ (sym eb ∙ m)

  module _ (m : b ≡ true) where
    -- R24: what is then known of the lines
    pub weigh_packed : Packed e c n p
    weigh_packed = packed_says e c n p (sym eb ∙ m)

    past_4 : {r : ℕ} → r ≡ pick (not (both (leb 1 Cn) (leb Cn Tn))) 6 (weighed_fit (lines_of e c n p) (frame_of (Tn ∷ periods_of (lines_of e c n p))) Cn Tn)
        → r ≡ weighed_in e c n p Cn Tn
    unfolding weighed
    past_4 q = q ∙ fit_is (alike e c n p) (fitting (lines_of e c n p)) 4 _ (sym eb ∙ m)

    module _ {q : Bool} (eq : q ≡ both (leb 1 Cn) (leb Cn Tn)) where
      -- R26: the new line does not fit its period
      pub weigh_6 : q ≡ false → 6 ≡ weighed_in e c n p Cn Tn
      weigh_6 h = past_4 (rw (sym eq ∙ h))

      -- the others, over the code's values: x and t for the new line, f the capped frame, w what the lines add up to, and new the new line's share
      module _ (h : q ≡ true) where
        -- R26: what is then known of the new line
        pub weigh_fits : (1 ≤ Cn) × (Cn ≤ Tn)
        weigh_fits = let s = both_says _ _ (sym eq ∙ h) in (leb-true _ _ s.0, leb-true _ _ s.1)

        -- R24, R26: what is then known of the lines and of the new one
        pub weigh_known : Packed e c n p × (1 ≤ Cn) × (Cn ≤ Tn)
        weigh_known = (weigh_packed, weigh_fits.0, weigh_fits.1)

        -- R18: past both, the first of the others
        pub weigh_on : {r : ℕ} → r ≡ weighed_fit (lines_of e c n p) (frame_of (Tn ∷ p)) Cn Tn → r ≡ weighed_in e c n p Cn Tn
        weigh_on s = past_4 (rw (sym eq ∙ h, periods_are e c n p weigh_packed.same_p) s)

        module _ {x t f : ℕ} (ex : x ≡ Cn) (et : t ≡ Tn) (ef : CappedFrame (t ∷ p) f) where
          frame_is : CappedFrame (Tn ∷ p) f
          frame_is = rw et at ef

          -- R27: the frame is too long
          pub ladder_7 : 1000000 < f → 7 ≡ weighed_in e c n p Cn Tn
          ladder_7 g = weigh_on (weigh_7 (lines_of e c n p) p Cn Tn frame_is g)

          module _ (g : f ≤ 1000000) {w : Weights} {new : ℕ} (a : AddedUp (lines_of e c n p) f w) (en : new ≡ x * (f / t)) where
            new_is : new ≡ Cn * (f / Tn)
            new_is = rw (ex, et) at en

            -- R28: the shares are above the whole
            pub ladder_8 : f < w.shares + new → 8 ≡ weighed_in e c n p Cn Tn
            ladder_8 j = weigh_on (weigh_8 (lines_of e c n p) p Cn Tn frame_is g a new_is j)

            module _ (j : w.shares + new ≤ f) where
              -- R29: the claims are above the needs
              pub ladder_9 : w.needs < w.claims → 9 ≡ weighed_in e c n p Cn Tn
              ladder_9 i = weigh_on (weigh_9 (lines_of e c n p) p Cn Tn frame_is g a new_is j i)

              -- none of them holds
              pub ladder_0 : w.claims ≤ w.needs → 0 ≡ weighed_in e c n p Cn Tn
              ladder_0 i = weigh_on (weigh_0 (lines_of e c n p) p Cn Tn frame_is g a new_is j i)

pick_none : (b m : Bool) (n : ℕ) → pick (not b) 4 (pick (not m) 6 n) ≡ 0 → m ≡ true
pick_none true true n e = refl
pick_none true false n e = absurd (omega arith)
pick_none false m n e = absurd (omega arith)

-- R26: where no ground holds, the new line fits its period
pub none_weighs : (l : List Stream) (Cn Tn : ℕ) → weighed l Cn Tn ≡ 0 → (1 ≤ Cn) × (Cn ≤ Tn)
unfolding weighed
none_weighs l Cn Tn e =
    let t = both_says (leb 1 Cn) (leb Cn Tn) (pick_none (fitting l) (both (leb 1 Cn) (leb Cn Tn)) _ e) in
    (leb-true 1 Cn t.0, leb-true Cn Tn t.1)
