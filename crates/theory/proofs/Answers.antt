-- The computed answer is a right answer: each test decides its ground, in the order of R18.
use Rattle.std.specs.Prelude.{Ok, Err, Option, None, Some}
use mathlib.Core.Path.{◌≡◌, refl, sym, ap, ◌∙◌}
use mathlib.Core.Logic.{inl, inr}
use mathlib.Core.Bool.{Bool, true, false, not}
use mathlib.Core.List.{List, [], ◌∷◌}
use Prim.Native.Nat.{ℕ, ◌+◌, ◌*◌, ◌-◌, ◌/◌, ◌^◌, ◌≤◌}
use native.Mathlib.Omega.{arith}
use borrow.Author.Tests.{not-true, not-false, ltb-true, ltb-false}
use lib.Dec.{ltb, leb}
use lib.IntN.{pos}
use lib.ListN.{length}
use Rattle.line.specs.declared.Slot.{Slot}
use Rattle.table.specs.declared.Table.{Table}
use Rattle.table.specs.declared.Request.{Request}
use Rattle.table.specs.declared.Refusal.{Refusal}
use Rattle.line.specs.Slots.{pick, both, at, Each, total, is_nothing, is_waiting, Waits, or_else, lowest, lowest_of}
use Rattle.table.specs.Words.{Said}
use Rattle.line.specs.Sound.{Sound, sound}
use Rattle.line.specs.Demand.{demands, ticks_short}
use Rattle.table.specs.Counts.{accounted, fault}
use Rattle.table.specs.Grounds.{entry, asked, Late, Full, Waiters, Unsound, Misstretched, Misfit, Wide, Overload, Behind, Short, Row, row, row_short, AnswersBy, Answers}
use Rattle.line.specs.Stretch.{Barred, barred}
use Rattle.line.specs.Shares.{frame, share, claim, full}
use Rattle.std.specs.Prelude.{is_none}
use Rattle.table.specs.Ask.{refused_at, refused_if, refused_short, ask_in, ask_of}
use Rattle.line.specs.Ends.{excess_at, first_short}
use Rattle.line.proofs.Excess.{excess_over, excess_is, within_excess, ticks_short_lem}
use Rattle.line.proofs.Search.{true_false, lowest_is, lowest_none}
use Rattle.line.proofs.Sound.{sound_says, unsound_says, barred_says, barred_not}
use Rattle.table.proofs.Counts.{faultless}
use Rattle.theory.specs.Fine.{Unbarred}
use Rattle.theory.proofs.Start.{start_least}
use Rattle.theory.proofs.Ten.{alone_without_short_end, FirstShort, found_short}
use Rattle.theory.proofs.Stretched.{sound_stretched}
use Rattle.theory.proofs.Tests.{lowest_of_lem, none_of, all_sound, nothing_says, some_of, none_is, fits_says, fits_not}
use Rattle.theory.proofs.Granted.{given}

-- ---- one row of the refusals' table

-- a ground that does not hold is passed over
pass_row : (r : Row) (rs : List Row) (t : Table) (q : Request) (a : Said ℕ)
    → ((x : Refusal) → r t q x → ⊥) → AnswersBy rs t q a → AnswersBy (r ∷ rs) t q a
pass_row r rs t q (Ok x) n h = ((n, h.0), h.1)
pass_row r rs t q (Err x) n h = inr (n, h)

-- a test with place 0 that decides its ground
row_if : (n : ℕ) (H : Table → Request → ℕ → Type 0) (rs : List Row) (t : Table) (q : Request) (b : Bool) (a : Said ℕ)
    → (b ≡ true → H t q 0) → (b ≡ false → (k : ℕ) → H t q k → ⊥)
    → (b ≡ false → AnswersBy rs t q a) → AnswersBy (row n H ∷ rs) t q ((refused_if b n a))
row_if n H rs t q true a holds fails rest = inl (0, holds refl, refl)
row_if n H rs t q false a holds fails rest = pass_row (row n H) rs t q a (λ x h. fails refl h.0 h.1) (rest refl)

-- a test that finds the place
row_at : (n : ℕ) (H : Table → Request → ℕ → Type 0) (rs : List Row) (t : Table) (q : Request) (o : Option ℕ) (a : Said ℕ)
    → ((k : ℕ) → o ≡ Some k → H t q k) → (o ≡ None → (k : ℕ) → H t q k → ⊥)
    → (o ≡ None → AnswersBy rs t q a) → AnswersBy (row n H ∷ rs) t q ((refused_at o n a))
row_at n H rs t q (Some k) a holds fails rest = inl (k, holds k refl, refl)
row_at n H rs t q None a holds fails rest = pass_row (row n H) rs t q a (λ x h. fails refl h.0 h.1) (rest refl)

-- ---- ground 10, whose refusal says more

-- R30, R103: the search that finds its tick
row_short_lem : (t : Table) (q : Request) (over : ℕ → ℕ) (o : Option ℕ) (a : Said ℕ)
    → ((d : ℕ) → o ≡ Some d → Short t q d (over d)) → (o ≡ None → (d x : ℕ) → Short t q d x → ⊥)
    → (o ≡ None → AnswersBy [] t q a) → AnswersBy (row_short ∷ []) t q ((refused_short o over a))
row_short_lem t q over (Some d) a holds fails rest = inl (d, over d, holds d refl, refl)
row_short_lem t q over None a holds fails rest = pass_row row_short [] t q a (λ y h. fails refl h.0 h.1 h.2) (rest refl)

-- R103: the first short end, in the rules' words
pub first_is : (t : Table) (q : Request) (d : ℕ) → FirstShort t.clock (asked t q) d → Short t q d (ticks_short (excess_at t.clock (asked t q) d))
first_is t q d w =
    let t0 = t.clock in
    let all = demands t0 (asked t q) d in
    let above = w.short.above in
    record {
      from_clock = w.short.from_clock;
      by = excess_over all (d - t0) (omega arith) ∙ ap pos (sym (ticks_short_lem all (d - t0)));
      above = omega (arith, ticks_short_lem all (d - t0));
      first = λ u h b. within_excess (demands t0 (asked t q) u) (u - t0) (w.none_before u h b);
    }

-- ---- ground 4, which has two parts

-- R24, R96: the fault that is found is a ground
fault_holds : (t : Table) (q : Request) (k : ℕ) → fault t ≡ Some k → Unsound t q k
fault_holds t q k = go (lowest_of (λ h. not (sound h)) t.slots) refl (ltb t.clock (accounted t)) refl
  where
    l : List Slot
    l = t.slots

    go : (o : Option ℕ) → lowest_of (λ h. not (sound h)) l ≡ o → (b : Bool) → ltb t.clock (accounted t) ≡ b → or_else o (pick b (Some 0) None) ≡ Some k → Unsound t q k
    go (Some j) e b g z =
        inl (lowest_of_lem (λ i. Sound (at l i) → ⊥) (λ i. not (sound (at l i))) (length l) k
        (λ i e. unsound_says (at l i) (not-true (sound (at l i)) e)) (λ i u e. u (sound_says (at l i) (not-false (sound (at l i)) e))) (e ∙ z))
    go None e true g z = let y : k ≡ 0 = cc in inr (all_sound l e, ltb-true t.clock (accounted t) g, y)
    go None e false g z = let y : ◌≡◌ {A = ℕ} 0 1 = cc in absurd (omega arith)

-- R24, R96: and where none is found there is no ground
fault_fails : (t : Table) (q : Request) → fault t ≡ None → (k : ℕ) → Unsound t q k → ⊥
fault_fails t q e k (inl h) = h.here (all_sound t.slots (faultless t e).0 k h.inside)
fault_fails t q e k (inr h) = omega (arith, (faultless t e).1, h.1)

-- ---- grounds 7 to 10

-- the grounds that are left to test, from each number on
abbrev rows_from_ten : List Row
rows_from_ten = row_short ∷ []

abbrev rows_from_nine : List Row
rows_from_nine = row 9 Behind ∷ rows_from_ten

abbrev rows_from_eight : List Row
rows_from_eight = row 8 Overload ∷ rows_from_nine

abbrev rows_from_seven : List Row
rows_from_seven = row 7 Wide ∷ rows_from_eight

abbrev rows_from_six : List Row
rows_from_six = row 6 Misfit ∷ rows_from_seven

abbrev rows_from_five : List Row
rows_from_five = row 5 Misstretched ∷ rows_from_six

abbrev rows_from_four : List Row
rows_from_four = row 4 Unsound ∷ rows_from_five

abbrev rows_from_three : List Row
rows_from_three = row 3 Waiters ∷ rows_from_four

abbrev rows_from_two : List Row
rows_from_two = row 2 Full ∷ rows_from_three

module _ (t : Table) (q : Request) (sound : Each Sound (asked t q))
    (Some : 1 ≤ q.need) (fits : q.need ≤ q.period) where
  abbrev F : ℕ
  F = frame (asked t q) q.period

  from_seven : AnswersBy rows_from_seven t q
      ((ask_in t.clock F (asked t q) q.need q.period))
  unfolding ask_in
  from_seven =
      row_if 7 Wide rows_from_eight t q (ltb 1000000 F) _ (λ e. (ltb-true 1000000 F e, refl)) (λ e k h. omega (arith, ltb-false 1000000 F e, h.0))
      (λ e7. row_if 8 Overload rows_from_nine t q (ltb F all_shares) _ (λ e. (ltb-true F all_shares e, refl)) (λ e k h. omega (arith, ltb-false F all_shares e, h.0))
      (λ e8. row_if 9 Behind rows_from_ten t q (ltb need due) _ (λ e. (ltb-true need due e, refl)) (λ e k h. omega (arith, ltb-false need due e, h.0))
      (λ e9. let g = given t q sound Some fits (ltb-false F all_shares e8) (ltb-false need due e9) in
      row_short_lem t q _ (first_short t.clock (asked t q)) _
      (λ d e. first_is t q d (found_short F t.clock (asked t q) q.need q.period d g e))
      (λ e d x h.
      omega (
        arith,
        h.above,
        excess_is (demands t.clock (asked t q) d) (d - t.clock) x h.by,
        alone_without_short_end F t.clock (asked t q) q.need q.period g e d h.from_clock,
      ))
      (λ e10. (tt, start_least F t.clock (asked t q) q.need q.period g (alone_without_short_end F t.clock (asked t q) q.need q.period g e10))))))
    where
      all_shares : ℕ
      all_shares = total (share F) (asked t q) + q.need * (F / q.period)

      need : ℕ
      need = total (full F) (asked t q)

      due : ℕ
      due = total (claim F) (asked t q)

-- ---- grounds 1 to 6, and the whole

-- R41: the computed answer satisfies the relation
pub ask_answers : (t : Table) (q : Request) → Answers t q ((ask_of t q))
unfolding ask_of
ask_answers t q =
    row_if 1 Late rows_from_two t q (ltb (2 ^ 48 - 65536) t.clock) _
    (λ e. (ltb-true (2 ^ 48 - 65536) t.clock e, refl)) (λ e k h. omega (arith, ltb-false (2 ^ 48 - 65536) t.clock e, h.0))
    (λ e1. row_if 2 Full rows_from_three t q (is_none (lowest_of is_nothing l)) _
    (λ e. ((λ i b z. true_false (ap is_nothing z) (lowest_none (λ i. is_nothing (at l i)) n (none_is (lowest_of is_nothing l) e) i b)), refl))
    (λ e k h. let w = some_of (lowest_of is_nothing l) e in
    let v = lowest_is (λ i. is_nothing (at l i)) n w.1 in
    h.0 w.0 v.inside (nothing_says (at l w.0) v.here))
    (λ e2. row_at 3 Waiters rows_from_four t q (lowest_of is_waiting l) _
    (λ k e. lowest_of_lem (λ i. Waits (at l i)) (λ i. is_waiting (at l i)) n k (λ i v. v) (λ i v e. true_false v e) e)
    (λ e k h. none_of (λ i. Waits (at l i)) (λ i. is_waiting (at l i)) n (λ i v e. true_false v e) e k h.inside h.here)
    (λ e3. row_at 4 Unsound rows_from_five t q (fault t) _ (fault_holds t q) (fault_fails t q)
    (λ e4. row_at 5 Misstretched rows_from_six t q (lowest (λ i. barred (entry q i) (at l i)) n) _
    (λ k e. lowest_of_lem (λ i. Barred (entry q i) (at l i)) (λ i. barred (entry q i) (at l i)) n k (λ i. barred_says (entry q i) (at l i)) (λ i. barred_not (entry q i) (at l i)) e)
    (λ e k h. none_of (λ i. Barred (entry q i) (at l i)) (λ i. barred (entry q i) (at l i)) n (λ i. barred_not (entry q i) (at l i)) e k h.inside h.here)
    (λ e5. row_if 6 Misfit rows_from_seven t q (not (both (leb 1 q.need) (leb q.need q.period))) _
    (λ e. (fits_not q.need q.period (not-true (both (leb 1 q.need) (leb q.need q.period)) e), refl))
    (λ e k h. h.0 (fits_says q.need q.period (not-false (both (leb 1 q.need) (leb q.need q.period)) e)))
    (λ e6. let f = fits_says q.need q.period (not-false (both (leb 1 q.need) (leb q.need q.period)) e6) in
    let unbarred : Unbarred l (entry q) = none_of (λ i. Barred (entry q i) (at l i)) (λ i. barred (entry q i) (at l i)) n (λ i. barred_not (entry q i) (at l i)) e5 in
    from_seven t q
    (sound_stretched l (entry q) unbarred (all_sound l (faultless t e4).0))
    f.0 f.1))))))
  where
    l : List Slot
    l = t.slots

    n : ℕ
    n = length t.slots
