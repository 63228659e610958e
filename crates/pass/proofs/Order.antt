-- The pass in time order: from one tick to the next the list of the ends before it gains that tick and nothing else, and the demand carried is the demand at it.
use Prim.Native.Nat.{ℕ, zero, suc, ◌+◌, ◌-◌, ◌*◌, ◌≤◌, ◌<◌, max}
use mathlib.Core.Path.{◌≡◌, refl, sym, ap, ap₂, subst, ◌∙◌}
use mathlib.Core.Bool.{Bool, true, false}
use mathlib.Core.Logic.{⊎_elim}
use mathlib.Core.List.{List}
use Rattle.std.specs.Prelude.{Option, None, Some, Ok, Err}
use native.Mathlib.Decide.{ℕ_discrete, dec_lt}
use native.Mathlib.Omega.{arith}
use lib.ListN.{length}
use Rattle.periods.specs.Multiples.{All}
use Rattle.periods.proofs.Lists.{all_appended, all_of_each}
use Rattle.line.specs.declared.Stream.{Stream}
use Rattle.line.specs.Streams.{ends_before}
use Rattle.line.specs.Demand.{ticks_short}
use Rattle.line.specs.Ends.{bound, greatest, soonest_of}
use Rattle.line.proofs.Search.{true_false}
use Rattle.line.proofs.Due.{due_before_lem}
use Rattle.line.proofs.Ends.{before_all, all_before, soonest_none, none_soonest, soonest_here, soonest_first, greatest_above, greatest_least}
use Rattle.line.proofs.Excess.{excess_short, excess_fine, ticks_short_lem}
use Rattle.sums.specs.Lines.{along, sum_of, longest, Fit}
use Rattle.sums.proofs.Adding.{sums_plus, sums_none}
use Rattle.pass.specs.declared.Due.{Due}
use Rattle.pass.specs.declared.NoPass.TheVariants.{Short}
use Rattle.pass.specs.Pass.{due_by, demand_of, ends_by, pass_over, excess_by, short_by, bound_by, pass_to}
use Rattle.pass.specs.Order.{nth, due_at, due_of, next_of, owed_of, Soonest, due_now, added_at, due_past, Places}
use Rattle.pass.proofs.TakingEnds.{ends_now, ends_later}
use Rattle.pass.proofs.NextEnd.{due_before, before_suc, NextEnd, next_start, next_end, next_least, next_small, next_on, before_on, due_none, due_taken, next_taken}

-- ---- the list of ends of the lines

module _ (Q : ℕ → Type 0) (last : ℕ) (a : ℕ → Stream) where
  -- what holds of every end of every line before `last` holds of the members of the list
  pub lines_all : (i n : ℕ) → ((k : ℕ) → i ≤ k → k < i + n → 1 ≤ (a k).period)
      → ((k : ℕ) → i ≤ k → k < i + n → (j : ℕ) → (a k).end + j * (a k).period < last → Q ((a k).end + j * (a k).period)) → All Q (ends_by last (along a i n))
  unfolding along ends_by
  lines_all i zero p f = tt
  lines_all i (suc n) p f =
      all_appended Q (ends_before (a i).end (a i).period last) (ends_by last (along a (suc i) n))
      (before_all Q (a i).end (a i).period last (p i (omega arith) (omega arith)) (f i (omega arith) (omega arith)))
      (lines_all (suc i) n (λ k x y. p k (omega arith) (omega arith)) (λ k x y. f k (omega arith) (omega arith)))

  -- and the other way round
  pub all_lines : (i n : ℕ) → ((k : ℕ) → i ≤ k → k < i + n → 1 ≤ (a k).period) → All Q (ends_by last (along a i n))
      → (k : ℕ) → i ≤ k → k < i + n → (j : ℕ) → (a k).end + j * (a k).period < last → Q ((a k).end + j * (a k).period)
  unfolding along ends_by
  all_lines i zero p all k x y = absurd (omega arith)
  all_lines i (suc n) p all k x y =
      let w = all_of_each Q (ends_before (a i).end (a i).period last) (ends_by last (along a (suc i) n)) all in
      elim (dec_lt i k) [
        | yes l ↦ all_lines (suc i) n (λ k x y. p k (omega arith) (omega arith)) w.1 k l (omega arith)
        | no l ↦ let z : k ≡ i = omega arith in rw z (all_before Q (a i).end (a i).period last (p i (omega arith) (omega arith)) w.0)
      ]

-- ---- from tick to tick

module _ (a : ℕ → Stream) (n Cn Tn last : ℕ) where
  abbrev lines : List Stream
  lines = along a 0 n

  abbrev short : ℕ → Bool
  short d = short_by (demand_of lines) d

  abbrev bounds : ℕ → ℕ
  bounds d = bound_by Cn Tn last (demand_of lines) d

  -- the ends before the tick d are passed: the lines stand there, `sum` was due before it, no end was short, and `start` is the greatest bound
  pub record Visited (dues : List Due) (sum start d : ℕ) : Type 0 where
    pub soon : Soonest (next_of dues) n last d
    pub stands : (k : ℕ) → k < n → NextEnd (a k) d (next_of dues k) (owed_of dues k)
    pub before : sum ≡ sum_of (due_before d) lines
    pub small : sum ≤ 65535
    pub fine : All (λ u. short u ≡ false) (ends_by d lines)
    pub best : start ≡ greatest bounds 0 (ends_by d lines)

  module _ (p : (k : ℕ) → k < n → 1 ≤ (a k).period) where
    -- what holds of every end before a tick holds of the list, and the other way round
    ends_all : (Q : ℕ → Type 0) (u : ℕ) → ((k : ℕ) → k < n → (j : ℕ) → (a k).end + j * (a k).period < u → Q ((a k).end + j * (a k).period)) → All Q (ends_by u lines)
    ends_all Q u f = lines_all Q u a 0 n (λ k x y. p k (omega arith)) (λ k x y. f k (omega arith))

    all_ends : (Q : ℕ → Type 0) (u : ℕ) → All Q (ends_by u lines) → (k : ℕ) → k < n → (j : ℕ) → (a k).end + j * (a k).period < u → Q ((a k).end + j * (a k).period)
    all_ends Q u all k l = all_lines Q u a 0 n (λ k x y. p k (omega arith)) all k (omega arith) (omega arith)

    -- R9: up to the first tick there is no end
    pub order_start : {dues : List Due} {d : ℕ} → ((k : ℕ) → k < n → next_of dues k ≡ (a k).end) → ((k : ℕ) → k < n → owed_of dues k ≡ (a k).remaining)
        → Soonest (next_of dues) n last d → Visited dues 0 0 d
    order_start {dues} {d} e o s =
        let first : (k : ℕ) → k < n → d ≤ (a k).end = λ k h. omega (arith, s.below k h, e k h) in
        let none' : (Q : ℕ → Type 0) → All Q (ends_by d lines) = λ Q. ends_all Q d (λ k h j b. absurd (omega (arith, first k h))) in
        record {
          soon = s;
          stands = λ k h. rw (e k h, o k h) (next_on (next_start (a k)) d (omega arith) (first k h));
          before = sym (sums_none (due_before d) a 0 n (λ k x y. due_before_lem (1 + (a k).end) (a k).remaining (a k).need (a k).period d (omega (arith, first k (omega arith)))));
          small = omega arith;
          fine = none' (λ u. short u ≡ false);
          best = omega (arith, greatest_least bounds 0 0 (ends_by d lines) (omega arith) (none' (λ u. bounds u ≤ 0)));
        }

    module _ {dues : List Due} {sum start d : ℕ} (v : Visited dues sum start d) where
      -- the numbers fit: what falls due is what remains of a line, or its need
      pub order_places : {first : List Due} {needs gaps : List ℕ} → Places first needs gaps → n ≡ length gaps → length dues ≡ length first → ((k : ℕ) → k < n → Fit (a k))
          → Places dues needs gaps
      order_places w e x f = record {
        few = w.few;
        needy = w.needy;
        room = omega (arith, w.room);
        small = λ k h. let g = f k (omega arith) in next_small (v.stands k (omega arith)) longest (omega (arith, g.rest, g.less, g.wide)) (omega (arith, g.less, g.wide));
        near = w.near;
      }

      module _ (h : d < last) where
        -- R9: the tick is an end of a line
        pub visit : (k : ℕ) × (k < n) × ((j : ℕ) × (d ≡ (a k).end + j * (a k).period))
        visit =
            ⊎_elim (λ e. absurd (omega arith))
            (λ w. let s = next_end (v.stands w.0 w.1) in (w.0, w.1, (s.0, sym w.2 ∙ s.1))) v.soon.there

        module _ (needs gaps : List ℕ) (dues' : List Due) (m : (k : ℕ) → k < n → due_of dues' k ≡ due_past dues needs gaps d k)
            (same_n : (k : ℕ) → k < n → nth needs k ≡ (a k).need) (same_p : (k : ℕ) → k < n → nth gaps k ≡ (a k).period) where
          module _ (k : ℕ) (l : k < n) where
            after : (next_of dues k ≡ d → ⊥) → d < next_of dues k
            after g =
                elim (dec_lt d (next_of dues k)) [
                  | yes q ↦ q
                  | no q ↦ absurd (g (omega (arith, v.soon.below k l)))
                ]

            -- R9, R10: past the tick the line stands at its next end
            past : NextEnd (a k) (1 + d) (next_of dues' k) (owed_of dues' k)
            past =
                elim (ℕ_discrete (next_of dues k) d) [
                  | yes g ↦
                      let now = m k l ∙ ends_now d (due_of dues k) (due_at (d + nth gaps k) (nth needs k)) (due_of dues k) g in
                      let same = ap₂ (λ (u r : ℕ). due_at (d + u) r) (same_p k l) (same_n k l) in
                      subst (λ (y : Due). NextEnd (a k) (1 + d) y.at y.owed) (sym (now ∙ same)) (next_taken (v.stands k l) (p k l) (sym g))
                  | no g ↦
                      subst (λ (y : Due). NextEnd (a k) (1 + d) y.at y.owed)
                      (sym (m k l ∙ ends_later d (due_of dues k) (due_at (d + nth gaps k) (nth needs k)) (due_of dues k) g))
                      (next_on (v.stands k l) (1 + d) (omega arith) (let q = after g in omega arith))
                ]

            -- R10: what is due of it at the tick
            falls_due : due_by d (a k) ≡ due_before d (a k) + due_now dues d k
            falls_due =
                elim (ℕ_discrete (next_of dues k) d) [
                  | yes g ↦ omega (arith, due_taken (v.stands k l) (p k l) (sym g), ends_now d (due_of dues k) (owed_of dues k) 0 g)
                  | no g ↦ omega (arith, due_none (v.stands k l) (after g), ends_later d (due_of dues k) (owed_of dues k) 0 g)
                ]

          -- R12: what is carried, with what falls due at the tick, is the demand at it
          sum_is : {x : ℕ} → x ≡ added_at dues n d → sum + x ≡ demand_of lines d
          sum_is e =
              omega (arith, e, v.before, sums_plus (due_by d) a (due_before d) a (due_now dues d) (λ k. k) 0 n (λ k x y. falls_due k (omega arith)))

          -- R30, R103: the tick is short, and no end before it is: it is the soonest such end, and the excess there is what the demand has over it
          pub order_short : {x : ℕ} → x ≡ added_at dues n d → d < sum + x → Err (Short (record { after = d; excess = sum + x - d })) ≡ pass_to last lines Cn Tn
          unfolding pass_over
          order_short {x} e g = rw found (ap (λ (y : ℕ). Err (Short (record { after = d; excess = y }))) over)
            where
              here : short d ≡ true
              here = excess_short (demand_of lines d) d (omega (arith, sum_is e))

              over : sum + x - d ≡ ticks_short (excess_by (demand_of lines) d)
              over = omega (arith, sum_is e, ticks_short_lem (demand_of lines d) d)

              at : (Q : ℕ → Type 0) → All Q (ends_by last lines) → Q d
              at Q all = let w = visit.2 in rw w.1 (all_ends Q last all visit.0 visit.1 w.0 (omega (arith, w.1)))

              after_all : All (λ u. short u ≡ true → d ≤ u) (ends_by last lines)
              after_all =
                  ends_all (λ u. short u ≡ true → d ≤ u) last
                  (λ k l j b t.
                  elim (dec_lt ((a k).end + j * (a k).period) d) [
                    | yes q ↦ absurd (true_false t (all_ends (λ u. short u ≡ false) d v.fine k l j q))
                    | no q ↦ omega arith
                  ])

              go : (o : Option ℕ) → soonest_of short (ends_by last lines) ≡ o → o ≡ Some d
              go None q = absurd (true_false here (at (λ u. short u ≡ false) (soonest_none short (ends_by last lines) q)))
              go (Some u) q =
                  let w = soonest_here short (λ y. short y ≡ true → d ≤ y) u (ends_by last lines) q after_all in
                  let f = at (λ y. short y ≡ true → u ≤ y) (soonest_first short u (ends_by last lines) q) here in
                  ap Some (omega (arith, w.1 w.0, f))

              found : soonest_of short (ends_by last lines) ≡ Some d
              found = go (soonest_of short (ends_by last lines)) refl

          module _ {d' : ℕ} (s : Soonest (next_of dues') n last d') where
            -- the next tick comes later
            pub tick_later : d < d'
            tick_later = ⊎_elim (λ e. omega arith) (λ w. omega (arith, (past w.0 w.1).ahead, w.2)) s.there

            -- R10: what was due of a line before it
            before_past : (k : ℕ) → k < n → due_before d' (a k) ≡ due_before d (a k) + due_now dues d k
            before_past k l = before_on (past k l) d' (let q = tick_later in omega arith) (s.below k l) ∙ before_suc d (a k) ∙ falls_due k l

            -- R9: the ends before it are those before the tick, and the tick
            pub ends_on : (Q : ℕ → Type 0) → All Q (ends_by d lines) → Q d → All Q (ends_by d' lines)
            ends_on Q all here =
                ends_all Q d'
                (λ k l j b.
                elim (dec_lt ((a k).end + j * (a k).period) d) [
                  | yes g ↦ all_ends Q d all k l j g
                  | no g ↦
                      elim (ℕ_discrete ((a k).end + j * (a k).period) d) [
                        | yes z ↦ rw z here
                        | no z ↦ absurd (omega (arith, s.below k l, next_least (past k l) j (omega arith)))
                      ]
                ])

            pub ends_back : (Q : ℕ → Type 0) → All Q (ends_by d' lines) → All Q (ends_by d lines) × Q d
            ends_back Q all =
                let z = visit.2 in (
                  ends_all Q d (λ k l j b. all_ends Q d' all k l j (omega (arith, tick_later))),
                  rw z.1 (all_ends Q d' all visit.0 visit.1 z.0 (omega (arith, z.1, tick_later))),
                )

            -- R14: the greatest bound is that before the tick, or the tick's
            most_on : max start (bounds d) ≡ greatest bounds 0 (ends_by d' lines)
            most_on =
                let top = max start (bounds d) in
                let before = greatest_above bounds 0 top (ends_by d lines) (omega (arith, v.best)) in
                let now = greatest bounds 0 (ends_by d' lines) in
                let all = ends_back (λ u. bounds u ≤ now) (greatest_above bounds 0 now (ends_by d' lines) (omega arith)) in
                omega (
                  arith,
                  v.best,
                  greatest_least bounds 0 top (ends_by d' lines) (omega arith) (ends_on (λ u. bounds u ≤ top) before (omega arith)),
                  greatest_least bounds 0 now (ends_by d lines) (omega arith) all.0,
                  all.1,
                )

            -- the end d is passed
            pub order_on : {x b start' : ℕ} → x ≡ added_at dues n d → sum + x ≤ d → d ≤ 65535 → b ≡ bound Cn Tn last d (d - (sum + x)) → start' ≡ max start b
                → Visited dues' (sum + x) start' d'
            order_on e f w b t = record {
              soon = s;
              stands = λ k l. next_on (past k l) d' (let q = tick_later in omega arith) (s.below k l);
              before = omega (arith, e, v.before, sums_plus (due_before d') a (due_before d) a (due_now dues d) (λ k. k) 0 n (λ k x y. before_past k (omega arith)));
              small = omega arith;
              fine = ends_on (λ u. short u ≡ false) v.fine (excess_fine (demand_of lines d) d (omega (arith, sum_is e)));
              best = t ∙ ap (max start) (b ∙ ap (λ (y : ℕ). bound Cn Tn last d (d - y)) (sum_is e)) ∙ most_on;
            }

      -- R30, R14: no tick is left
      pub order_end : last ≤ d → Ok start ≡ pass_to last lines Cn Tn
      unfolding pass_over
      order_end h =
          let z : d ≡ last = omega (arith, v.soon.within) in
          let m : start ≡ greatest bounds 0 (ends_by last lines) = v.best ∙ ap (λ (x : ℕ). greatest bounds 0 (ends_by x lines)) z in
          rw (none_soonest short (ends_by last lines) (rw z at v.fine)) (ap Ok m)
