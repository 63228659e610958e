-- Every tick is accounted for, R79: what the list of the slots that ran says of the counts.
use Rattle.std.specs.Prelude.{Ok, Err, Option, None, Some}
use Rattle.table.specs.Words.{Said}
use Prim.Native.Nat.{ℕ, ◌+◌, ◌-◌, ◌^◌, ◌<◌}
use mathlib.Core.Path.{◌≡◌, refl, sym, ap, ◌∙◌, subst}
use mathlib.Core.Bool.{Bool, true, false}
use mathlib.Core.List.{List, [], ◌∷◌, ◌++◌}
use native.Mathlib.Omega.{arith}
use borrow.Author.Tests.{eqb-true, eqb-false, eq-eqb, ne_eqb}
use lib.Dec.{eqb, ltb}
use lib.ListN.{length, get_or, get_or-replicate}
use lib.Seq.{get_or-set_same, get_or-set_other}
use Rattle.line.specs.declared.Held.TheVariants.{Waiting}
use Rattle.line.specs.declared.Slot.{Slot}
use Rattle.line.specs.Slots.{pick, wait_with, empty, begun, at, is_nothing, lowest_of}
use Rattle.line.specs.Leave.{let_go}
use Rattle.line.proofs.Streams.{nothing_passed}
use Rattle.line.proofs.Search.{true_false, lowest_is}
use Rattle.table.specs.declared.Table.{Table}
use Rattle.table.specs.declared.Acted.{Acted}
use Rattle.table.specs.Words.{empty_table}
use Rattle.table.specs.Counts.{had_by, counting, settle}
use Rattle.table.specs.Ask.{ask_of}
use Rattle.table.specs.Admit.{new_line, put_at, admit_with}
use Rattle.table.specs.Step.{choose, serve, departs_in, ticked}
use Rattle.table.specs.Runs.{Act, asking, admitting, stepping, leaving, after, run, ran_in, ran_by, trace, names, is_slot, times, is_idle, idles, placed_by, places, anew, since_from}
use Rattle.table.proofs.Counts.{idle_after_lem, settling_idle}
use Rattle.table.proofs.LettingGo.{left_is}
use Rattle.theory.proofs.Numbers.{split}
use Rattle.theory.proofs.Granted.{says_start, granted}
use Rattle.theory.proofs.Trace.{at_pass}
use Rattle.promises.specs.Demand3.{admitted_table}
use Rattle.promises.specs.Counted.{EveryTickAccountedFor, Unplaced, Occupied, HadSinceAdmitted, NothingHadBefore}
use Rattle.promises.proofs.Good.{Good, at_last, good_empty, good_after, good_reached, slot_empty}
use Rattle.promises.proofs.Kept.{admit_counts, admitted_new, leave_counts, leave_at_lem, step_table, choice_may, serve_keeps}
use Rattle.promises.proofs.Booking.{tick_length, stayed, tick_had, let_go_had, nothing_served, nothing_let_go, nothing_admitted, Booked, booked_empty, booked_after, booked_reached}

-- ---- the count of one slot

times_append : (k : ℕ) (xs ys : List (Option ℕ)) → times k (xs ++ ys) ≡ times k xs + times k ys
times_append k [] ys = omega arith
times_append k (o ∷ xs) ys = omega (arith, times_append k xs ys)

-- what ran since, where an act begins the list anew or not
times_since : (k : ℕ) (b : Bool) (ran xs : List (Option ℕ)) → times k (pick b [] (ran ++ xs)) ≡ pick b 0 (times k ran + times k xs)
times_since k true ran xs = refl
times_since k false ran xs = times_append k ran xs

-- R42: 0 for the slot of the new line, and as before for any other
put_had : (o : Option ℕ) (l : List ℕ) (k : ℕ) → k < length l → get_or (put_at o 0 l) k 0 ≡ pick (names k o) 0 (get_or l k 0)
put_had None l k h = refl
put_had (Some j) l k h = go (eqb j k) refl
  where
    go : (b : Bool) → eqb j k ≡ b → get_or (put_at (Some j) 0 l) k 0 ≡ pick b 0 (get_or l k 0)
    go true e = let z : j ≡ k = eqb-true j k e in rw z (get_or-set_same l k 0 0 h)
    go false e = get_or-set_other l j k 0 0 (λ z. eqb-false j k e (sym z))

-- R97, R42, R101: what an act does to the count of slot k, where a line is there after it
act_had : (a : Act) (t : Table) (k : ℕ) → Good t → k < length t.had → is_nothing (at (after a t).slots k) ≡ false
    → had_by (after a t) k ≡ pick (names k (places a t)) 0 (had_by t k + times k (ran_by a t))
act_had (asking q) t k g h = λ f. omega arith
act_had (admitting q) t k g h = λ f. go (ask_of t q)
  where
    go : (a : Said ℕ) → had_by (admit_with t q a).table k ≡ pick (names k (placed_by a t)) 0 (had_by t k + 0)
    go (Ok r) = put_had (lowest_of is_nothing t.slots) t.had k h ∙ ap (pick (names k (lowest_of is_nothing t.slots)) 0) (omega arith)
    go (Err x) = omega arith
act_had stepping t k g h =
    split (2 ^ 48) t.clock
    (λ l. subst (λ (s : Acted (Option ℕ)). is_nothing (at s.table.slots k) ≡ false → had_by s.table k ≡ had_by t k + times k (ran_in s.answer)) (sym (at_last t l)) (λ f. omega arith))
    (λ l. let o = choose t in
    let e : times k (ran_in (ticked o t).answer) ≡ is_slot k o + 0 = refl in
    subst (λ (s : Acted (Option ℕ)). is_nothing (at s.table.slots k) ≡ false → had_by s.table k ≡ had_by t k + times k (ran_in s.answer)) (sym (step_table t g l))
    (λ f. omega (arith, tick_had o t k h (stayed o t.slots k f), e)))
act_had (leaving n) t k g h =
    left_is (λ u. is_nothing (at u.slots k) ≡ false → had_by u k ≡ had_by t k + 0) t n (λ f. omega arith) (λ g m f. omega (arith, let_go_had n t k m f))

-- an act leaves as many counts
act_length : (a : Act) (t : Table) → Good t → length (after a t).had ≡ length t.had
act_length (asking q) t g = refl
act_length (admitting q) t g = admit_counts t q
act_length stepping t g =
    split (2 ^ 48) t.clock
    (λ l. ap (λ (s : Acted (Option ℕ)). length s.table.had) (at_last t l))
    (λ l. ap (λ (s : Acted (Option ℕ)). length s.table.had) (step_table t g l) ∙ tick_length (choose t) t)
act_length (leaving n) t g = leave_counts t n

-- ---- since the present line was admitted

-- R79: the count is 0 where the list begins anew, and else has the ticks more
since_had : (a : Act) (t : Table) (k : ℕ) → Good t → Booked t → k < length t.had → had_by (after a t) k ≡ pick (anew k a t) 0 (had_by t k + times k (ran_by a t))
since_had a t k g b h =
    go (names k (places a t)) (is_nothing (at (after a t).slots k)) (λ e. (booked_after a t g b).spare k inside e) (λ e. act_had a t k g h e) refl
  where
    inside : k < length (after a t).slots
    inside = omega (arith, h, act_length a t g, (booked_after a t g b).long)

    go : (p c : Bool) → (is_nothing (at (after a t).slots k) ≡ true → had_by (after a t) k ≡ 0)
        → (is_nothing (at (after a t).slots k) ≡ false → had_by (after a t) k ≡ pick p 0 (had_by t k + times k (ran_by a t)))
        → is_nothing (at (after a t).slots k) ≡ c → had_by (after a t) k ≡ pick (pick p true c) 0 (had_by t k + times k (ran_by a t))
    go true false gone there e = there e
    go false false gone there e = there e
    go true true gone there e = gone e
    go false true gone there e = gone e

-- R79: where `ran` told the count before a run, what ran since tells it after
each_from : (acts : List Act) (t : Table) (k : ℕ) (ran : List (Option ℕ)) → Good t → Booked t → k < length t.had → had_by t k ≡ times k ran
    → had_by (run acts t) k ≡ times k (since_from k ran acts t)
each_from [] t k ran g b h e = e
each_from (a ∷ rest) t k ran g b h e =
    let c = anew k a t in
    each_from rest (after a t) k (pick c [] (ran ++ ran_by a t)) (good_after a t g) (booked_after a t g b) (rw (act_length a t g) h)
    (since_had a t k g b h ∙ ap (λ (n : ℕ). pick c 0 (n + times k (ran_by a t))) e ∙ sym (times_since k c ran (ran_by a t)))

-- R43: no line is put where one is
not_placed : (a : Act) (t : Table) (k : ℕ) → is_nothing (at t.slots k) ≡ false → names k (places a t) ≡ false
not_placed (asking q) t k e = refl
not_placed (admitting q) t k e = go (ask_of t q)
  where
    at_lowest : (o : Option ℕ) → lowest_of is_nothing t.slots ≡ o → names k o ≡ false
    at_lowest None f = refl
    at_lowest (Some j) f =
        ne_eqb j k (λ z. true_false (lowest_is (λ i. is_nothing (at t.slots i)) (length t.slots) f).here (ap (λ (i : ℕ). is_nothing (at t.slots i)) z ∙ e))

    go : (a : Said ℕ) → names k (placed_by a t) ≡ false
    go (Ok r) = at_lowest (lowest_of is_nothing t.slots) refl
    go (Err x) = refl
not_placed stepping t k e = refl
not_placed (leaving n) t k e = refl

-- R79: where the line is there all the time, its count grows by every time that the list names the slot
had_occupied : (acts : List Act) (t : Table) (k : ℕ) → Good t → k < length t.had → is_nothing (at t.slots k) ≡ false → Occupied k acts t
    → had_by (run acts t) k ≡ had_by t k + times k (trace acts t)
had_occupied [] t k g h f u = omega arith
had_occupied (a ∷ rest) t k g h f u =
    let e = act_had a t k g h u.0 ∙ ap (λ (b : Bool). pick b 0 (had_by t k + times k (ran_by a t))) (not_placed a t k f) in
    omega (arith, had_occupied rest (after a t) k (good_after a t g) (rw (act_length a t g) h) u.0 u.1, e, times_append k (ran_by a t) (trace rest (after a t)))

-- ---- the idle count

idles_append : (xs ys : List (Option ℕ)) → idles (xs ++ ys) ≡ idles xs + idles ys
idles_append [] ys = omega arith
idles_append (o ∷ xs) ys = omega (arith, idles_append xs ys)

act_idle : (a : Act) (t : Table) → Good t → (after a t).idle ≡ t.idle + idles (ran_by a t)
act_idle (asking q) t g = omega arith
act_idle (admitting q) t g = go (ask_of t q)
  where
    go : (a : Said ℕ) → (admit_with t q a).table.idle ≡ t.idle + 0
    go (Ok r) = omega arith
    go (Err x) = omega arith
act_idle stepping t g =
    split (2 ^ 48) t.clock
    (λ l. subst (λ (s : Acted (Option ℕ)). s.table.idle ≡ t.idle + idles (ran_in s.answer)) (sym (at_last t l)) (omega arith))
    (λ l. let o = choose t in
    let e : idles (ran_in (ticked o t).answer) ≡ is_idle o + 0 = refl in
    subst (λ (s : Acted (Option ℕ)). s.table.idle ≡ t.idle + idles (ran_in s.answer)) (sym (step_table t g l)) (omega (arith, settling_idle (departs_in o t.slots) (length t.slots) (counting o t), idle_after_lem o t.idle, e)))
act_idle (leaving n) t g = left_is (λ u. u.idle ≡ t.idle + 0) t n (omega arith) (λ f m. go (is_nothing (let_go (at t.slots n))))
  where
    go : (b : Bool) → (pick b (settle n t) t).idle ≡ t.idle + 0
    go true = omega arith
    go false = omega arith

-- R79: the idle count grows by every time that the list names none
idle_from : (acts : List Act) (t : Table) → Good t → (run acts t).idle ≡ t.idle + idles (trace acts t)
idle_from [] t g = omega arith
idle_from (a ∷ rest) t g = omega (arith, act_idle a t g, idle_from rest (after a t) (good_after a t g), idles_append (ran_by a t) (trace rest (after a t)))

-- ---- what is promised

-- R79: the list of slots that ran accounts for every count, and the counts for every tick
pub every_tick_accounted_for : EveryTickAccountedFor
every_tick_accounted_for acts = record {
  each = λ k h. each_from acts empty_table k [] good_empty booked_empty h (get_or-replicate 16 k 0 0 h);
  idle = omega (arith, idle_from acts empty_table good_empty);
  all = (booked_reached acts).all;
}

-- R43: the new line is there
new_there : (C T w : ℕ) → is_nothing (new_line C T w) ≡ false
new_there C T w = go (ltb 0 w)
  where
    go : (b : Bool) → is_nothing (pick b (Waiting (wait_with C T w)) (begun C T)) ≡ false
    go true = refl
    go false = refl

-- R79: from its admission on
pub had_since_admitted : HadSinceAdmitted
had_since_admitted acts q r k a more u =
    let t = run acts empty_table in
    let g = good_reached acts in
    let b = slot_empty t q k a.slot in
    let h : k < length t.had = omega (arith, b.0, (booked_reached acts).long) in
    let s = says_start (ask_of t q) r a.granted in
    let n : names k (placed_by (ask_of t q) t) ≡ true = rw (s, a.slot) (eq-eqb k k refl) in
    let f : is_nothing (at (admitted_table acts q).slots k) ≡ false =
    ap (λ (x : Said ℕ). is_nothing (at (admit_with t q x).table.slots k)) s ∙ ap is_nothing (admitted_new t q r k a.slot) ∙ new_there q.need q.period (r - t.clock) in
    let z : had_by (admitted_table acts q) k ≡ 0 = act_had (admitting q) t k g h f ∙ ap (λ (x : Bool). pick x 0 (had_by t k + 0)) n in
    omega (arith, had_occupied more (admitted_table acts q) k (good_after (admitting q) t g) (rw (act_length (admitting q) t g) h) f u, z)

still_empty : (t : Table) (k : ℕ) → is_nothing (at t.slots k) ≡ true → is_nothing (at (ticked (choose t) t).table.slots k) ≡ true
still_empty t k e =
    let o = choose t in
    let s = serve_keeps is_nothing nothing_served o t.slots k (choice_may t) ∙ e in
    ap is_nothing (at_pass (serve o t.slots) k) ∙ nothing_passed (at (serve o t.slots) k) ∙ ap (λ (b : Bool). pick b true (departs_in o t.slots k)) s

-- R79: and before any, nothing
nothing_unplaced : (a : Act) (t : Table) (k : ℕ) → Good t → names k (places a t) ≡ false → is_nothing (at t.slots k) ≡ true → is_nothing (at (after a t).slots k) ≡ true
nothing_unplaced (asking q) t k g n e = e
nothing_unplaced (admitting q) t k g n e = go (ask_of t q) refl n
  where
    go : (a : Said ℕ) → ask_of t q ≡ a → names k (placed_by a t) ≡ false → is_nothing (at (admit_with t q a).table.slots k) ≡ true
    go (Ok r) f m =
        let w = (granted t q r f).cleared in
        let d : eqb w.slot k ≡ false = sym (ap (names k) w.lowest_empty) ∙ m in
        nothing_admitted t q r w.slot k w.lowest_empty (λ z. eqb-false w.slot k d (sym z)) ∙ e
    go (Err x) f m = e
nothing_unplaced stepping t k g n e =
    split (2 ^ 48) t.clock
    (λ l. subst (λ (s : Acted (Option ℕ)). is_nothing (at s.table.slots k) ≡ true) (sym (at_last t l)) e)
    (λ l. subst (λ (s : Acted (Option ℕ)). is_nothing (at s.table.slots k) ≡ true) (sym (step_table t g l)) (still_empty t k e))
nothing_unplaced (leaving n) t k g m e = leave_at_lem (λ h. is_nothing h ≡ true) t n k e (λ z. nothing_let_go (at t.slots k) e)

still_nothing : (acts : List Act) (t : Table) (k : ℕ) → Good t → Unplaced k acts t → is_nothing (at t.slots k) ≡ true → is_nothing (at (run acts t).slots k) ≡ true
still_nothing [] t k g u e = e
still_nothing (a ∷ rest) t k g u e = still_nothing rest (after a t) k (good_after a t g) u.1 (nothing_unplaced a t k g u.0 e)

length_reached : (acts : List Act) (t : Table) → Good t → length (run acts t).had ≡ length t.had
length_reached [] t g = refl
length_reached (a ∷ rest) t g = length_reached rest (after a t) (good_after a t g) ∙ act_length a t g

-- R79: a slot into which no line was put has had nothing
pub nothing_had_before : NothingHadBefore
nothing_had_before acts k h u =
    let b = booked_reached acts in
    b.spare k (omega (arith, h, b.long, length_reached acts empty_table good_empty))
    (still_nothing acts empty_table k good_empty u (ap (λ (s : Slot). is_nothing s.held) (get_or-replicate 16 k empty empty h)))
