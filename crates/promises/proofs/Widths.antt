-- Every act keeps the code's widths: numbers of sixteen bits stay so in a tick and in an admission, and the clock ends long before its own width.
use Rattle.std.specs.Prelude.{Ok, Err, Option, None, Some}
use Rattle.table.specs.Words.{act_unless, Said}
use mathlib.Core.Path.{◌≡◌, refl, sym, ◌∙◌, subst}
use mathlib.Core.Bool.{Bool, true, false}
use mathlib.Core.List.{List, [], ◌∷◌}
use Prim.Native.Nat.{ℕ, zero, suc, ◌+◌, ◌-◌, ◌^◌, ◌≤◌, ◌<◌}
use native.Mathlib.Omega.{arith}
use borrow.Author.Tests.{lt-ltb, le-ltb, lt-leb}
use lib.Dec.{ltb, eqb}
use lib.ListN.{length, set, replicate, length-set}
use Rattle.periods.specs.Multiples.{All}
use Rattle.line.specs.declared.Follows.{Follows}
use Rattle.line.specs.declared.Follows.TheVariants.{Renews, Leaves}
use Rattle.line.specs.declared.Held.{Held}
use Rattle.line.specs.declared.Held.TheVariants.{Nothing, Running, Waiting}
use Rattle.line.specs.declared.Slot.{Slot}
use Rattle.table.specs.declared.Table.{Table}
use Rattle.table.specs.declared.Request.{Request}
use Rattle.table.specs.declared.Acted.{Acted}
use Rattle.line.specs.Slots.{pick, wait_with, holding, empty, begun, following, slot_at, at, map_at, is_nothing, lowest_of}
use Rattle.line.specs.Demand.{end_of, last_end}
use Rattle.line.specs.Stretch.{stretch, stretched}
use Rattle.line.specs.Tick.{served, passed, served_slot, short}
use Rattle.line.specs.Leave.{let_go, let_go_slot}
use Rattle.table.specs.Words.{no_slot, slot_number}
use Rattle.std.specs.List.{sum}
use Rattle.std.proofs.lemmas.List.Sums.{sum_by-cons}
use Rattle.table.specs.Counts.{Inside, accounted, fault, counting, last_without, settle}
use Rattle.table.specs.Grounds.{entry, asked}
use Rattle.table.specs.Ask.{ask_of}
use Rattle.table.specs.Admit.{new_line, put_at, admit_with}
use Rattle.table.specs.Step.{choose, serve, pass, departs_in, ticked, advance, step_of}
use Rattle.table.specs.Runs.{Act, asking, admitting, stepping, leaving, after}
use Rattle.table.proofs.Choice.{choose_inside}
use Rattle.table.proofs.Counts.{sum_settle, faultless, settling_keeps, booked_within}
use Rattle.table.proofs.LettingGo.{may_inside, left_is}
use Rattle.image.specs.Image.{Narrow, AllNarrow, InEight, TableWidths}
use Rattle.theory.proofs.Numbers.{split}
use Rattle.theory.proofs.Tail.{last_within}
use Rattle.theory.proofs.Start.{least_by_last}
use Rattle.theory.proofs.Granted.{granted}
use Rattle.theory.proofs.Trace.{length_tick}
use Rattle.promises.specs.Images.{NarrowRequest, Narrowed}
use Rattle.promises.proofs.Good.{at_last}
use Rattle.promises.proofs.Kept.{admit_clock, admit_length, admit_counts, admit_last}
use Rattle.promises.proofs.Booking.{tick_length}

-- ---- slot by slot

-- R3: any slot, also one beyond the last
narrow_at : (l : List Slot) → AllNarrow l → (i : ℕ) → Narrow (at l i)
narrow_at [] n i = omega arith
narrow_at (s ∷ l) n zero = n.0
narrow_at (s ∷ l) n (suc i) = narrow_at l n.1 i

-- R4: the empty slots
pub narrow_empty : (n : ℕ) → AllNarrow (replicate n empty)
narrow_empty zero = tt
narrow_empty (suc n) = (omega arith, narrow_empty n)

-- R3: another line in a slot
narrow_set : (l : List Slot) (j : ℕ) (v : Slot) → AllNarrow l → Narrow v.held → AllNarrow (set l j v)
narrow_set [] j v n m = tt
narrow_set (s ∷ l) zero v n m = (m, n.1)
narrow_set (s ∷ l) (suc j) v n m = (n.0, narrow_set l j v n.1 m)

narrow_put : (o : Option ℕ) (s : Slot) (l : List Slot) → Narrow s.held → AllNarrow l → AllNarrow (put_at o s l)
narrow_put None s l m n = n
narrow_put (Some k) s l m n = narrow_set l k s n m

-- ---- a tick

narrow_served : (h : Held) → Narrow h → Narrow (served h)
narrow_served Nothing n = n
narrow_served (Running r) n = omega arith
narrow_served (Waiting w) n = n

narrow_serve : (o : Option ℕ) (l : List Slot) → AllNarrow l → AllNarrow (serve o l)
narrow_serve None l n = n
narrow_serve (Some j) l n = narrow_put (Some j) (served_slot (slot_at l j)) l (narrow_served (at l j) (narrow_at l n j)) n

-- R46, R99: what follows a period
narrow_following : (f : Follows) (C T : ℕ) → C < 65536 → T < 65536 → Narrow (following f C T)
narrow_following Renews C T c p = (c, p, omega arith, c)
narrow_following Leaves C T c p = omega arith

-- R45 to R47: an age rises only where it stays below its period
narrow_passed : (h : Held) → Narrow h → Narrow (passed h)
narrow_passed Nothing n = n
narrow_passed (Running r) n =
    split r.period (r.age + 1) (λ g. rw (le-ltb (r.age + 1) r.period g) (narrow_following r.follows r.need r.period n.0 n.1))
    (λ g. rw (lt-ltb (r.age + 1) r.period g) (omega arith))
narrow_passed (Waiting w) n =
    split w.wait 1 (λ g. rw (le-ltb 1 w.wait g) (omega arith)) (λ g. rw (lt-ltb 1 w.wait g) (omega arith))

narrow_pass : (l : List Slot) → AllNarrow l → AllNarrow (pass l)
narrow_pass [] n = tt
narrow_pass (s ∷ l) n = (narrow_passed s.held n.0, narrow_pass l n.1)

-- R95: counts that add up to a number of 64 bits have no more
pub wide_within : (l : List ℕ) → sum l < 2 ^ 64 → All InEight l
wide_within [] h = tt
wide_within (n ∷ l) h = let e = sum_by-cons (λ x. x) n l in (omega (arith, e), wide_within l (omega (arith, e)))

-- R105: the number of a slot has eight bits, and so has that of none
narrow_number : (o : Option ℕ) → Inside 16 o → slot_number o < 256
narrow_number None i = omega arith
narrow_number (Some k) i = omega arith

-- R105: also where a line is gone
narrow_last : (i k : ℕ) → k < 256 → last_without i k < 256
narrow_last i k h = go (eqb k i)
  where
    go : (b : Bool) → pick b no_slot k < 256
    go true = omega arith
    go false = h

-- R45, R97: a tick before the last, of a table that accounts for no more than its clock
wide_ticked : (o : Option ℕ) (t : Table) → TableWidths 16 t → accounted t ≤ t.clock → t.clock < 2 ^ 48 → Inside 16 o → TableWidths 16 (ticked o t).table
wide_ticked o t w a h i =
    let s = booked_within o t in
    record {
      slots = length_tick o t.slots ∙ w.slots;
      clock = omega arith;
      lines = narrow_pass (serve o t.slots) (narrow_serve o t.slots w.lines);
      counts = tick_length o t ∙ w.counts;
      had = wide_within (ticked o t).table.had (omega (arith, s));
      idle = omega (arith, s);
      departed = omega (arith, s);
      last = settling_keeps (departs_in o t.slots) (λ u. u.last < 256) (λ k u g e. narrow_last k u.last e) (length t.slots) (counting o t) (narrow_number o i);
    }

wide_unless : (o : Option ℕ) (n : ℕ) (t : Table) (s : Acted (Option ℕ)) → TableWidths 16 t → TableWidths 16 s.table → TableWidths 16 (act_unless o n t s).table
wide_unless None n t s v w = w
wide_unless (Some k) n t s v w = v

wide_advance : (o : Option ℕ) (t : Table) → TableWidths 16 t → accounted t ≤ t.clock → t.clock < 2 ^ 48 → Inside 16 o → TableWidths 16 (advance o t).table
unfolding advance
wide_advance o t w a h i = wide_unless (lowest_of short (serve o t.slots)) 14 t (ticked o t) w (wide_ticked o t w a h i)

early_step : (t : Table) → t.clock < 2 ^ 48 → step_of t ≡ act_unless (fault t) 4 t (advance (choose t) t)
unfolding step_of
early_step t h = rw (lt-leb (2 ^ 48) t.clock h)

-- R48: a step keeps the code's widths, refused or not
pub wide_step : (t : Table) → TableWidths 16 t → TableWidths 16 (step_of t).table
wide_step t w =
    split (2 ^ 48) t.clock
    (λ h. subst (λ (s : Acted (Option ℕ)). TableWidths 16 s.table) (sym (at_last t h)) w)
    (λ h. subst (λ (s : Acted (Option ℕ)). TableWidths 16 s.table) (sym (early_step t h)) (go h (fault t) refl))
  where
    go : t.clock < 2 ^ 48 → (o : Option ℕ) → fault t ≡ o → TableWidths 16 (act_unless o 4 t (advance (choose t) t)).table
    go h None e = wide_advance (choose t) t w (faultless t e).1 h (subst (λ (n : ℕ). Inside n (choose t)) w.slots (choose_inside t))
    go h (Some k) e = w

-- ---- an admission

narrow_stretch : (p : ℕ) (h : Held) → p < 65536 → Narrow h → Narrow (stretch p h)
narrow_stretch p Nothing b n = n
narrow_stretch p (Running r) b n = omega arith
narrow_stretch p (Waiting w) b n = n

-- R42: every running line at its T'
narrow_stretched : (l : List Slot) (p : ℕ → ℕ) → ((i : ℕ) → p i < 2 ^ 16) → AllNarrow l → AllNarrow (stretched l p)
unfolding map_at
narrow_stretched [] p b n = tt
narrow_stretched (s ∷ l) p b n = (narrow_stretch (p 0) s.held (b 0) n.0, narrow_stretched l (λ i. p (suc i)) (λ i. b (suc i)) n.1)

-- R43: the new line, at once or with a wait
narrow_new : (C T w : ℕ) → C < 65536 → T < 65536 → w < 65536 → Narrow (new_line C T w)
narrow_new C T w c p h = go (ltb 0 w)
  where
    go : (b : Bool) → Narrow (pick b (Waiting (wait_with C T w)) (begun C T))
    go true = (c, p, h, omega arith)
    go false = (c, p, omega arith, c)

end_near : (t0 : ℕ) (h : Held) → Narrow h → end_of t0 h < t0 + 65536
end_near t0 Nothing n = omega arith
end_near t0 (Running r) n = omega arith
end_near t0 (Waiting w) n = omega arith

-- R15: the last end is within sixteen bits of the clock
last_near : (t0 : ℕ) (l : List Slot) → AllNarrow l → last_end t0 l < t0 + 65536
last_near t0 l n = last_within t0 65536 l (omega arith) (λ i b. end_near t0 (at l i) (narrow_at l n i))

-- R15, R42: so is a start that is granted
wait_near : (t : Table) (q : Request) (r : ℕ) → AllNarrow (asked t q) → ask_of t q ≡ Ok r → r - t.clock < 65536
wait_near t q r n e =
    let g = granted t q r e in
    omega (arith, least_by_last _ t.clock _ q.need q.period r g.cleared.given g.alone g.least, last_near t.clock (asked t q) n)

narrow_admitted : (t : Table) (q : Request) → NarrowRequest q → AllNarrow t.slots → AllNarrow (after (admitting q) t).slots
narrow_admitted t q f n = go (ask_of t q) refl
  where
    lines : AllNarrow (asked t q)
    lines = narrow_stretched t.slots (entry q) f.2 n

    go : (a : Said ℕ) → ask_of t q ≡ a → AllNarrow (admit_with t q a).table.slots
    go (Ok r) e =
        narrow_put (lowest_of is_nothing t.slots) (holding (new_line q.need q.period (r - t.clock))) (asked t q)
        (narrow_new q.need q.period (r - t.clock) f.0 f.1 (wait_near t q r lines e)) lines
    go (Err x) e = n

-- R42: a count becomes 0
wide_put : (o : Option ℕ) (l : List ℕ) → All InEight l → All InEight (put_at o 0 l)
wide_put None l w = w
wide_put (Some k) [] w = tt
wide_put (Some zero) (n ∷ l) w = (omega arith, w.1)
wide_put (Some (suc k)) (n ∷ l) w = (w.0, wide_put (Some k) l w.1)

wide_counts : (t : Table) (q : Request) → TableWidths 16 t
    → All InEight (after (admitting q) t).had × InEight (after (admitting q) t).idle × InEight (after (admitting q) t).departed
wide_counts t q w = go (ask_of t q)
  where
    go : (a : Said ℕ) → All InEight (admit_with t q a).table.had × InEight (admit_with t q a).table.idle × InEight (admit_with t q a).table.departed
    go (Ok r) = (wide_put (lowest_of is_nothing t.slots) t.had w.had, w.idle, w.departed)
    go (Err x) = (w.had, w.idle, w.departed)

-- R42: an admission keeps the code's widths, granted or not
pub wide_admit : (t : Table) (q : Request) → NarrowRequest q → TableWidths 16 t → TableWidths 16 (after (admitting q) t)
wide_admit t q f w = record {
  slots = admit_length t q ∙ w.slots;
  clock = rw (admit_clock t q) w.clock;
  lines = narrow_admitted t q f w.lines;
  counts = admit_counts t q ∙ w.counts;
  had = (wide_counts t q w).0;
  idle = (wide_counts t q w).1;
  departed = (wide_counts t q w).2;
  last = rw (admit_last t q) w.last;
}

-- ---- a leave

narrow_let_go : (h : Held) → Narrow h → Narrow (let_go h)
narrow_let_go Nothing n = n
narrow_let_go (Running r) n = n
narrow_let_go (Waiting w) n = omega arith

-- R101: what a line had is no more than what is accounted for
wide_settled : (t : Table) (n : ℕ) (b : Bool) → TableWidths 16 t → accounted t ≤ t.clock → n < length t.had
    → (length (pick b (settle n t) t).had ≡ 16) × All InEight (pick b (settle n t) t).had × InEight (pick b (settle n t) t).idle × InEight (pick b (settle n t) t).departed
    × ((pick b (settle n t) t).last < 256)
wide_settled t n false w a h = (w.counts, w.had, w.idle, w.departed, w.last)
wide_settled t n true w a h =
    (length-set t.had n 0 ∙ w.counts, wide_put (Some n) t.had w.had, w.idle, omega (arith, a, w.clock, sum_settle t.had n), narrow_last n t.last w.last)

-- R100: a leave keeps the code's widths, granted or not
pub wide_leave : (t : Table) (n : ℕ) → TableWidths 16 t → TableWidths 16 (after (leaving n) t)
wide_leave t n w =
    left_is (TableWidths 16) t n w
    (λ f m. let s = wide_settled t n (is_nothing (let_go (at t.slots n))) w (faultless t f).1 (omega (arith, may_inside t.slots n m, w.slots, w.counts)) in
    record {
      slots = length-set t.slots n (let_go_slot (slot_at t.slots n)) ∙ w.slots;
      clock = w.clock;
      lines = narrow_set t.slots n (let_go_slot (slot_at t.slots n)) w.lines (narrow_let_go (at t.slots n) (narrow_at t.slots w.lines n));
      counts = s.0;
      had = s.1;
      idle = s.2;
      departed = s.3;
      last = s.4;
    })

-- R3, R73: every act keeps the code's widths
pub wide_after : (a : Act) (t : Table) → Narrowed a → TableWidths 16 t → TableWidths 16 (after a t)
wide_after (asking q) t f w = w
wide_after (admitting q) t f w = wide_admit t q f w
wide_after stepping t f w = wide_step t w
wide_after (leaving n) t f w = wide_leave t n w
