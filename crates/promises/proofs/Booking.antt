-- What an act does to the counts, R79: each slot that holds a line has its own, one that holds nothing has 0, and all of them are the clock.
use Rattle.std.specs.Prelude.{Ok, Err, Option, None, Some}
use Rattle.table.specs.Words.{Said}
use Prim.Native.Nat.{ℕ, ◌+◌, ◌-◌, ◌^◌, ◌<◌}
use mathlib.Core.Path.{◌≡◌, refl, sym, ap, ◌∙◌, subst}
use mathlib.Core.Bool.{Bool, true, false}
use mathlib.Core.List.{List, [], ◌∷◌}
use native.Mathlib.Decide.{ℕ_discrete}
use native.Mathlib.Omega.{arith}
use borrow.Author.Tests.{ne_eqb}
use lib.ListN.{length, get_or, set, length-set, get_or-replicate}
use lib.Seq.{get_or-set_same, get_or-set_other, set-get_or}
use Rattle.line.specs.declared.Held.{Held}
use Rattle.line.specs.declared.Held.TheVariants.{Nothing, Running, Waiting}
use Rattle.line.specs.declared.Slot.{Slot}
use Rattle.line.specs.Slots.{pick, holding, empty, slot_at, at, is_nothing, lowest_of}
use Rattle.line.specs.Stretch.{stretch}
use Rattle.line.specs.Tick.{Owed, served}
use Rattle.line.specs.Leave.{may_leave, let_go, let_go_slot}
use Rattle.line.proofs.Streams.{nothing_passed}
use Rattle.line.proofs.Search.{true_false, lowest_is}
use Rattle.line.proofs.Stretched.{at_stretched}
use Rattle.table.specs.declared.Table.{Table}
use Rattle.table.specs.declared.Request.{Request}
use Rattle.table.specs.declared.Acted.{Acted}
use Rattle.table.specs.Words.{empty_table}
use Rattle.std.specs.List.{sum}
use Rattle.table.specs.Counts.{Inside, had_by, accounted, counting, settle}
use Rattle.table.specs.Grounds.{entry, asked}
use Rattle.table.specs.Ask.{ask_of}
use Rattle.table.specs.Admit.{new_line, put_at, admitted_at, admit_with}
use Rattle.table.specs.Step.{choose, serve, pass, departs_in, ticked}
use Rattle.table.specs.Leave.{let_go_at}
use Rattle.table.specs.Runs.{Act, asking, admitting, stepping, leaving, after, run, is_slot}
use Rattle.table.proofs.Choice.{choose_inside}
use Rattle.table.proofs.Counts.{had_after_lem, length_had, tick_counts, settling_accounted, settling_length, settling_other, settling_gone}
use Rattle.table.proofs.LettingGo.{let_go_accounted, may_inside, left_is}
use Rattle.theory.specs.Fine.{May}
use Rattle.theory.specs.Given.{Granted}
use Rattle.theory.proofs.Numbers.{split}
use Rattle.theory.proofs.Granted.{granted}
use Rattle.theory.proofs.Trace.{at_pass, length_tick}
use Rattle.promises.proofs.Good.{Good, at_last, good_empty, good_after, admitted_slots}
use Rattle.promises.proofs.Kept.{length_admitted, step_table, choice_may, serve_keeps}

-- ---- a tick and a leave

-- R97, R101: a tick leaves as many counts
pub tick_length : (o : Option ℕ) (t : Table) → length (ticked o t).table.had ≡ length t.had
tick_length o t = settling_length (departs_in o t.slots) (length t.slots) (counting o t) ∙ length_had o t.had

-- R101: a line that is there after a tick has not departed with it
pub stayed : (o : Option ℕ) (l : List Slot) (k : ℕ) → is_nothing (at (pass (serve o l)) k) ≡ false → departs_in o l k ≡ false
stayed o l k e = go (is_nothing (at (serve o l) k)) (departs_in o l k) (sym (ap is_nothing (at_pass (serve o l) k) ∙ nothing_passed (at (serve o l) k)) ∙ e)
  where
    go : (b d : Bool) → pick b true d ≡ false → d ≡ false
    go true d z = absurd (true_false refl z)
    go false d z = z

-- R97: of such a slot the count rises by the tick it got
pub tick_had : (o : Option ℕ) (t : Table) (k : ℕ) → k < length t.had → departs_in o t.slots k ≡ false → had_by (ticked o t).table k ≡ had_by t k + is_slot k o
tick_had o t k h e = settling_other (departs_in o t.slots) (length t.slots) (counting o t) k e ∙ had_after_lem o t.had k h

-- R101: a line let go that is still there, or in another slot, has its count
pub let_go_had : (n : ℕ) (t : Table) (k : ℕ) → may_leave (at t.slots n) ≡ true → is_nothing (at (let_go_at n t).slots k) ≡ false → had_by (let_go_at n t) k ≡ had_by t k
let_go_had n t k m = go (is_nothing (let_go (at t.slots n))) refl
  where
    there : k ≡ n → is_nothing (at (let_go_at n t).slots k) ≡ is_nothing (let_go (at t.slots n))
    there z = rw z (ap (λ (s : Slot). is_nothing s.held) (get_or-set_same t.slots n (let_go_slot (slot_at t.slots n)) empty (may_inside t.slots n m)))

    go : (b : Bool) → is_nothing (let_go (at t.slots n)) ≡ b → is_nothing (at (let_go_at n t).slots k) ≡ false → had_by (pick b (settle n t) t) k ≡ had_by t k
    go true e f = get_or-set_other t.had n k 0 0 (λ z. true_false (there z ∙ e) f)
    go false e f = refl

-- ---- slots that hold nothing

-- R45, R42: a slot that holds nothing is not changed by serving or stretching
pub nothing_served : (h : Held) → is_nothing (served h) ≡ is_nothing h
nothing_served Nothing = refl
nothing_served (Running r) = refl
nothing_served (Waiting w) = refl

nothing_stretched : (p : ℕ) (h : Held) → is_nothing (stretch p h) ≡ is_nothing h
nothing_stretched p Nothing = refl
nothing_stretched p (Running r) = refl
nothing_stretched p (Waiting w) = refl

-- R100: nor by letting it go
pub nothing_let_go : (h : Held) → is_nothing h ≡ true → is_nothing (let_go h) ≡ true
nothing_let_go Nothing e = refl
nothing_let_go (Running r) e = absurd (true_false e refl)
nothing_let_go (Waiting w) e = refl

-- R44: who gets the tick holds a line
owed_something : (h : Held) → Owed h → is_nothing h ≡ false
owed_something Nothing w = absurd w
owed_something (Running r) w = refl
owed_something (Waiting v) w = refl

unserved : (o : Option ℕ) (l : List Slot) (k : ℕ) → May o l → is_nothing (at l k) ≡ true → is_slot k o ≡ 0
unserved None l k m e = refl
unserved (Some j) l k m e =
    rw (ne_eqb j k (λ z. true_false e (subst (λ (i : ℕ). is_nothing (at l i) ≡ false) z (owed_something (at l j) m.1))))

-- R43: but for the slot of the new line
pub nothing_admitted : (t : Table) (q : Request) (r j k : ℕ) → lowest_of is_nothing t.slots ≡ Some j → (k ≡ j → ⊥)
    → is_nothing (at (admitted_at t q r).slots k) ≡ is_nothing (at t.slots k)
nothing_admitted t q r j k e n =
    ap (λ (l : List Slot). is_nothing (at l k)) (admitted_slots t q r j e)
    ∙ ap (λ (s : Slot). is_nothing s.held) (get_or-set_other (asked t q) j k (holding (new_line q.need q.period (r - t.clock))) empty n)
    ∙ ap is_nothing (at_stretched t.slots (entry q) k) ∙ nothing_stretched (entry q k) (at t.slots k)

-- ---- a count for each line

-- what the sum needs: a count for each slot, 0 beside one that holds nothing
pub record Booked (t : Table) : Type 0 where
  pub long : length t.had ≡ length t.slots
  pub spare : (k : ℕ) → k < length t.slots → is_nothing (at t.slots k) ≡ true → had_by t k ≡ 0
  pub all : accounted t ≡ t.clock

-- R4: the empty table's
pub booked_empty : Booked empty_table
booked_empty = record { long = refl; spare = λ k h e. get_or-replicate 16 k 0 0 h; all = refl }

-- R42: an admission sets a count to 0 that was 0
booked_admitted : (t : Table) (q : Request) (r : ℕ) → Granted t q r → Booked t → Booked (admitted_at t q r)
booked_admitted t q r g b = record {
  long = ap length same ∙ b.long ∙ sym (length_admitted t q r);
  spare = λ k h e.
      ap (λ (l : List ℕ). get_or l k 0) same
      ∙ elim (ℕ_discrete k j) [
        | yes z ↦ ap (had_by t) z ∙ zero_there
        | no n ↦ b.spare k (rw (length_admitted t q r) at h) (sym (nothing_admitted t q r j k g.cleared.lowest_empty n) ∙ e)
      ];
  all = ap (λ (l : List ℕ). sum l + t.idle + t.departed) same ∙ b.all;
}
  where
    j : ℕ
    j = g.cleared.slot

    zero_there : had_by t j ≡ 0
    zero_there =
        let w = lowest_is (λ i. is_nothing (at t.slots i)) (length t.slots) g.cleared.lowest_empty in
        b.spare j w.inside w.here

    same : (admitted_at t q r).had ≡ t.had
    same =
        ap (λ (o : Option ℕ). put_at o 0 t.had) g.cleared.lowest_empty ∙ ap (set t.had j) (sym zero_there) ∙ set-get_or t.had j 0

-- R97, R101: a tick is counted once, for a slot that holds a line or as idle, and who departs takes his count with him
booked_ticked : (t : Table) → Booked t → Booked (ticked (choose t) t).table
booked_ticked t b = record {
  long = tick_length o t ∙ b.long ∙ sym (length_tick o t.slots);
  spare = λ k h e. empty_has_none k (rw (length_tick o t.slots) at h) (departs_in o t.slots k) refl (sym (ap is_nothing (at_pass (serve o t.slots) k) ∙ nothing_passed (at (serve o t.slots) k)) ∙ e);
  all = omega (arith, b.all, settling_accounted (departs_in o t.slots) (length t.slots) (counting o t), tick_counts o t.had t.idle (subst (λ (n : ℕ). Inside n o) (sym b.long) (choose_inside t)));
}
  where
    o : Option ℕ
    o = choose t

    was_empty : (c : Bool) → pick c true false ≡ true → c ≡ true
    was_empty true e = refl
    was_empty false e = e

    empty_has_none : (k : ℕ) → k < length t.slots → (d : Bool) → departs_in o t.slots k ≡ d → pick (is_nothing (at (serve o t.slots) k)) true d ≡ true → had_by (ticked o t).table k ≡ 0
    empty_has_none k l true e f = settling_gone (departs_in o t.slots) (length t.slots) (counting o t) k l (omega (arith, length_had o t.had, b.long)) e
    empty_has_none k l false e f =
        let n = sym (serve_keeps is_nothing nothing_served o t.slots k (choice_may t)) ∙ was_empty (is_nothing (at (serve o t.slots) k)) f in
        omega (arith, tick_had o t k (omega (arith, b.long)) e, b.spare k l n, unserved o t.slots k (choice_may t) n)

-- R101: a line let go takes its count with it if it is gone
booked_let_go : (n : ℕ) (t : Table) → may_leave (at t.slots n) ≡ true → Booked t → Booked (let_go_at n t)
booked_let_go n t m b = record {
  long = had_long (is_nothing (let_go (at t.slots n))) ∙ b.long ∙ sym (length-set t.slots n (let_go_slot (slot_at t.slots n)));
  spare = λ k h e. spared k (rw (length-set t.slots n (let_go_slot (slot_at t.slots n))) at h) e;
  all = let_go_accounted n t ∙ b.all;
}
  where
    inside : n < length t.slots
    inside = may_inside t.slots n m

    had_long : (c : Bool) → length (pick c (settle n t) t).had ≡ length t.had
    had_long true = length-set t.had n 0
    had_long false = refl

    named : is_nothing (let_go (at t.slots n)) ≡ true → had_by (let_go_at n t) n ≡ 0
    named e = rw e (get_or-set_same t.had n 0 0 (omega (arith, inside, b.long)))

    other : (k : ℕ) (c : Bool) → (k ≡ n → ⊥) → had_by t k ≡ 0 → had_by (pick c (settle n t) t) k ≡ 0
    other k true z e = get_or-set_other t.had n k 0 0 z ∙ e
    other k false z e = e

    spared : (k : ℕ) → k < length t.slots → is_nothing (at (let_go_at n t).slots k) ≡ true → had_by (let_go_at n t) k ≡ 0
    spared k h e =
        elim (ℕ_discrete k n) [
          | yes z ↦ rw z (named (sym (ap (λ (s : Slot). is_nothing s.held) (get_or-set_same t.slots n (let_go_slot (slot_at t.slots n)) empty inside)) ∙ ap (λ (j : ℕ). is_nothing (at (let_go_at n t).slots j)) (sym z) ∙ e))
          | no z ↦ other k (is_nothing (let_go (at t.slots n))) z (b.spare k h (sym (ap (λ (s : Slot). is_nothing s.held) (get_or-set_other t.slots n k (let_go_slot (slot_at t.slots n)) empty z)) ∙ e))
        ]

-- R79: every act keeps it so
pub booked_after : (a : Act) (t : Table) → Good t → Booked t → Booked (after a t)
booked_after (asking q) t g b = b
booked_after (admitting q) t g b = go (ask_of t q) refl
  where
    go : (a : Said ℕ) → ask_of t q ≡ a → Booked (admit_with t q a).table
    go (Ok r) e = booked_admitted t q r (granted t q r e) b
    go (Err x) e = b
booked_after stepping t g b =
    split (2 ^ 48) t.clock
    (λ l. subst (λ (s : Acted (Option ℕ)). Booked s.table) (sym (at_last t l)) b)
    (λ l. subst (λ (s : Acted (Option ℕ)). Booked s.table) (sym (step_table t g l)) (booked_ticked t b))
booked_after (leaving n) t g b = left_is Booked t n b (λ f m. booked_let_go n t m b)

booked_run : (acts : List Act) (t : Table) → Good t → Booked t → Booked (run acts t)
booked_run [] t g b = b
booked_run (a ∷ rest) t g b = booked_run rest (after a t) (good_after a t g) (booked_after a t g b)

-- R79: of every run from the empty table
pub booked_reached : (acts : List Act) → Booked (run acts empty_table)
booked_reached acts = booked_run acts empty_table good_empty booked_empty
