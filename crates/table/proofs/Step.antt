-- The step's branches, over plain values: what each return shows, from what the calls ensure; and that a refused step keeps the table.
use Rattle.std.specs.Prelude.{Ok, Err, Option, None, Some}
use Prim.Native.Nat.{ℕ, ◌+◌, ◌^◌, ◌≤◌, ◌<◌}
use mathlib.Core.Path.{◌≡◌, refl, ap, sym, ◌∙◌, subst}
use mathlib.Core.Bool.{Bool, true, false}
use mathlib.Core.List.{List, [], ◌∷◌, map}
use native.Mathlib.Omega.{arith}
use native.Mathlib.Nat.{suc_inj}
use borrow.Author.Tests.{le-leb, lt-leb, eqb-true, eqb-false, eq-eqb, ne_eqb}
use lib.Dec.{leb, eqb}
use lib.ListN.{length, get_or, set, length-set}
use lib.Seq.{get_or-set_same, get_or-set_other}
use Rattle.line.specs.declared.Slot.{Slot}
use Rattle.table.specs.declared.Table.{Table}
use Rattle.table.specs.declared.Refusal.{Refusal}
use Rattle.table.specs.declared.Acted.{Acted}
use Rattle.line.specs.Slots.{pick, empty, slot_at, at, map_at, lowest_of}
use Rattle.table.specs.Words.{refused_act, act_unless, with_slots, booked_as, later_with}
use Rattle.table.specs.Counts.{accounted, fault, counting, settle, settling}
use Rattle.table.proofs.Acts.{Keeps, keeps_granted, keeps_refused, keeps_either, keeps_unless}
use Rattle.table.specs.Step.{choose, serve, served_at, pass, departs_in, ticked, advance, step_of}
use Rattle.line.specs.Tick.{served_slot, passed_slot, short, departs}
use Rattle.line.proofs.Read.{read_any}
use Rattle.line.proofs.Loops.{Mapping, map_start, map_on, map_end}
use Rattle.line.proofs.Search.{Looking, look_start, look_on, look_stop, look_end}
use Rattle.table.proofs.Counts.{settling_stay, settling_go, settling_accounted, tick_within}

-- t is t₀ but for its slots: what a loop over the slots keeps
pub record OnlySlots (t₀ t : Table) : Type 0 where
  pub same : t ≡ with_slots t₀ t.slots

-- at first nothing differs
pub only_none : {t : Table} → OnlySlots t t
only_none = record { same = refl }

module _ {t₀ t : Table} (v : OnlySlots t₀ t) where
  -- other slots still
  pub only_on : (l : List Slot) → OnlySlots t₀ (with_slots t l)
  only_on l = record { same = ap (λ (x : Table). with_slots x l) v.same }

  -- a line departs from both
  pub only_settle : (i : ℕ) → OnlySlots (settle i t₀) (settle i t)
  only_settle i = record { same = ap (settle i) v.same }

  -- R96: both account for the same ticks
  pub only_accounted : accounted t ≡ accounted t₀
  only_accounted = ap accounted v.same

  -- with the slots that are wanted it is the table that is wanted
  pub only_end_lem : {l : List Slot} → t.slots ≡ l → t ≡ with_slots t₀ l
  only_end_lem e = v.same ∙ ap (with_slots t₀) e

-- the table t at another clock
abbrev clocked : ℕ → Table → Table
clocked k t = record { clock = k; slots = t.slots; had = t.had; idle = t.idle; departed = t.departed; last = t.last }

-- serving leaves the number of slots as it was
pub length_serve : (o : Option ℕ) (l : List Slot) → length (serve o l) ≡ length l
length_serve None l = refl
length_serve (Some k) l = length-set l k (served_slot (slot_at l k))

-- slot i, which holds s, and the slot that the code names
module _ {w : Option ℕ} {k i : ℕ} (s : Slot) (e : w ≡ Some k) where
  -- R45: it is named
  pub served_here : k ≡ i → served_slot s ≡ served_at w i s
  served_here z = rw (e, eq-eqb k i z)

  -- R45: another is named
  pub served_other : (k ≡ i → ⊥) → s ≡ served_at w i s
  served_other n = rw (e, ne_eqb k i n)

-- R45: slot i of those among which one is served
at_serve : (o : Option ℕ) (l : List Slot) (i : ℕ) → i < length l → slot_at (serve o l) i ≡ served_at o i (slot_at l i)
at_serve None l i h = refl
at_serve (Some k) l i h = go (eqb k i) refl
  where
    go : (b : Bool) → eqb k i ≡ b → slot_at (serve (Some k) l) i ≡ pick b (served_slot (slot_at l i)) (slot_at l i)
    go true e = let z : k ≡ i = eqb-true k i e in rw z (get_or-set_same l i (served_slot (slot_at l i)) empty h)
    go false e = get_or-set_other l k i (served_slot (slot_at l k)) empty (λ z. eqb-false k i e (sym z))

-- the slots of m, each mapped, put in the place of as many others
map_from : (f : Slot → Slot) (l m : List Slot) → length l ≡ length m → map_at (λ k s. f (slot_at m k)) l ≡ map f m
unfolding map_at
map_from f [] [] e = refl
map_from f [] (y ∷ m) e = absurd (omega arith)
map_from f (x ∷ l) [] e = absurd (omega arith)
map_from f (x ∷ l) (y ∷ m) e = ap (λ (r : List Slot). f y ∷ r) (map_from f l m (suc_inj e))

-- R97, R101: a tick counted, and who departs with it from the first i slots
abbrev booked_to : ℕ → Option ℕ → Table → Table
booked_to i o t = settling (departs_in o t.slots) i (counting o t)

-- a tick of t, with the slot o served, that has come to slot i: in v it is counted, the slots below i are a tick later, who departs from them has, and none of their
-- periods ends short
pub record Ticking (o : Option ℕ) (t v : Table) (i : ℕ) : Type 0 where
  pub counted : OnlySlots (booked_to i o t) v
  pub later : Mapping (λ k s. passed_slot (slot_at (serve o t.slots) k)) 16 t.slots v.slots i
  pub fine : Looking (λ k. short (at (serve o t.slots) k)) (length (serve o t.slots)) i

-- no slot is passed
pub tick_start : (o : Option ℕ) {t v : Table} → length t.slots ≡ 16 → v ≡ counting o t → Ticking o t v 0
unfolding settling
tick_start o {t} e n = subst (λ (v : Table). Ticking o t v 0) (sym n) (record { counted = only_none; later = map_start _ e; fine = look_start _ _ })

module _ {o : Option ℕ} {t v : Table} {i : ℕ} (x : Ticking o t v i) where
  inside : i < 16 → i < length (serve o t.slots)
  inside h = omega (arith, x.later.long, length_serve o t.slots)

  -- what slot i holds after the slot named got the tick, s, with b for the test's answer
  module _ (d : Slot) {s : Slot} {b : Bool} (h : i < 16) (g : s ≡ served_at o i (get_or t.slots i d)) (e : b ≡ short s.held) where
    tick_here : s ≡ slot_at (serve o t.slots) i
    tick_here =
        let n : i < length t.slots = omega (arith, x.later.long) in
        g ∙ ap (served_at o i) (read_any t.slots i d n) ∙ sym (at_serve o t.slots i n)

    tick_sees : short (at (serve o t.slots) i) ≡ b
    tick_sees = sym (e ∙ ap (λ (y : Slot). short y.held) tick_here)

    -- R34: its period ends short
    pub tick_short : b ≡ true → lowest_of short (serve o t.slots) ≡ Some i
    tick_short z = look_stop x.fine (inside h) (tick_sees ∙ z)

    -- R45 to R47: it does not, and the slot is a tick later, its line departed or not
    module _ {r : Slot} (z : b ≡ false) (f : r ≡ passed_slot s) {a : Bool} (m : a ≡ departs s.held) where
      abbrev put : Table
      put = with_slots v (set v.slots i r)

      later_on : Mapping (λ k s. passed_slot (slot_at (serve o t.slots) k)) 16 t.slots (set v.slots i r) (i + 1)
      later_on = map_on x.later d h (f ∙ ap passed_slot tick_here)

      fine_on : Looking (λ k. short (at (serve o t.slots) k)) (length (serve o t.slots)) (i + 1)
      fine_on = look_on x.fine (inside h) (tick_sees ∙ z)

      tick_parts : departs_in o t.slots i ≡ a
      tick_parts = sym (m ∙ ap (λ (y : Slot). departs y.held) tick_here)

      -- R45 to R47: it stays
      pub tick_on : a ≡ false → Ticking o t put (i + 1)
      tick_on e = record {
        counted = subst (λ (u : Table). OnlySlots u put) (sym (settling_stay (departs_in o t.slots) i (counting o t) (tick_parts ∙ e))) (only_on x.counted _);
        later = later_on;
        fine = fine_on;
      }

      -- R101: it departs
      pub tick_off : {u : Table} → a ≡ true → u ≡ settle i put → Ticking o t u (i + 1)
      tick_off e g =
          subst (λ (u : Table). Ticking o t u (i + 1)) (sym g)
          (record {
            counted = subst (λ (u : Table). OnlySlots u (settle i put)) (sym (settling_go (departs_in o t.slots) i (counting o t) (tick_parts ∙ e))) (only_settle (only_on x.counted _) i);
            later = later_on;
            fine = fine_on;
          })

  -- R96: what is accounted for has room in 64 bits
  pub tick_room : t.clock < 2 ^ 48 → accounted t ≤ t.clock → accounted v < 2 ^ 64
  tick_room h w =
      omega (arith, only_accounted x.counted, settling_accounted (departs_in o t.slots) i (counting o t), tick_within o t.had t.idle)

  -- all slots are passed: what is left is the clock
  pub tick_end : 16 ≤ i → (lowest_of short (serve o t.slots) ≡ None) × (clocked (t.clock + 1) v ≡ (ticked o t).table)
  tick_end h =
      let n = length_serve o t.slots in
      let e = map_end x.later h ∙ map_from passed_slot t.slots (serve o t.slots) (sym n) in
      let m : i ≡ length t.slots = omega (arith, x.later.long, x.later.upto) in (
        look_end x.fine (omega (arith, x.later.long)),
        ap (clocked (t.clock + 1)) (only_end_lem x.counted e) ∙ ap (λ (k : ℕ). booked_as (booked_to k o t) (later_with t (pass (serve o t.slots)))) m,
      )

module _ (t : Table) (w : Option ℕ) where
  advance_by : (o : Option ℕ) → lowest_of short (serve w t.slots) ≡ o → act_unless o 14 t (ticked w t) ≡ advance w t
  unfolding advance
  advance_by o e = ap (λ (p : Option ℕ). act_unless p 14 t (ticked w t)) (sym e)

  -- R34: a period ends short
  pub advance_short : {k : ℕ} → lowest_of short (serve w t.slots) ≡ Some k → refused_act t 14 k ≡ advance w t
  advance_short {k} e = advance_by (Some k) e

  -- R45 to R47: none does, and every slot is a tick later
  pub advance_fine : {next : Table} → (lowest_of short (serve w t.slots) ≡ None) × (next ≡ (ticked w t).table)
      → ◌≡◌ {A = Acted (Option ℕ)} (record { table = next; answer = Ok w }) (advance w t)
  advance_fine e = ap (λ (x : Table). let s : Acted (Option ℕ) = record { table = x; answer = Ok w } in s) e.1 ∙ advance_by None e.0

module _ (t : Table) where
  -- R35: at the last tick the step is refused with 15
  pub step_late : 2 ^ 48 ≤ t.clock → refused_act t 15 0 ≡ step_of t
  unfolding step_of
  step_late h = rw (le-leb (2 ^ 48) t.clock h)

  module _ (early : t.clock < 2 ^ 48) where
    step_by : (o : Option ℕ) → fault t ≡ o → act_unless o 4 t (advance (choose t) t) ≡ step_of t
    unfolding step_of
    step_by o e = rw (lt-leb (2 ^ 48) t.clock early) (ap (λ (p : Option ℕ). act_unless p 4 t (advance (choose t) t)) (sym e))

    -- R24: with an unsound line, or too many counts, it is refused with 4 there
    pub step_faulty : {k : ℕ} → fault t ≡ Some k → refused_act t 4 k ≡ step_of t
    step_faulty {k} e = step_by (Some k) e

    -- R44: else the tick goes to the choice
    pub step_fine : (w : Option ℕ) → fault t ≡ None → w ≡ choose t → advance w t ≡ step_of t
    step_fine w e g = ap (λ (o : Option ℕ). advance o t) g ∙ step_by None e

module _ (t : Table) (x : Refusal) where
  advance_keeps : (o : Option ℕ) → Keeps t x (advance o t)
  unfolding advance
  advance_keeps o = keeps_unless t x (lowest_of short (serve o t.slots)) 14 (ticked o t) (keeps_granted t x o (ticked o t) refl)

  -- R48, R17: a refused step keeps the table
  pub refused_keeps : (step_of t).answer ≡ Err x → (step_of t).table ≡ t
  unfolding step_of
  refused_keeps =
      let s : Acted (Option ℕ) = advance (choose t) t in
      keeps_either t x (leb (2 ^ 48) t.clock) (refused_act t 15 0) (act_unless (fault t) 4 t s) (keeps_refused t x 15 0) (keeps_unless t x (fault t) 4 s (advance_keeps (choose t)))
