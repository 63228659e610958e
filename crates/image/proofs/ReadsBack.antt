-- An image loads as its table (R82), and how long it is.
use Rattle.std.specs.Prelude.{Ok, Option, None}
use mathlib.Core.Path.{◌≡◌, refl, sym, ap, ap₂, ◌∙◌}
use mathlib.Core.List.{List, [], ◌∷◌, ◌++◌, append_assoc}
use Prim.Native.Nat.{ℕ, ◌+◌, ◌*◌, ◌<◌}
use native.Mathlib.Omega.{arith}
use lib.ListN.{length, drop, length-append}
use lib.Seq.{drop_at, drop-drop}
use borrow.Author.Tests.{eq-eqb}
use Rattle.periods.specs.Multiples.{All}
use Rattle.line.specs.declared.Held.{Held}
use Rattle.line.specs.declared.Held.TheVariants.{Nothing, Running, Waiting}
use Rattle.line.specs.declared.Slot.{Slot}
use Rattle.line.specs.Slots.{holding, lowest}
use Rattle.table.specs.declared.Table.{Table}
use Rattle.table.specs.Words.{table_with, with_counts, with_departed, with_last, Said}
use Rattle.card.specs.Bytes.{le, value}
use Rattle.card.proofs.Numbers.{value_le}
use Rattle.image.specs.Image.{version, counts_at, idle_at, departed_at, last_at, size, run_kind, nine, by_fields, slot_bytes, slots_bytes, counts_bytes, image_of, Narrow, AllNarrow, InEight, TableWidths}
use Rattle.image.specs.Loading.{byte, blank_from, slot_wrong, slots_wrong, length_wrong, wrong_in, held_in, slots_in, counts_in, table_in, unless_wrong, load_with}
use Rattle.image.proofs.RunKinds.{run_kind_small, run_in_lem, run_right}
use Rattle.image.proofs.Eight.{value_front, byte_front}
use Rattle.image.proofs.Series.{length_series, series_back}

-- what holds of any kind up to 3 and any four numbers holds of what a slot holds
pub of_fields : {A : Type 0} (P : A → Type 0) (f : ℕ → ℕ → ℕ → ℕ → ℕ → A) → ((k a b c d : ℕ) → k < 4 → P (f k a b c d)) → (h : Held) → P (by_fields f h)
of_fields P f w Nothing = w 0 0 0 0 0 (omega arith)
of_fields P f w (Running r) = w (run_kind r.follows) r.need r.period r.age r.remaining (run_kind_small r.follows)
of_fields P f w (Waiting x) = w 2 x.need x.period x.wait 0 (omega arith)

-- R81: a slot has nine bytes
pub length_slot : (h : Held) → length (slot_bytes h) ≡ 9
length_slot h = of_fields (λ l. length l ≡ 9) nine (λ k a b c d q. refl) h

-- R81: so many slots have nine times as many
pub length_slots : (ss : List Slot) → length (slots_bytes ss) ≡ 9 * length ss
length_slots ss = length_series (λ (s : Slot). slot_bytes s.held) 9 (λ s. length_slot s.held) ss

-- R81: and so many counts eight times
pub length_counts : (ns : List ℕ) → length (counts_bytes ns) ≡ 8 * length ns
length_counts ns = length_series (le 8) 8 (λ v. refl) ns

-- R81: how long an image is
pub length_image : (n : ℕ) (t : Table) → length t.slots ≡ n → length t.had ≡ n → length (image_of t) ≡ size n
unfolding image_of
length_image n t e f =
    let s = slots_bytes t.slots in
    let c = counts_bytes t.had in
    let i = le 8 t.idle in
    let d = le 8 t.departed in
    omega (arith, length-append (s ++ c ++ i ++ d) (t.last ∷ []), length-append (s ++ c ++ i) d, length-append (s ++ c) i, length-append s c, length_slots t.slots, length_counts t.had)

-- R82: nothing is wrong with a slot's nine bytes, what it holds stands in them, and what follows stands behind them
pub loads_slot : (h : Held) (x : List ℕ) → Narrow h
    → (slot_wrong (slot_bytes h ++ x) ≡ None) × (held_in (slot_bytes h ++ x) ≡ h) × (drop 9 (slot_bytes h ++ x) ≡ x)
unfolding lowest blank_from held_in
loads_slot Nothing x f = (refl, refl, refl)
loads_slot (Running r) x f =
    let l = slot_bytes (Running r) ++ x in
    let a : value 2 l 1 ≡ r.need = value_le 2 r.need [] f.0 in
    let b : value 2 l 3 ≡ r.period = value_le 2 r.period [] f.1 in
    let c : value 2 l 5 ≡ r.age = value_le 2 r.age [] f.2 in
    let d : value 2 l 7 ≡ r.remaining = value_le 2 r.remaining [] f.3 in
    (run_right r.follows l refl, run_in_lem r.follows l refl ∙ simp (a, b, c, d), refl)
loads_slot (Waiting w) x f =
    let l = slot_bytes (Waiting w) ++ x in
    let a : value 2 l 1 ≡ w.need = value_le 2 w.need [] f.0 in
    let b : value 2 l 3 ≡ w.period = value_le 2 w.period [] f.1 in
    let c : value 2 l 5 ≡ w.wait = value_le 2 w.wait [] f.2 in
    (refl, simp (a, b, c), refl)

-- R83: nothing is wrong with the slots one by one, from any offset on, whatever follows them
no_slot_wrong : (ss : List Slot) (at : ℕ) (y : List ℕ) → AllNarrow ss → slots_wrong (length ss) at (slots_bytes ss ++ y) ≡ None
unfolding slots_wrong
no_slot_wrong [] at y f = refl
no_slot_wrong (s ∷ ss) at y f =
    let e = loads_slot s.held (slots_bytes ss ++ y) f.0 in
    rw (append_assoc (slot_bytes s.held) (slots_bytes ss) y, e.0, e.2) (no_slot_wrong ss (at + 9) y f.1)

-- R82: the slots are what stands in their bytes
slots_back : (ss : List Slot) (y : List ℕ) → AllNarrow ss → slots_in (length ss) (slots_bytes ss ++ y) ≡ ss
slots_back =
    series_back 9 (λ (x : List ℕ). holding (held_in x)) (λ (s : Slot). slot_bytes s.held) (λ (s : Slot). Narrow s.held)
    (λ s y f. let e = loads_slot s.held y f in (ap holding e.1, e.2))

-- R82: and the counts in theirs
counts_back : (ns : List ℕ) (y : List ℕ) → All InEight ns → counts_in (length ns) (counts_bytes ns ++ y) ≡ ns
counts_back = series_back 8 (λ (x : List ℕ). value 8 x 0) (le 8) InEight (λ v y h. (value_le 8 v y h, refl))

-- a table with the code's widths, and what stands in its image behind its front, behind the slots, behind their counts, behind the idle one and behind the departed one
module _ (n : ℕ) (t : Table) (w : TableWidths n t) where
  first_byte : byte (image_of t) 0 ≡ version
  unfolding image_of
  first_byte = refl

  abbrev departed_on : List ℕ
  departed_on = le 8 t.departed ++ (t.last ∷ [])

  abbrev idle_on : List ℕ
  idle_on = le 8 t.idle ++ departed_on

  abbrev tail : List ℕ
  tail = counts_bytes t.had ++ idle_on

  behind_front : drop 9 (image_of t) ≡ slots_bytes t.slots ++ tail
  unfolding image_of
  behind_front =
      append_assoc (slots_bytes t.slots ++ counts_bytes t.had ++ le 8 t.idle) (le 8 t.departed) (t.last ∷ [])
      ∙ append_assoc (slots_bytes t.slots ++ counts_bytes t.had) (le 8 t.idle) departed_on
      ∙ append_assoc (slots_bytes t.slots) (counts_bytes t.had) idle_on

  behind_slots : drop (counts_at n) (image_of t) ≡ tail
  behind_slots =
      sym (drop-drop (9 * n) 9 (image_of t)) ∙ ap (drop (9 * n)) behind_front
      ∙ drop_at (slots_bytes t.slots) tail (9 * n) (length_slots t.slots ∙ ap (λ (k : ℕ). 9 * k) w.slots)

  behind_counts : drop (idle_at n) (image_of t) ≡ idle_on
  behind_counts =
      sym (drop-drop (8 * n) (counts_at n) (image_of t)) ∙ ap (drop (8 * n)) behind_slots
      ∙ drop_at (counts_bytes t.had) idle_on (8 * n) (length_counts t.had ∙ ap (λ (k : ℕ). 8 * k) w.counts)

  behind_idle : drop (departed_at n) (image_of t) ≡ departed_on
  behind_idle = sym (drop-drop 8 (idle_at n) (image_of t)) ∙ ap (drop 8) behind_counts

  behind_departed : drop (last_at n) (image_of t) ≡ t.last ∷ []
  behind_departed = sym (drop-drop 8 (departed_at n) (image_of t)) ∙ ap (drop 8) behind_idle

  slots_stored : slots_wrong n 9 (drop 9 (image_of t)) ≡ None
  slots_stored =
      ap (slots_wrong n 9) behind_front ∙ ap (λ (k : ℕ). slots_wrong k 9 (slots_bytes t.slots ++ tail)) (sym w.slots)
      ∙ no_slot_wrong t.slots 9 tail w.lines

  -- R83: nothing is wrong with an image
  pub image_right : wrong_in n (image_of t) ≡ None
  unfolding wrong_in length_wrong
  image_right = rw (first_byte, slots_stored, eq-eqb (length (image_of t)) (size n) (length_image n t w.slots w.counts))

  clock_back : value 8 (image_of t) 1 ≡ t.clock
  unfolding image_of
  clock_back = value_le 8 t.clock [] w.clock

  -- R82: the table in an image is the one that it is of
  table_back : table_in n (image_of t) ≡ t
  table_back =
      let behind : Table → Table = λ u. with_last (with_departed u (value 8 (image_of t) (departed_at n))) (byte (image_of t) (last_at n)) in
      ap₂ (λ (k : ℕ) (ss : List Slot). behind (with_counts (table_with k ss) (counts_in n (drop (counts_at n) (image_of t))) (value 8 (image_of t) (idle_at n)))) clock_back slots
      ∙ ap₂ (λ (ns : List ℕ) (v : ℕ). behind (with_counts (table_with t.clock t.slots) ns v)) had idle
      ∙ ap₂ (λ (v k : ℕ). with_last (with_departed (with_counts (table_with t.clock t.slots) t.had t.idle) v) k) departed last
    where
      slots : slots_in n (drop 9 (image_of t)) ≡ t.slots
      slots =
          ap (slots_in n) behind_front ∙ ap (λ (k : ℕ). slots_in k (slots_bytes t.slots ++ tail)) (sym w.slots)
          ∙ slots_back t.slots tail w.lines

      had : counts_in n (drop (counts_at n) (image_of t)) ≡ t.had
      had =
          ap (counts_in n) behind_slots ∙ ap (λ (k : ℕ). counts_in k tail) (sym w.counts)
          ∙ counts_back t.had idle_on w.had

      number : (o v : ℕ) (y : List ℕ) → drop o (image_of t) ≡ le 8 v ++ y → InEight v → value 8 (image_of t) o ≡ v
      number o v y e h = sym (value_front 8 o (image_of t)) ∙ ap (λ (x : List ℕ). value 8 x 0) e ∙ value_le 8 v y h

      idle : value 8 (image_of t) (idle_at n) ≡ t.idle
      idle = number (idle_at n) t.idle departed_on behind_counts w.idle

      departed : value 8 (image_of t) (departed_at n) ≡ t.departed
      departed = number (departed_at n) t.departed (t.last ∷ []) behind_idle w.departed

      last : byte (image_of t) (last_at n) ≡ t.last
      last = sym (byte_front (last_at n) (image_of t)) ∙ ap (λ (x : List ℕ). byte x 0) behind_departed

  -- R82: an image loads as its table
  pub loads_back : load_with n (image_of t) ≡ Ok t
  unfolding load_with
  loads_back = ap (λ (o : Option ℕ). unless_wrong o (table_in n (image_of t))) image_right ∙ ap Ok table_back

-- R82: no two tables have the same image
pub one_image : (n : ℕ) (t u : Table) → TableWidths n t → TableWidths n u → image_of t ≡ image_of u → t ≡ u
one_image n t u v w e =
    let h : ◌≡◌ {A = Said Table} (Ok t) (Ok u) = sym (loads_back n t v) ∙ ap (load_with n) e ∙ loads_back n u w in
    cc
