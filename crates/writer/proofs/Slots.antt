-- The writer's loops over the slots: the used ones, what is measured of them, their records.
use Rattle.std.specs.Prelude.{Option, None, Some, Ok}
use mathlib.Core.Path.{◌≡◌, refl, sym, ap, ap₂, ◌∙◌}
use mathlib.Core.List.{List, [], ◌∷◌, ◌++◌, append_assoc, append-nil}
use mathlib.Core.Bool.{Bool, true, false}
use Prim.Native.Nat.{ℕ, zero, suc, ◌+◌, ◌*◌, ◌≤◌, ◌<◌}
use native.Mathlib.Omega.{arith}
use native.Mathlib.Nat.{le_of_suc-le-suc, add_comm}
use native.Mathlib.Numerals.{add-one}
use lib.ListN.{length, take, drop, get_or, length-append}
use lib.Seq.{take_all, get_or-drop}
use Rattle.line.specs.declared.Held.{Held}
use Rattle.line.specs.declared.Held.TheVariants.{Nothing, Running, Waiting}
use Rattle.line.specs.declared.Slot.{Slot}
use Rattle.line.specs.Slots.{pick, empty, is_nothing, is_waiting, at, lowest_of}
use Rattle.line.proofs.After.{by_follows_lem}
use Rattle.line.proofs.Search.{Looking, look_on, look_stop, look_end}
use Rattle.card.specs.declared.Mark.{Mark}
use Rattle.card.specs.declared.SlotRecord.{SlotRecord}
use Rattle.card.specs.Layout.{is_free, line_length, record_length}
use Rattle.card.specs.Marked.{record_for, recorded_bytes}
use Rattle.card.specs.Card.{slot_record, slot_records, used_from, used}
use Rattle.card.proofs.Records.{bytes_length}
use Rattle.card.proofs.Slots.{used_some}
use Rattle.card.proofs.Length.{used_slots, records_length}
use Rattle.writer.specs.declared.Used.{Used}
use Rattle.writer.specs.Laid.{Laid}
use Rattle.writer.specs.Measured.{MeasuredRecords}
use Rattle.writer.proofs.Laid.{laid_nothing, laid_length, and_then}

-- R55: one slot more, and the used ones: all up to it where it holds something, else those before
used_next : (ss : List Slot) (i : ℕ) → i < length ss → used (take (suc i) ss) ≡ pick (is_nothing (at ss i)) (used (take i ss)) (suc i)
used_next [] i h = absurd (omega arith)
used_next (s ∷ ss) zero h = refl
used_next (s ∷ ss) (suc i) h = ap (used_from s.held) (used_next ss i (le_of_suc-le-suc h)) ∙ go (is_nothing (at ss i))
  where
    go : (o : Bool) → used_from s.held (pick o (used (take i ss)) (suc i)) ≡ pick o (used_from s.held (used (take i ss))) (suc (suc i))
    go true = refl
    go false = used_some (is_nothing s.held) (suc i) (λ a z. omega arith)

-- the first record, and then the others
pub records_first : (n : ℕ) (s : Slot) (ss : List Slot) (ts : List ℕ)
    → slot_records (suc n) (s ∷ ss) ts ≡ slot_record s.held (get_or ts 0 0) ++ slot_records n ss (drop 1 ts)
records_first n s ss [] = refl
records_first n s ss (t ∷ ts) = refl

-- one record more
pub records_next : (ss : List Slot) (ts : List ℕ) (i : ℕ) → i < length ss
    → slot_records (suc i) ss ts ≡ slot_records i ss ts ++ slot_record (get_or ss i empty).held (get_or ts i 0)
records_next [] ts i h = absurd (omega arith)
records_next (s ∷ ss) ts zero h = records_first 0 s ss ts ∙ append-nil (slot_record s.held (get_or ts 0 0))
records_next (s ∷ ss) ts (suc i) h =
    let v = slot_record (get_or ss i empty).held (get_or (drop 1 ts) i 0) in
    let w : get_or (drop 1 ts) i 0 ≡ get_or ts (suc i) 0 = get_or-drop 1 ts i 0 ∙ ap (λ (k : ℕ). get_or ts k 0) (add_comm 1 i ∙ add-one i) in
    records_first (suc i) s ss ts
    ∙ ap (λ (x : List ℕ). slot_record s.held (get_or ts 0 0) ++ x) (records_next ss (drop 1 ts) i (le_of_suc-le-suc h))
    ∙ sym (append_assoc (slot_record s.held (get_or ts 0 0)) (slot_records i ss (drop 1 ts)) v)
    ∙ ap₂ (λ (x : List ℕ) (y : ℕ). x ++ slot_record (get_or ss i empty).held y) (sym (records_first i s ss ts)) w

module _ (ss : List Slot) (ts : List ℕ) (i : ℕ) (h : i < length ss) where
  -- R54: one record more, as the code counts
  pub records_on : slot_records (i + 1) ss ts ≡ slot_records i ss ts ++ slot_record (get_or ss i empty).held (get_or ts i 0)
  records_on = ap (λ (j : ℕ). slot_records j ss ts) (add-one i) ∙ records_next ss ts i h

  -- and how long they are then
  pub length_on : length (slot_records (i + 1) ss ts) ≡ length (slot_records i ss ts) + length (slot_record (get_or ss i empty).held (get_or ts i 0))
  length_on = ap length records_on ∙ length-append (slot_records i ss ts) (slot_record (get_or ss i empty).held (get_or ts i 0))

-- fewer records are not longer
pub records_mono : (ss : List Slot) (ts : List ℕ) (i n : ℕ) → i ≤ n → length (slot_records i ss ts) ≤ length (slot_records n ss ts)
records_mono ss ts zero n h = omega arith
records_mono ss ts (suc i) zero h = absurd (omega arith)
records_mono [] ts (suc i) (suc n) h = omega arith
records_mono (s ∷ ss) ts (suc i) (suc n) h =
    let r = slot_record s.held (get_or ts 0 0) in
    let a = ap length (records_first i s ss ts) ∙ length-append r (slot_records i ss (drop 1 ts)) in
    let b = ap length (records_first n s ss ts) ∙ length-append r (slot_records n ss (drop 1 ts)) in
    let c = records_mono ss (drop 1 ts) i n (le_of_suc-le-suc h) in
    omega arith

-- there is no record
abbrev lacks : Option SlotRecord → Bool
lacks (Some r) = false
lacks None = true

-- R23: a waiting line has none, and all else has one
waiting_lacks : (h : Held) (t : ℕ) → is_waiting h ≡ lacks (record_for h t)
waiting_lacks Nothing t = refl
waiting_lacks (Running r) t = refl
waiting_lacks (Waiting w) t = refl

-- there is one, whose mark stands alone
abbrev alone : Option SlotRecord → Bool
alone (Some r) = is_free r.mark
alone None = false

-- R53: that is the record of a slot that holds nothing
nothing_alone : (h : Held) (t : ℕ) → is_nothing h ≡ alone (record_for h t)
nothing_alone Nothing t = refl
nothing_alone (Running r) t = by_follows_lem (λ (m : Mark). false ≡ is_free m) Mark.TB Mark.TL r.follows refl refl
nothing_alone (Waiting w) t = refl

-- the slot h has the record r
module _ (h : Held) (t : ℕ) (r : SlotRecord) (e : record_for h t ≡ Some r) where
  -- how long it is
  pub recorded_length : record_length r.mark ≡ length (slot_record h t)
  recorded_length = sym (ap (λ (x : Option SlotRecord). length (recorded_bytes x)) e ∙ bytes_length r)

  -- R55: the slot holds nothing exactly where its mark stands alone
  recorded_free : is_nothing h ≡ is_free r.mark
  recorded_free = nothing_alone h t ∙ ap alone e

  -- R23: no line waits there
  recorded_started : is_waiting h ≡ false
  recorded_started = waiting_lacks h t ∙ ap lacks e

-- R23: a slot that has none
module _ (h : Held) (t : ℕ) (e : record_for h t ≡ None) where
  -- its line waits
  unrecorded_waits : is_waiting h ≡ true
  unrecorded_waits = waiting_lacks h t ∙ ap lacks e

-- no line of the first i slots waits, and their records have all bytes; u says which of them are used, and what their records have
pub record Counted (ss : List Slot) (ts : List ℕ) (i all : ℕ) (u : Used) : Type 0 where
  pub looked : Looking (λ k. is_waiting (at ss k)) (length ss) i
  pub total : all ≡ length (slot_records i ss ts)
  pub last : u.slots ≡ used (take i ss)
  pub count : u.length ≡ length (slot_records u.slots ss ts)

module _ {ss : List Slot} {ts : List ℕ} {i all : ℕ} {u : Used} (m : Counted ss ts i all u) where
  -- R53: no record is longer than a line's
  pub counted_small : all ≤ line_length * i
  counted_small = omega (arith, records_length i ss ts, m.total)

  -- the next slot has the record x, of w bytes
  module _ (h : i < length ss) (x : SlotRecord) (e : record_for (at ss i) (get_or ts i 0) ≡ Some x) (w : ℕ) (f : w ≡ record_length x.mark) where
    looked_on : Looking (λ k. is_waiting (at ss k)) (length ss) (i + 1)
    looked_on = look_on m.looked h (recorded_started (at ss i) (get_or ts i 0) x e)

    total_on : all + w ≡ length (slot_records (i + 1) ss ts)
    total_on = let a = length_on ss ts i h in let b = recorded_length (at ss i) (get_or ts i 0) x e in omega (arith, m.total)

    used_on : {o : Bool} → is_free x.mark ≡ o → pick o u.slots (i + 1) ≡ used (take (i + 1) ss)
    used_on {o} g =
        ap₂ (pick o) m.last (add-one i)
        ∙ sym (ap (λ (k : ℕ). used (take k ss)) (add-one i) ∙ used_next ss i h
        ∙ ap (λ (b : Bool). pick b (used (take i ss)) (suc i)) (recorded_free (at ss i) (get_or ts i 0) x e ∙ g))

    -- R55: TF: no slot more is used
    pub counted_free : is_free x.mark ≡ true → Counted ss ts (i + 1) (all + w) u
    counted_free g = record {
      looked = looked_on;
      total = total_on;
      last = used_on g;
      count = m.count;
    }

    -- R53, R55: a line: all slots up to it are used
    pub counted_line : is_free x.mark ≡ false → Counted ss ts (i + 1) (all + w) (record { slots = i + 1; length = all + w })
    counted_line g = record {
      looked = looked_on;
      total = total_on;
      last = used_on g;
      count = total_on;
    }

  -- R23: the first slot without a record is the lowest whose line waits
  pub counted_stop : i < length ss → record_for (at ss i) (get_or ts i 0) ≡ None → lowest_of is_waiting ss ≡ Some i
  counted_stop h e = look_stop m.looked h (unrecorded_waits (at ss i) (get_or ts i 0) e)

  -- R23, R53, R55: every slot is looked at, and no line waits
  pub counted_end : length ss ≤ i → (lowest_of is_waiting ss ≡ None) × (u.slots ≡ used ss) × (u.length ≡ length (slot_records u.slots ss ts))
  counted_end h = (look_end m.looked h, m.last ∙ ap used (take_all i ss h), m.count)

  -- R23, R53, R55: all sixteen slots are looked at, and no line waits
  pub measured_end : length ss ≡ 16 → 16 ≤ i → MeasuredRecords ss ts (Ok u)
  measured_end h k = let p = counted_end (omega arith) in (p.0, p.1, omega (arith, p.1, used_slots ss), p.2)

-- i of n records stand in the buffer l, which was l₀, from a to b
pub record Put (l₀ : List ℕ) (ss : List Slot) (ts : List ℕ) (n : ℕ) (l : List ℕ) (a b i : ℕ) : Type 0 where
  pub few : i ≤ n
  pub slots : n ≤ length ss
  pub room : a + length (slot_records n ss ts) ≤ length l₀
  pub put : Laid l₀ l a b (slot_records i ss ts)

-- no record is put yet
pub put_start : (l₀ : List ℕ) (ss : List Slot) (ts : List ℕ) (n a : ℕ) → n ≤ length ss → a + length (slot_records n ss ts) ≤ length l₀
    → Put l₀ ss ts n l₀ a a 0
put_start l₀ ss ts n a h k = record { few = omega arith; slots = h; room = k; put = laid_nothing l₀ a (omega arith) }

module _ {l₀ : List ℕ} {ss : List Slot} {ts : List ℕ} {n : ℕ} {l : List ℕ} {a b i : ℕ} (m : Put l₀ ss ts n l a b i) (h : i < n) where
  -- there is room for the next record
  pub put_room : b + length (slot_record (get_or ss i empty).held (get_or ts i 0)) ≤ length l
  put_room = omega (arith, length_on ss ts i (omega (arith, m.slots)), records_mono ss ts (i + 1) n (omega arith), laid_length m.put, m.room, m.put.end)

  -- R54: the next slot's record stands behind the last
  pub put_next : {k : List ℕ} {c : ℕ} → Laid l k b c (slot_record (get_or ss i empty).held (get_or ts i 0)) → Put l₀ ss ts n k a c (i + 1)
  put_next {k} {c} p = record {
    few = omega arith;
    slots = m.slots;
    room = m.room;
    put = rw (records_on ss ts i (omega (arith, m.slots))) (and_then m.put p);
  }

  -- R23: where it has none no byte is put
  pub put_none : record_for (get_or ss i empty).held (get_or ts i 0) ≡ None → Put l₀ ss ts n l a b (i + 1)
  put_none e = put_next (rw e (laid_nothing l b (omega (arith, put_room))))

-- R54: every record is put
pub put_end : {l₀ : List ℕ} {ss : List Slot} {ts : List ℕ} {n : ℕ} {l : List ℕ} {a b i : ℕ} → Put l₀ ss ts n l a b i → n ≤ i
    → Laid l₀ l a b (slot_records n ss ts)
put_end {l₀} {ss} {ts} {n} {l} {a} {b} {i} m h = let j : i ≡ n = omega (arith, m.few) in rw j at m.put
