-- A card that reads is written back as its twin, and as it was where it has no TA (R72).
use Rattle.std.specs.Prelude.{Option, None, Some, Ok, Err}
use mathlib.Core.Path.{◌≡◌, refl, sym, ap, ap₂, subst, ◌∙◌}
use mathlib.Core.List.{List, [], ◌∷◌, ◌++◌, append_assoc, map}
use mathlib.Core.Bool.{Bool, true, false}
use Prim.Native.Nat.{ℕ, zero, suc, ◌+◌, ◌≤◌, ◌<◌}
use native.Mathlib.Omega.{arith}
use lib.ListN.{length, take, drop, replicate, drop_of_length-le, take-append-drop}
use lib.Seq.{take_at}
use lib.Dec.{leb, eqb}
use borrow.Author.Tests.{leb-true, eqb-true}
use Rattle.line.specs.declared.Slot as line-slot
use Rattle.line.specs.Slots.{pick, both, is_nothing}
use Rattle.line.proofs.Search.{true_false}
use Rattle.line.proofs.Sound.{both_says}
use Rattle.table.specs.Words.{Said}
use Rattle.card.specs.declared.SlotRecord.{SlotRecord}
use Rattle.card.specs.declared.Record.{Record}
use Rattle.card.specs.declared.Record.TheVariants.{Slot, Last}
use Rattle.card.specs.Bytes.{Bytes, value, marked}
use Rattle.card.specs.Layout.{CK, is_free, clock_at, need_at, period_at, clock_length, last_length, record_length}
use Rattle.card.specs.Marked.{free, record_bytes, held_under, slot_for, entry_for, twin, recorded_bytes, Records}
use Rattle.card.specs.declared.Card.{Card}
use Rattle.card.specs.Card.{clock_record, request_record, slot_record, slot_records, one_more, used_from, used, card_of, AllCarried, Fits}
use Rattle.card.specs.Reading.{put_in_front, ending, broken, closing, step, record_of, records_of, records_with, card_for, meaning, read_with}
use Rattle.card.specs.Twin.{word_of, is_old, turned_in, turned_with, twin_step, twin_from, twin_with}
use Rattle.card.proofs.Turned.{word_none}
use Rattle.card.proofs.Twins.{twin_new, twin_fits}
use Rattle.card.proofs.Numbers.{bytes_drop, le_value, value_lt}
use Rattle.card.proofs.Marks.{marked_is}
use Rattle.card.proofs.Records.{Stands, stands, last_is_lem}
use Rattle.card.proofs.Slots.{free_holds, used_some}

-- the slots that the records stand for
abbrev pub slots_in : Records → List line-slot.Slot
slots_in m = map slot_for m.slots

-- and their entries
abbrev pub entries_in : Records → List ℕ
entries_in m = map entry_for m.slots

-- what records read from the bytes l with the twin y, with n slots left, owe them; after a TF something is still held
pub record Owes (k n : ℕ) (gap : Bool) (l y : List ℕ) (m : Records) : Type 0 where
  pub bytes : slot_records (used (slots_in m)) (slots_in m) (entries_in m) ++ request_record m.need m.period ≡ y
  pub same : word_of (map is_old m.slots) ≡ 0 → y ≡ l
  pub held : gap ≡ true → used (slots_in m) ≡ 0 → ⊥
  pub clock : m.clock ≡ k
  pub slots : length (slots_in m) ≡ n
  pub lines : AllCarried (slots_in m) (entries_in m)
  pub need : m.need < 65536
  pub period : m.period < 65536

-- what was read owes the bytes; a refusal owes nothing
abbrev pub Right : (k n : ℕ) → Bool → (l y : List ℕ) → Said Records → Type 0
Right k n gap l y (Ok m) = Owes k n gap l y m
Right k n gap l y (Err r) = Unit {0}

-- a slot's record in front of others
right_slot : (k n : ℕ) (gap : Bool) (l y : List ℕ) → Bytes l → (r : SlotRecord) → Stands (suc n) l (Some (Slot r))
    → (s : Said Records) → Right k n (is_free r.mark) (drop (record_length r.mark) l) y s
    → Right k (suc n) gap l (record_bytes (twin r) ++ y) (put_in_front (r ∷ []) s)
right_slot k n gap l y b r st (Ok m) h =
    let x = held_under r.mark r in
    let u = used (slots_in m) in
    let rq = request_record m.need m.period in
    let fr = st.2 b in
    let e : used_from x u ≡ suc u = used_some (is_nothing x) u (λ a z. h.held (sym (free_holds r) ∙ a) z) in
    record {
      bytes =
          ap (λ (j : ℕ). slot_records j (slot_for r ∷ slots_in m) (entry_for r ∷ entries_in m) ++ rq) e
          ∙ append_assoc (slot_record x r.stretched) (slot_records u (slots_in m) (entries_in m)) rq
          ∙ ap₂ (λ (x z : List ℕ). x ++ z) (ap recorded_bytes st.3) h.bytes;
      same = λ z.
          let w = word_none (is_old r) (map is_old m.slots) z in
          ap₂ (λ (x z : List ℕ). x ++ z) (ap record_bytes (twin_new r w.0)) (h.same w.1) ∙ sym fr.0;
      held = λ g z. omega (arith, e, z);
      clock = h.clock;
      slots = ap suc h.slots;
      lines = (rw st.3 (twin_fits r fr.1), h.lines);
      need = h.need;
      period = h.period;
    }
right_slot k n gap l y b r st (Err x) h = tt

slots_none : (n : ℕ) → used (map slot_for (replicate n free)) ≡ 0
slots_none zero = refl
slots_none (suc n) = ap one_more (slots_none n)

length_none : (n : ℕ) → length (map slot_for (replicate n free)) ≡ n
length_none zero = refl
length_none (suc n) = ap suc (length_none n)

carried_none : (n : ℕ) → AllCarried (map slot_for (replicate n free)) (map entry_for (replicate n free))
carried_none zero = tt
carried_none (suc n) = (refl, carried_none n)

right_closing : (k n : ℕ) (gap : Bool) (at : ℕ) (l : List ℕ) (c t : ℕ) → l ≡ request_record c t ++ drop last_length l → c < 65536 → t < 65536
    → Right k n gap l l (closing gap at (length l) (ending k n c t))
right_closing k n true at l c t e hc ht = tt
right_closing k n false at l c t e hc ht = go (eqb (length l) last_length) refl
  where
    go : (b : Bool) → eqb (length l) last_length ≡ b → Right k n false l l (pick b (Ok (ending k n c t)) (broken (at + last_length)))
    go true h =
        let z : drop last_length l ≡ [] = drop_of_length-le l {i = last_length} (omega (arith, eqb-true (length l) last_length h)) in
        record {
          bytes =
              ap (λ (u : ℕ). slot_records u (map slot_for (replicate n free)) (map entry_for (replicate n free)) ++ request_record c t) (slots_none n)
              ∙ ap (λ (x : List ℕ). request_record c t ++ x) (sym z) ∙ sym e;
          same = λ w. refl;
          held = λ g u. true_false g refl;
          clock = refl;
          slots = length_none n;
          lines = carried_none n;
          need = hc;
          period = ht;
        }
    go false h = tt

right_last : (k n : ℕ) (gap : Bool) (at : ℕ) (l : List ℕ) → Bytes l → (c t : ℕ) → Stands n l (Some (Last c t))
    → Right k n gap l l (closing gap at (length l) (ending k n c t))
right_last k n gap at l b c t s =
    let e : l ≡ request_record c t ++ drop last_length l = rw (s.2, s.3) (last_is_lem l b s.1 s.0) in
    right_closing k n gap at l c t e (rw s.2 (value_lt 2 l need_at b)) (rw s.3 (value_lt 2 l period_at b))

-- R72: whatever is read from bytes owes them
pub right : (k n : ℕ) (gap : Bool) (at : ℕ) (l : List ℕ) → Bytes l → Right k n gap l (twin_from n l) (records_of k n gap at l)
unfolding records_of twin_from
right k zero gap at l b = go (record_of 0 l) (stands 0 l)
  where
    go : (r : Option Record) → Stands 0 l r → Right k 0 gap l l (step k 0 gap at l (λ g a x. broken at) r)
    go (Some (Slot r)) s = tt
    go (Some (Last c t)) s = right_last k 0 gap at l b c t s
    go None s = tt
right k (suc n) gap at l b = go (record_of (suc n) l) (stands (suc n) l) (λ g a w. right k n g a (drop w l) (bytes_drop w l b))
  where
    go : (r : Option Record) → Stands (suc n) l r → ((g : Bool) (a w : ℕ) → Right k n g (drop w l) (twin_from n (drop w l)) (records_of k n g a (drop w l)))
        → Right k (suc n) gap l (twin_step l (twin_from n) r) (step k (suc n) gap at l (records_of k n) r)
    go (Some (Slot r)) s x =
        right_slot k n gap l (twin_from n (drop (record_length r.mark) l)) b r s (records_of k n (is_free r.mark) (at + record_length r.mark) (drop (record_length r.mark) l))
        (x (is_free r.mark) (at + record_length r.mark) (record_length r.mark))
    go (Some (Last c t)) s x = right_last k (suc n) gap at l b c t s
    go None s x = tt

clock_is : (l : List ℕ) → Bytes l → marked CK l ≡ true → clock_length ≤ length l → l ≡ clock_record (value 8 l clock_at) ++ drop clock_length l
clock_is l b m h = marked_is CK l m ∙ ap (λ (x : List ℕ). CK ++ x) (le_value 8 l clock_at b h)

-- the card of c is the twin of the bytes, which is themselves where no record is TA; and it fits
abbrev pub Back : ℕ → List ℕ → Card → (turned : ℕ) → Type 0
Back n l c w = (card_of c.table c.request ≡ twin_with n l) × (w ≡ 0 → twin_with n l ≡ l) × Fits n c.table c.request

-- R72: what the records stand for fits, and its card is the twin of what was read
pub records_back : (n : ℕ) (l : List ℕ) → Bytes l → (m : Records) → records_with n l ≡ Ok m → Back n l (card_for m) (turned_in (Ok m))
unfolding card_of twin_with
records_back n l b m e = go (both (leb clock_length (length l)) (marked CK l)) refl e
  where
    go : (o : Bool) → both (leb clock_length (length l)) (marked CK l) ≡ o
        → pick o (records_of (value 8 l clock_at) n false clock_length (drop clock_length l)) (broken 0) ≡ Ok m
        → (clock_record m.clock ++ (slot_records (used (slots_in m)) (slots_in m) (entries_in m) ++ request_record m.need m.period)
        ≡ take clock_length l ++ twin_from n (drop clock_length l))
        × (word_of (map is_old m.slots) ≡ 0 → take clock_length l ++ twin_from n (drop clock_length l) ≡ l)
        × Fits n (card_for m).table (card_for m).request
    go true h q =
        let t = both_says (leb clock_length (length l)) (marked CK l) h in
        let h = leb-true clock_length (length l) t.0 in
        let r : Owes (value 8 l clock_at) n false (drop clock_length l) (twin_from n (drop clock_length l)) m =
        rw q at (right (value 8 l clock_at) n false clock_length (drop clock_length l) (bytes_drop clock_length l b)) in
        let front : clock_record (value 8 l clock_at) ≡ take clock_length l =
        sym (ap (take clock_length) (clock_is l b t.1 h) ∙ take_at (clock_record (value 8 l clock_at)) (drop clock_length l) clock_length refl) in (
          ap₂ (λ (k : ℕ) (x : List ℕ). clock_record k ++ x) r.clock r.bytes ∙ ap (λ (x : List ℕ). x ++ twin_from n (drop clock_length l)) front,
          (λ z. ap (λ (x : List ℕ). take clock_length l ++ x) (r.same z) ∙ take-append-drop clock_length l),
          record {
            slots = r.slots;
            clock = rw r.clock (value_lt 8 l clock_at b);
            lines = r.lines;
            need = r.need;
            period = r.period;
          },
        )
    go false h q = cc

-- a card that reads
module _ (n : ℕ) (l : List ℕ) (b : Bytes l) (c : Card) (e : read_with n l ≡ Ok c) where
  back : Back n l c (turned_with n l)
  unfolding read_with turned_with
  back = go (records_with n l) (records_back n l b) e
    where
      go : (s : Said Records) → ((m : Records) → s ≡ Ok m → Back n l (card_for m) (turned_in (Ok m))) → meaning s ≡ Ok c → Back n l c (turned_in s)
      go (Ok m) h q = let p : card_for m ≡ c = cc in subst (λ (x : Card). Back n l x (turned_in (Ok m))) p (h m refl)
      go (Err r) h q = cc

  -- R72: its table and request are written as its twin
  pub writes_twin : card_of c.table c.request ≡ twin_with n l
  writes_twin = back.0

  -- R2, R6: they fit
  pub read_fits : Fits n c.table c.request
  read_fits = back.2

  -- R72: a card without TA is its own twin
  pub own_twin : turned_with n l ≡ 0 → twin_with n l ≡ l
  own_twin = back.1

  -- R72: and is written back byte for byte
  pub writes_back : turned_with n l ≡ 0 → card_of c.table c.request ≡ l
  writes_back z = writes_twin ∙ own_twin z
