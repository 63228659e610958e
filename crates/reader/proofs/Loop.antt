-- What the reader's loop over the records keeps, and what each of its ways does. n is the number of slots.
use Rattle.std.specs.Prelude.{None, Some, Ok, Err}
use mathlib.Core.Path.{◌≡◌, refl, sym, ap, ap₂, ◌∙◌}
use mathlib.Core.List.{List, [], ◌∷◌, ◌++◌, map}
use mathlib.Core.Bool.{Bool, true, false}
use Prim.Native.Nat.{ℕ, zero, suc, ◌+◌, ◌*◌, ◌%◌, ◌-◌, ◌^◌, ◌≤◌, ◌<◌}
use native.Mathlib.Omega.{arith}
use native.Mathlib.Numerals.{add-one}
use lib.ListN.{length, take, drop, set, replicate, length-drop, length-map, length-set, take-append-drop}
use lib.Seq.{take-suc-set, drop-set-lt, drop-drop}
use lib.Dec.{eqb}
use lib.Bits.{bit_or, or_shifted_r}
use borrow.Author.Tests.{eq-eqb, ne_eqb}
use mir.Val.{bool_byte}
use Rattle.line.specs.Slots.{pick, empty}
use Rattle.line.proofs.Bits.{or_bit}
use Rattle.table.specs.declared.Table.{Table}
use Rattle.table.specs.declared.Request.{Request}
use Rattle.table.specs.Words.{table_with, with_slots, request_with, Said}
use Rattle.table.proofs.Counts.{still_unbooked}
use Rattle.card.specs.declared.SlotRecord.{SlotRecord}
use Rattle.card.specs.declared.Record.TheVariants.{Slot, Last}
use Rattle.card.specs.Bytes.{value, marked}
use Rattle.card.specs.Layout.{CK, is_free, clock_at, clock_length, last_length, record_length}
use Rattle.card.specs.Marked.{free, slot_for, entry_for, Records, saying}
use Rattle.card.specs.Card.{carrying}
use Rattle.card.specs.Reading.{put_in_front, ending, closing, broken, record_of, records_of, card_for, read_with, read_of}
use Rattle.card.specs.Twin.{word_of, is_old, turned_in, turned_with, turned_of}
use Rattle.card.specs.Answers.{reading_with, reading_of}
use Rattle.card.proofs.Turned.{word_small, word_set}
use Rattle.card.proofs.Records.{seen_stands}
use Rattle.card.proofs.Steps.{reads_clock, records_slot, records_last, records_refused, in_front_twice, in_front_nothing}

-- the records behind the clock's, read with n slots
abbrev pub reading : ℕ → List ℕ → Said Records
reading n l = records_of (value 8 l clock_at) n false clock_length (drop clock_length l)

-- R54: of a card that CK opens the records behind it are read
pub read_clock : (l : List ℕ) → clock_length ≤ length l → marked CK l ≡ true → reading_of (reading 16 l) ≡ reading_with (turned_of l) (read_of l)
unfolding read_with turned_with
read_clock l h e = ap reading_of (sym (reads_clock 16 l h e))

-- i records are read, the next stands at an offset, and what is read there gives the whole
pub record Mid (n : ℕ) (l : List ℕ) (rs : List SlotRecord) (at i : ℕ) (gap : Bool) : Type 0 where
  pub few : i ≤ n
  pub room : at ≤ length l
  pub long : length rs ≡ n
  pub rest : drop i rs ≡ replicate (n - i) free
  pub whole : reading n l ≡ put_in_front (take i rs) (records_of (value 8 l clock_at) (n - i) gap at (drop at l))

-- no record is read: all are TF
pub mid_start : (l : List ℕ) → clock_length ≤ length l → Mid 16 l (replicate 16 free) clock_length 0 false
mid_start l h = record {
  few = omega arith;
  room = h;
  long = refl;
  rest = refl;
  whole = sym (in_front_nothing (reading 16 l));
}

rest_next : (n : ℕ) (rs : List SlotRecord) (i : ℕ) → 0 < n - i → drop i rs ≡ replicate (n - i) free → drop (i + 1) rs ≡ replicate (n - (i + 1)) free
rest_next n rs i h e =
    let p : n - i ≡ suc (n - (i + 1)) = omega arith in
    sym (drop-drop 1 i rs) ∙ ap (drop 1) (e ∙ ap (λ (k : ℕ). replicate k free) p)

-- RQ at an offset of a card that is len bytes long
module _ {A : Type 0} (gap : Bool) (at len : ℕ) (c : A) where
  -- R57: TF stands before RQ
  pub closing_gap : gap ≡ true → closing gap at (len - at) c ≡ broken at
  closing_gap g = ap (λ (o : Bool). closing o at (len - at) c) g

  -- R57: RQ is not the end of the card
  pub closing_more : gap ≡ false → (len ≡ at + last_length → ⊥) → closing gap at (len - at) c ≡ broken (at + last_length)
  closing_more g h =
      ap₂ (λ (o u : Bool). pick o (broken at) (pick u (Ok c) (broken (at + last_length)))) g (ne_eqb (len - at) last_length (λ e. h (omega arith)))

  -- R57: RQ ends the card
  pub closing_good : gap ≡ false → len ≡ at + last_length → closing gap at (len - at) c ≡ Ok c
  closing_good g h =
      ap₂ (λ (o u : Bool). pick o (broken at) (pick u (Ok c) (broken (at + last_length)))) g (eq-eqb (len - at) last_length (omega arith))

-- what was tested, and then c
abbrev pub then_gives : {A : Type 0} → Said (Unit {0}) → A → Said A
then_gives (Ok u) c = Ok c
then_gives (Err r) c = Err r

-- R57: RQ is tested before anything is handed out
pub closing_first : {A : Type 0} (gap : Bool) (at b : ℕ) (c : A) → closing gap at b c ≡ then_gives (closing gap at b (tt {0})) c
closing_first gap at b c = go gap (eqb b last_length)
  where
    go : (o u : Bool) → pick o (broken at) (pick u (Ok c) (broken (at + last_length))) ≡ then_gives (pick o (broken at) (pick u (Ok (tt {0})) (broken (at + last_length)))) c
    go true u = refl
    go false true = refl
    go false false = refl

-- what is read of the records that RQ closes
reading_closing : (gap : Bool) (at b : ℕ) (m : Records) → reading_of (closing gap at b m) ≡ reading_with (turned_in (Ok m)) (closing gap at b (card_for m))
reading_closing true at b m = refl
reading_closing false at b m = go (eqb b last_length)
  where
    go : (o : Bool) → reading_of (pick o (Ok m) (broken (at + last_length))) ≡ reading_with (turned_in (Ok m)) (pick o (Ok (card_for m)) (broken (at + last_length)))
    go true = refl
    go false = refl

-- the records in front of what RQ gives
in_front_closing : (rs : List SlotRecord) (gap : Bool) (at b k left c t : ℕ)
    → put_in_front rs (closing gap at b (ending k left c t)) ≡ closing gap at b (saying k (rs ++ replicate left free) c t)
in_front_closing rs true at b k left c t = refl
in_front_closing rs false at b k left c t = go (eqb b last_length)
  where
    go : (o : Bool) → put_in_front rs (pick o (Ok (ending k left c t)) (broken (at + last_length)))
        ≡ pick o (Ok (saying k (rs ++ replicate left free) c t)) (broken (at + last_length))
    go true = refl
    go false = refl

-- a record is seen at the offset
module _ {n : ℕ} {l : List ℕ} {rs : List SlotRecord} {at i : ℕ} {gap : Bool} (m : Mid n l rs at i gap) where
  -- a slot's record stands in front: a slot is left for it, and its bytes are there
  pub slot_room : {r : SlotRecord} → record_of (n - i) (drop at l) ≡ Some (Slot r) → (i < n) × (at + record_length r.mark ≤ length l)
  slot_room e = let v = seen_stands (n - i) (drop at l) e in (omega (arith, v.0), omega (arith, length-drop at l, v.1, m.room))

  -- a whole RQ stands in front: its bytes are there
  pub last_room : {c t : ℕ} → record_of (n - i) (drop at l) ≡ Some (Last c t) → at + last_length ≤ length l
  last_room e = let v = seen_stands (n - i) (drop at l) e in omega (arith, length-drop at l, v.0, m.room)

  -- R53: a slot's record is that of slot i
  pub mid_slot : (r : SlotRecord) → record_of (n - i) (drop at l) ≡ Some (Slot r) → Mid n l (set rs i r) (at + record_length r.mark) (i + 1) (is_free r.mark)
  mid_slot r e =
      let k = value 8 l clock_at in
      let w = record_length r.mark in
      let o = is_free r.mark in
      let v = slot_room e in
      let h : 0 < n - i = omega (arith, v.0) in
      let p : n - i ≡ suc (n - (i + 1)) = omega arith in
      let next = records_of k (n - (i + 1)) o (at + w) (drop (at + w) l) in
      let e2 : records_of k (n - i) gap at (drop at l) ≡ put_in_front (r ∷ []) next =
      ap (λ (j : ℕ). records_of k j gap at (drop at l)) p
      ∙ records_slot k (n - (i + 1)) gap at (drop at l) r (ap (λ (j : ℕ). record_of j (drop at l)) (sym p) ∙ e)
      ∙ ap (λ (y : List ℕ). put_in_front (r ∷ []) (records_of k (n - (i + 1)) o (at + w) y)) (drop-drop w at l) in
      let t : take i rs ++ (r ∷ []) ≡ take (i + 1) (set rs i r) =
      sym (ap (λ (j : ℕ). take j (set rs i r)) (add-one i) ∙ take-suc-set rs i r (omega (arith, m.long))) in
      record {
        few = omega arith;
        room = v.1;
        long = length-set rs i r ∙ m.long;
        rest = drop-set-lt (i + 1) rs i r (omega arith) ∙ rest_next n rs i h m.rest;
        whole =
            m.whole ∙ ap (put_in_front (take i rs)) e2 ∙ in_front_twice (take i rs) (r ∷ []) next
            ∙ ap (λ (y : List SlotRecord). put_in_front y next) t;
      }

  -- R54: with RQ the records are those of the card
  pub mid_last : (c t : ℕ) → record_of (n - i) (drop at l) ≡ Some (Last c t) → reading n l ≡ closing gap at (length l - at) (saying (value 8 l clock_at) rs c t)
  mid_last c t e =
      let k = value 8 l clock_at in
      m.whole ∙ ap (put_in_front (take i rs)) (records_last k (n - i) gap at (drop at l) c t e)
      ∙ in_front_closing (take i rs) gap at (length (drop at l)) k (n - i) c t
      ∙ ap₂ (λ (b : ℕ) (y : List SlotRecord). closing gap at b (saying k y c t)) (length-drop at l)
      (ap (λ (y : List SlotRecord). take i rs ++ y) (sym m.rest) ∙ take-append-drop i rs)

  -- R57: where no record can be read the card is refused, at the offset
  pub mid_refused : record_of (n - i) (drop at l) ≡ None → reading n l ≡ broken at
  mid_refused e = m.whole ∙ ap (put_in_front (take i rs)) (records_refused (value 8 l clock_at) (n - i) gap at (drop at l) e)

-- ---- slots and entries

map_set : {A B : Type 0} (f : A → B) (l : List A) (i : ℕ) (v : A) → set (map f l) i (f v) ≡ map f (set l i v)
map_set f [] i v = refl
map_set f (x ∷ xs) zero v = refl
map_set {B = B} f (x ∷ xs) (suc i) v = ap (λ (t : List B). f x ∷ t) (map_set f xs i v)

map_drop : {A B : Type 0} (f : A → B) (i : ℕ) (l : List A) → drop i (map f l) ≡ map f (drop i l)
map_drop f zero l = refl
map_drop f (suc i) [] = refl
map_drop f (suc i) (x ∷ xs) = map_drop f i xs

-- R58: a bit as the code sets it, above the word or left out
pub bit_set : (b : Bool) (i w : ℕ) → i < 16 → w < 2 ^ i → bit_or w (bool_byte b * 2 ^ i % 65536) ≡ pick b 1 0 * 2 ^ i + w
bit_set true i w h s = or_bit i w h s
bit_set false i w h s = let z : 0 * 2 ^ i % 65536 ≡ 0 * 2 ^ i = omega arith in ap (bit_or w) z ∙ or_shifted_r 0 i w s

-- no record that is TF is TA
none_old : (n : ℕ) → word_of (map is_old (replicate n free)) ≡ 0
none_old zero = refl
none_old (suc n) = ap (λ (w : ℕ). 0 + 2 * w) (none_old n)

-- the word of the records before slot i's
module _ {n : ℕ} {l : List ℕ} {rs : List SlotRecord} {at i : ℕ} {gap : Bool} (m : Mid n l rs at i gap) where
  none_left : word_of (drop i (map is_old rs)) ≡ 0
  none_left = ap word_of (map_drop is_old i rs ∙ ap (map is_old) m.rest) ∙ none_old (n - i)

  -- the word so far is below bit i
  pub word_room : word_of (map is_old rs) < 2 ^ i
  word_room = word_small i (map is_old rs) none_left

  -- R58: slot i's record adds bit i
  word_on : (r : SlotRecord) → i < n → pick (is_old r) 1 0 * 2 ^ i + word_of (map is_old rs) ≡ word_of (map is_old (set rs i r))
  word_on r h =
      sym (word_set (is_old r) i (map is_old rs) (omega (arith, length-map rs is_old, m.long)) none_left) ∙ ap word_of (map_set is_old rs i r)

-- the clock is that of the card, and the slots, the entries and the word are those of the records that are read
pub record Kept (n : ℕ) (l : List ℕ) (t : Table) (q : Request) (w at i : ℕ) (gap : Bool) : Type 0 where
  pub rs : List SlotRecord
  pub mid : Mid n l rs at i gap
  pub table : t ≡ table_with (value 8 l clock_at) (map slot_for rs)
  pub request : q ≡ request_with (map entry_for rs) 0 0
  pub turned : w ≡ word_of (map is_old rs)

-- no record is read: all slots are empty
pub kept_start : (l : List ℕ) → clock_length ≤ length l
    → Kept 16 l (table_with (value 8 l clock_at) (replicate 16 empty)) (request_with (replicate 16 0) 0 0) 0 clock_length 0 false
kept_start l h = record { rs = replicate 16 free; mid = mid_start l h; table = refl; request = refl; turned = refl }

-- a record is seen at the offset
module _ {n : ℕ} {l : List ℕ} {t : Table} {q : Request} {w at i : ℕ} {gap : Bool} (v : Kept n l t q w at i gap) where
  -- R58: the word so far has room for slot i's bit
  pub kept_room : w < 2 ^ i
  kept_room = rw v.turned (word_room v.mid)

  -- R53, R58: a slot's record goes into slot i, with its entry and its bit
  pub kept_slot : (r : SlotRecord) → record_of (n - i) (drop at l) ≡ Some (Slot r)
      → Kept n l (with_slots t (set t.slots i (slot_for r))) (request_with (set q.stretched i (entry_for r)) q.need q.period)
      (pick (is_old r) 1 0 * 2 ^ i + w) (at + record_length r.mark) (i + 1) (is_free r.mark)
  kept_slot r e = record {
    rs = set v.rs i r;
    mid = mid_slot v.mid r e;
    table = ap (λ (y : Table). with_slots y (set y.slots i (slot_for r))) v.table ∙ still_unbooked (value 8 l clock_at) (map slot_for v.rs) i (slot_for r) ∙ ap (table_with (value 8 l clock_at)) (map_set slot_for v.rs i r);
    request = ap (λ (y : Request). request_with (set y.stretched i (entry_for r)) y.need y.period) v.request ∙ ap (λ (y : List ℕ). request_with y 0 0) (map_set entry_for v.rs i r);
    turned = ap (λ (y : ℕ). pick (is_old r) 1 0 * 2 ^ i + y) v.turned ∙ word_on v.mid r (slot_room v.mid e).0;
  }

  -- R53, R54: with RQ the table, the entries and the word are those of the card, once RQ is tested
  pub kept_last : (c p : ℕ) → record_of (n - i) (drop at l) ≡ Some (Last c p) → {s : Said (Unit {0})} → s ≡ closing gap at (length l - at) tt
      → reading_with w (then_gives s (carrying t (request_with q.stretched c p))) ≡ reading_of (reading n l)
  kept_last c p e {s} f =
      sym (ap reading_of (mid_last v.mid c p e) ∙ reading_closing gap at (length l - at) (saying (value 8 l clock_at) v.rs c p)
      ∙ sym (ap₂ (λ (y : Table) (z : Request). reading_with w (closing gap at (length l - at) (carrying y (request_with z.stretched c p)))) v.table v.request
      ∙ ap (λ (y : ℕ). reading_with y (closing gap at (length l - at) (card_for (saying (value 8 l clock_at) v.rs c p)))) v.turned)
      ∙ ap (reading_with w) (closing_first gap at (length l - at) (carrying t (request_with q.stretched c p))
      ∙ ap (λ (x : Said (Unit {0})). then_gives x (carrying t (request_with q.stretched c p))) (sym f)))
