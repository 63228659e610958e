-- What stands at the front of the bytes: the record for each way through the tests, and what each record says of the bytes.
use Rattle.std.specs.Prelude.{Option, None, Some}
use mathlib.Core.Path.{◌≡◌, refl, sym, ap, ap₂, ◌∙◌}
use mathlib.Core.List.{List, [], ◌∷◌, ◌++◌}
use mathlib.Core.Bool.{Bool, true, false}
use Prim.Native.Nat.{ℕ, ◌≤◌, ◌<◌}
use native.Mathlib.Omega.{arith}
use lib.ListN.{length, drop, get_or}
use lib.Dec.{leb, ltb}
use borrow.Author.Tests.{leb-true, ltb-true, le-leb, lt-leb, lt-ltb}
use Rattle.line.specs.Slots.{pick}
use Rattle.line.proofs.Search.{true_false}
use Rattle.card.specs.declared.Mark.{Mark}
use Rattle.card.specs.declared.SlotRecord.{SlotRecord}
use Rattle.card.specs.declared.Record.{Record}
use Rattle.card.specs.declared.Record.TheVariants.{Slot, Last}
use Rattle.card.specs.Bytes.{Bytes, le, value, marked}
use Rattle.card.specs.Layout.{TB, TL, TF, TA, RQ, mark_bytes, is_free, need_at, period_at, stretched_at, fourth_at, fifth_at, mark_length, line_length, last_length, record_length}
use Rattle.card.specs.Marked.{record_with, free, numbers_of, record_bytes, NumbersFit, Fitting, held_under, twin, record_for}
use Rattle.card.specs.Card.{request_record}
use Rattle.card.specs.Reading.{record_at, line_record_of, last_of, slot_record_of, record_of}
use Rattle.card.proofs.Numbers.{value_le, le_value, value_lt}
use Rattle.card.proofs.Marks.{marked_here, marked_is, marked_long, marked_other}

module _ (left : ℕ) (l : List ℕ) where
  -- R57: RQ is looked for first
  pub at_last : marked RQ l ≡ true → record_of left l ≡ last_of l
  unfolding record_of
  at_last h = simp h

  -- R57: with no slot left it alone may stand
  pub at_end : marked RQ l ≡ false → left ≡ 0 → record_of left l ≡ None
  unfolding record_of
  at_end h e = simp (h, e)

  -- R57: where a slot is left, its record may
  pub at_slot : marked RQ l ≡ false → 0 < left → record_of left l ≡ slot_record_of l
  unfolding record_of
  at_slot h p = simp (h, lt-ltb 0 left p)

module _ (l : List ℕ) where
  -- R53: TB
  pub slot_line_lem : marked TB l ≡ true → slot_record_of l ≡ line_record_of Mark.TB l
  slot_line_lem i = simp i

  -- the others are looked for where it is not TB
  module _ (i : marked TB l ≡ false) where
    -- R53: TL
    pub slot_leaving : marked TL l ≡ true → slot_record_of l ≡ line_record_of Mark.TL l
    slot_leaving j = simp (i, j)

    -- nor TL
    module _ (j : marked TL l ≡ false) where
      -- R53: TF
      pub slot_free : marked TF l ≡ true → slot_record_of l ≡ Some (Slot free)
      slot_free k = simp (i, j, k)

      -- R58: TA
      pub slot_old : marked TF l ≡ false → marked TA l ≡ true → slot_record_of l ≡ line_record_of Mark.TA l
      slot_old k m = simp (i, j, k, m)

      -- R57: no mark of a slot's record
      pub slot_unknown : marked TF l ≡ false → marked TA l ≡ false → slot_record_of l ≡ None
      slot_unknown k m = simp (i, j, k, m)

-- R57: what the mark of a slot's record opens is not RQ
pub not_last : (m : Mark) (l : List ℕ) → marked (mark_bytes m) l ≡ true → marked RQ l ≡ false
unfolding marked
not_last Mark.TA l h = marked_other TA RQ l h refl
not_last Mark.TB l h = marked_other TB RQ l h refl
not_last Mark.TF l h = marked_other TF RQ l h refl
not_last Mark.TL l h = marked_other TL RQ l h refl

-- R53, R58: what a line's mark opens is a record under that mark
pub slot_marked : (m : Mark) (l : List ℕ) → is_free m ≡ false → marked (mark_bytes m) l ≡ true → slot_record_of l ≡ line_record_of m l
unfolding marked
slot_marked Mark.TA l f h = slot_old l (marked_other TA TB l h refl) (marked_other TA TL l h refl) (marked_other TA TF l h refl) h
slot_marked Mark.TB l f h = slot_line_lem l h
slot_marked Mark.TF l f h = absurd (true_false refl f)
slot_marked Mark.TL l f h = slot_leaving l (marked_other TL TB l h refl) h

module _ (m : Mark) (l : List ℕ) where
  -- R53: twelve bytes are a line
  pub line_whole : line_length ≤ length l → line_record_of m l ≡ Some (Slot (record_at m l))
  line_whole h = ap (λ (o : Bool). pick o (Some (Slot (record_at m l))) None) (le-leb line_length (length l) h)

  -- R57: fewer are none
  pub line_cut : length l < line_length → line_record_of m l ≡ None
  line_cut h = ap (λ (o : Bool). pick o (Some (Slot (record_at m l))) None) (lt-leb line_length (length l) h)

module _ (l : List ℕ) where
  -- R53: six bytes are a new line
  pub last_whole : last_length ≤ length l → last_of l ≡ Some (Last (value 2 l need_at) (value 2 l period_at))
  last_whole h = ap (λ (o : Bool). pick o (Some (Last (value 2 l need_at) (value 2 l period_at))) None) (le-leb last_length (length l) h)

  -- R57: fewer are none
  pub last_cut : length l < last_length → last_of l ≡ None
  last_cut h = ap (λ (o : Bool). pick o (Some (Last (value 2 l need_at) (value 2 l period_at))) None) (lt-leb last_length (length l) h)

-- R53: twelve bytes behind the mark a b are its record's, with numbers that fit, whatever the mark says of them
line_fronts : (m : Mark) (a b : ℕ) (l : List ℕ) → marked (a ∷ b ∷ []) l ≡ true → line_length ≤ length l → Bytes l
    → (l ≡ (a ∷ b ∷ numbers_of (record_at m l)) ++ drop line_length l) × NumbersFit (record_at m l)
line_fronts m a b l e h y = (
  marked_is (a ∷ b ∷ []) l e
      ∙ ap (λ (x : List ℕ). a ∷ b ∷ x) (le_value 2 l need_at y (omega arith)
      ∙ ap (λ (x : List ℕ). le 2 (value 2 l need_at) ++ x) (le_value 2 l period_at y (omega arith)
      ∙ ap (λ (x : List ℕ). le 2 (value 2 l period_at) ++ x) (le_value 2 l stretched_at y (omega arith)
      ∙ ap (λ (x : List ℕ). le 2 (value 2 l stretched_at) ++ x) (le_value 2 l fourth_at y (omega arith)
      ∙ ap (λ (x : List ℕ). le 2 (value 2 l fourth_at) ++ x) (le_value 2 l fifth_at y (omega arith)))))),
  (value_lt 2 l need_at y, value_lt 2 l period_at y, value_lt 2 l stretched_at y, value_lt 2 l fourth_at y, value_lt 2 l fifth_at y),
)

-- the bytes l begin with the record r, whose numbers fit
abbrev pub Fronts : List ℕ → SlotRecord → Type 0
Fronts l r = (l ≡ record_bytes r ++ drop (record_length r.mark) l) × Fitting r

-- what a record says of the bytes at whose front it stands; the slot that a slot's record stands for has its twin for a record
abbrev pub Stands : ℕ → List ℕ → Option Record → Type 0
Stands left l (Some (Slot r)) =
    (0 < left) × (record_length r.mark ≤ length l) × (Bytes l → Fronts l r) × (record_for (held_under r.mark r) r.stretched ≡ Some (twin r))
Stands left l (Some (Last c n)) = (last_length ≤ length l) × (marked RQ l ≡ true) × (c ≡ value 2 l need_at) × (n ≡ value 2 l period_at)
Stands left l None = Unit {0}

-- twelve bytes that a line's mark opens are a record under that mark
line_stands : (left : ℕ) (l : List ℕ) (m : Mark) → is_free m ≡ false → 0 < left → marked (mark_bytes m) l ≡ true → line_length ≤ length l
    → Stands left l (Some (Slot (record_at m l)))
line_stands left l Mark.TA f p e h = (p, h, line_fronts Mark.TA (get_or TA 0 0) (get_or TA 1 0) l e h, refl)
line_stands left l Mark.TB f p e h = (p, h, line_fronts Mark.TB (get_or TB 0 0) (get_or TB 1 0) l e h, refl)
line_stands left l Mark.TF f p e h = absurd (true_false refl f)
line_stands left l Mark.TL f p e h = (p, h, line_fronts Mark.TL (get_or TL 0 0) (get_or TL 1 0) l e h, refl)

-- what stands at the front is what the definition says
pub stands : (left : ℕ) (l : List ℕ) → Stands left l (record_of left l)
unfolding record_of
stands left l = go (marked RQ l) refl (leb last_length (length l)) refl (ltb 0 left) refl (marked TB l) refl (marked TL l) refl (marked TF l) refl (marked TA l) refl
  where
    line : (m : Mark) → is_free m ≡ false → 0 < left → marked (mark_bytes m) l ≡ true → Stands left l (line_record_of m l)
    line m f p e = whole (leb line_length (length l)) refl
      where
        whole : (o : Bool) → leb line_length (length l) ≡ o → Stands left l (pick o (Some (Slot (record_at m l))) None)
        whole true h = line_stands left l m f p e (leb-true line_length (length l) h)
        whole false h = tt

    go : (a : Bool) → marked RQ l ≡ a → (b : Bool) → leb last_length (length l) ≡ b → (c : Bool) → ltb 0 left ≡ c → (d : Bool) → marked TB l ≡ d
        → (e : Bool) → marked TL l ≡ e → (f : Bool) → marked TF l ≡ f → (g : Bool) → marked TA l ≡ g
        → Stands left l (pick a (pick b (Some (Last (value 2 l need_at) (value 2 l period_at))) None)
        (pick c (pick d (line_record_of Mark.TB l) (pick e (line_record_of Mark.TL l) (pick f (Some (Slot free)) (pick g (line_record_of Mark.TA l) None)))) None))
    go true p true q c r d s e t f u g v = (leb-true last_length (length l) q, p, refl, refl)
    go true p false q c r d s e t f u g v = tt
    go false p b q false r d s e t f u g v = tt
    go false p b q true r true s e t f u g v = line Mark.TB refl (ltb-true 0 left r) s
    go false p b q true r false s true t f u g v = line Mark.TL refl (ltb-true 0 left r) t
    go false p b q true r false s false t true u g v = (ltb-true 0 left r, marked_long TF l u, (λ y. (marked_is TF l u, refl)), refl)
    go false p b q true r false s false t false u true v = line Mark.TA refl (ltb-true 0 left r) v
    go false p b q true r false s false t false u false v = tt

-- the same of a record that was seen
pub seen_stands : (left : ℕ) (l : List ℕ) {r : Option Record} → record_of left l ≡ r → Stands left l r
seen_stands left l e = rw e at (stands left l)

-- R53: RQ and its six bytes, from the numbers that were got
pub last_is_lem : (l : List ℕ) → Bytes l → marked RQ l ≡ true → last_length ≤ length l
    → l ≡ request_record (value 2 l need_at) (value 2 l period_at) ++ drop last_length l
last_is_lem l b m h =
    marked_is RQ l m
    ∙ ap (λ (x : List ℕ). RQ ++ x) (le_value 2 l need_at b (omega arith)
    ∙ ap (λ (x : List ℕ). le 2 (value 2 l need_at) ++ x) (le_value 2 l period_at b (omega arith)))

-- the numbers of a line's record are got, whatever its mark
gets_numbers : (m : Mark) (a b C T t x y : ℕ) (r : List ℕ) → NumbersFit (record_with m C T t x y)
    → record_at m (a ∷ b ∷ numbers_of (record_with m C T t x y) ++ r) ≡ record_with m C T t x y
gets_numbers m a b C T t x y r f =
    let l = a ∷ b ∷ numbers_of (record_with m C T t x y) ++ r in
    let eC : value 2 l need_at ≡ C = value_le 2 C [] f.0 in
    let eT : value 2 l period_at ≡ T = value_le 2 T [] f.1 in
    let et : value 2 l stretched_at ≡ t = value_le 2 t [] f.2 in
    let ex : value 2 l fourth_at ≡ x = value_le 2 x [] f.3 in
    let ey : value 2 l fifth_at ≡ y = value_le 2 y [] f.4 in
    simp (eC, eT, et, ex, ey)

-- a whole line's record in front, by the bytes a b of its mark
sees_line : (left : ℕ) (x : List ℕ) → 0 < left → (m : Mark) (a b C T t y z : ℕ) → mark_bytes m ≡ a ∷ b ∷ [] → is_free m ≡ false → NumbersFit (record_with m C T t y z)
    → record_of left ((a ∷ b ∷ numbers_of (record_with m C T t y z)) ++ x) ≡ Some (Slot (record_with m C T t y z))
sees_line left x p m a b C T t y z e f n =
    let l = (a ∷ b ∷ numbers_of (record_with m C T t y z)) ++ x in
    let h : marked (mark_bytes m) l ≡ true = rw e (marked_here (a ∷ b ∷ []) (drop mark_length l)) in
    at_slot left l (not_last m l h) p ∙ slot_marked m l f h ∙ line_whole m l (omega arith) ∙ ap (λ (r : SlotRecord). Some (Slot r)) (gets_numbers m a b C T t y z x n)

sees : (left : ℕ) (x : List ℕ) → 0 < left → (m : Mark) (C T t y z : ℕ) → Fitting (record_with m C T t y z)
    → record_of left (record_bytes (record_with m C T t y z) ++ x) ≡ Some (Slot (record_with m C T t y z))
unfolding marked
sees left x p Mark.TA C T t y z f = sees_line left x p Mark.TA (get_or TA 0 0) (get_or TA 1 0) C T t y z refl refl f
sees left x p Mark.TB C T t y z f = sees_line left x p Mark.TB (get_or TB 0 0) (get_or TB 1 0) C T t y z refl refl f
sees left x p Mark.TF C T t y z f = at_slot left (TF ++ x) refl p ∙ slot_free (TF ++ x) refl refl (marked_here TF x) ∙ ap (λ (r : SlotRecord). Some (Slot r)) (sym f)
sees left x p Mark.TL C T t y z f = sees_line left x p Mark.TL (get_or TL 0 0) (get_or TL 1 0) C T t y z refl refl f

-- R53: a slot's record in front is seen
pub sees_record : (left : ℕ) (r : SlotRecord) (x : List ℕ) → 0 < left → Fitting r → record_of left (record_bytes r ++ x) ≡ Some (Slot r)
sees_record left r x p f = sees left x p r.mark r.need r.period r.stretched r.fourth r.fifth f

-- R53: RQ in front is seen
pub sees_last : (left c n : ℕ) (x : List ℕ) → c < 65536 → n < 65536 → record_of left (request_record c n ++ x) ≡ Some (Last c n)
sees_last left c n x hc hn =
    let l = request_record c n ++ x in
    let ec : value 2 l need_at ≡ c = value_le 2 c [] hc in
    let en : value 2 l period_at ≡ n = value_le 2 n [] hn in
    at_last left l (marked_here RQ (drop mark_length l)) ∙ last_whole l (omega arith) ∙ ap₂ (λ (c n : ℕ). Some (Last c n)) ec en

-- a record made of numbers that were got
pub line_of : (m : Mark) (l : List ℕ) → line_length ≤ length l → (C T t x y : ℕ)
    → C ≡ value 2 l need_at → T ≡ value 2 l period_at → t ≡ value 2 l stretched_at → x ≡ value 2 l fourth_at → y ≡ value 2 l fifth_at
    → Some (Slot (record_with m C T t x y)) ≡ line_record_of m l
line_of m l h C T t x y e1 e2 e3 e4 e5 = rw (e1, e2, e3, e4, e5) (sym (line_whole m l h))

-- the same of the new line
pub last_of_lem : (l : List ℕ) → last_length ≤ length l → (c n : ℕ) → c ≡ value 2 l need_at → n ≡ value 2 l period_at → Some (Last c n) ≡ last_of l
last_of_lem l h c n e1 e2 = rw (e1, e2) (sym (last_whole l h))

-- R53: how long a slot's record is
pub bytes_length : (r : SlotRecord) → length (record_bytes r) ≡ record_length r.mark
bytes_length r = go r.mark r
  where
    go : (m : Mark) (r : SlotRecord)
        → length (record_bytes (record_with m r.need r.period r.stretched r.fourth r.fifth)) ≡ record_length m
    go Mark.TA r = refl
    go Mark.TB r = refl
    go Mark.TF r = refl
    go Mark.TL r = refl
