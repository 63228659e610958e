-- The refusals of R57, each with its offset, behind whole records of any number of slots.
use Rattle.std.specs.Prelude.{None, Ok, Err}
use mathlib.Core.Path.{◌≡◌, refl, ap, ap₂, ◌∙◌}
use mathlib.Core.List.{List, ◌++◌}
use mathlib.Core.Bool.{Bool, true, false}
use Prim.Native.Nat.{ℕ, zero, suc, ◌+◌, ◌<◌}
use native.Mathlib.Omega.{arith}
use native.Mathlib.Decide.{dec_lt}
use lib.ListN.{length}
use borrow.Author.Tests.{ne_eqb}
use Rattle.line.specs.Slots.{pick}
use Rattle.table.specs.declared.Refusal.{Refusal}
use Rattle.table.specs.Words.{refusal}
use Rattle.card.specs.declared.Mark.{Mark}
use Rattle.card.specs.declared.SlotRecord.{SlotRecord}
use Rattle.card.specs.Bytes.{value, marked}
use Rattle.card.specs.Layout.{CK, TB, TL, TF, TA, RQ, mark_bytes, is_free, need_at, period_at, mark_length, clock_length, line_length, last_length}
use Rattle.card.specs.Card.{clock_record}
use Rattle.card.specs.Reading.{record_of, put_in_front, ending, closing, broken, records_of, meaning, read_with}
use Rattle.card.proofs.Marks.{marked_short, marked_other}
use Rattle.card.proofs.Records.{at_last, at_end, at_slot, slot_unknown, not_last, slot_marked, line_cut, last_cut, last_whole}
use Rattle.card.proofs.Steps.{clock_missing, clock_cut, records_last, records_refused}
use Rattle.card.proofs.Passed.{after_clock, after_free, all_bytes, AllFitting, passed}

-- the first record
module _ (n : ℕ) (l : List ℕ) where
  -- R31, R57: another mark than CK opens the card
  pub no_clock : marked CK l ≡ false → read_with n l ≡ broken 0
  unfolding read_with
  no_clock h = ap meaning (clock_missing n l h)

  -- R57: the mark of a slot's record in place of CK, TA and TL too, is one more wrong mark
  pub slot_mark_first : (m : Mark) → marked (mark_bytes m) l ≡ true → read_with n l ≡ broken 0
  unfolding marked
  slot_mark_first Mark.TA h = no_clock (marked_other TA CK l h refl)
  slot_mark_first Mark.TB h = no_clock (marked_other TB CK l h refl)
  slot_mark_first Mark.TF h = no_clock (marked_other TF CK l h refl)
  slot_mark_first Mark.TL h = no_clock (marked_other TL CK l h refl)

  -- R57: too few bytes for the clock's record
  pub cut_clock : length l < clock_length → read_with n l ≡ broken 0
  unfolding read_with
  cut_clock h = ap meaning (clock_cut n l h)

-- the bytes x behind the clock and these records, where so many slots are left
module _ (k : ℕ) (rs : List SlotRecord) (left : ℕ) (x : List ℕ) (hk : k < 18446744073709551616) (f : AllFitting rs) where
  -- how many slots the unit has
  abbrev pub slots_of : ℕ
  slots_of = length rs + left

  -- the whole card
  abbrev pub card : List ℕ
  card = clock_record k ++ (all_bytes rs ++ x)

  -- R57: where the bytes x begin
  abbrev pub offset : ℕ
  offset = clock_length + length (all_bytes rs)

  there : (r : Refusal) → records_of k left (after_free false rs) offset x ≡ Err r → read_with slots_of card ≡ Err r
  unfolding read_with
  there r e =
      ap meaning (after_clock slots_of k (all_bytes rs ++ x) hk ∙ passed k left x rs false clock_length f ∙ ap (put_in_front rs) e)

  refused_there : record_of left x ≡ None → read_with slots_of card ≡ broken offset
  refused_there e = there (refusal 11 offset) (records_refused k left (after_free false rs) offset x e)

  -- R57: neither RQ nor a slot's mark
  pub unknown_mark : marked RQ x ≡ false → marked TB x ≡ false → marked TL x ≡ false → marked TF x ≡ false → marked TA x ≡ false
      → read_with slots_of card ≡ broken offset
  unknown_mark q b g c d = refused_there (go left refl)
    where
      go : (n : ℕ) → left ≡ n → record_of left x ≡ None
      go zero e = at_end left x q e
      go (suc n) e = at_slot left x q (omega arith) ∙ slot_unknown x b g c d

  -- R57: no two bytes are left for a mark
  pub missing_mark : length x < mark_length → read_with slots_of card ≡ broken offset
  missing_mark h = unknown_mark (marked_short RQ x h) (marked_short TB x h) (marked_short TL x h) (marked_short TF x h) (marked_short TA x h)

  -- R57: CK where a slot's record or RQ may stand
  pub misplaced_mark : marked CK x ≡ true → read_with slots_of card ≡ broken offset
  unfolding marked
  misplaced_mark h =
      unknown_mark (marked_other CK RQ x h refl) (marked_other CK TB x h refl) (marked_other CK TL x h refl) (marked_other CK TF x h refl) (marked_other CK TA x h refl)

  -- R57, R58: TB, TL or TA with fewer bytes left than its record has
  pub cut_line : (m : Mark) → is_free m ≡ false → 0 < left → marked (mark_bytes m) x ≡ true → length x < line_length → read_with slots_of card ≡ broken offset
  cut_line m f p h c = refused_there (at_slot left x (not_last m x h) p ∙ slot_marked m x f h ∙ line_cut m x c)

  -- R57: RQ with fewer bytes left than its record has
  pub cut_request : marked RQ x ≡ true → length x < last_length → read_with slots_of card ≡ broken offset
  cut_request h c = refused_there (at_last left x h ∙ last_cut x c)

  -- R57: a slot's record where no slot is left, whatever its mark
  pub one_record_too_many : (m : Mark) → left ≡ 0 → marked (mark_bytes m) x ≡ true → read_with slots_of card ≡ broken offset
  one_record_too_many m e h = refused_there (at_end left x (not_last m x h) e)

  -- R57: RQ directly after TF
  pub free_before_request : after_free false rs ≡ true → marked RQ x ≡ true → read_with slots_of card ≡ broken offset
  free_before_request g h =
      elim (dec_lt (length x) last_length) [
        | yes c ↦ cut_request h c
        | no w ↦ there (refusal 11 offset)
            (records_last k left (after_free false rs) offset x _ _ (at_last left x h ∙ last_whole x (omega arith))
            ∙ ap (λ (o : Bool). closing o offset (length x) (ending k left (value 2 x need_at) (value 2 x period_at))) g)
      ]

  -- R57: a byte after RQ
  pub byte_after_request : after_free false rs ≡ false → marked RQ x ≡ true → last_length < length x → read_with slots_of card ≡ broken (offset + last_length)
  byte_after_request g h w =
      there (refusal 11 (offset + last_length))
      (records_last k left (after_free false rs) offset x _ _ (at_last left x h ∙ last_whole x (omega arith))
      ∙ ap₂ (λ (o u : Bool). pick o (broken offset) (pick u (Ok (ending k left (value 2 x need_at) (value 2 x period_at))) (broken (offset + last_length))))
      g (ne_eqb (length x) last_length (λ e. omega arith)))
