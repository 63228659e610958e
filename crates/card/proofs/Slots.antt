-- A slot and its record: what a card carries of a slot, and which slots are used.
use Rattle.std.specs.Prelude.{Some}
use mathlib.Core.Path.{◌≡◌, refl, sym, ap, ap₂, ◌∙◌}
use mathlib.Core.Bool.{Bool, true, false}
use mathlib.Core.List.{List, [], ◌∷◌, map}
use Prim.Native.Nat.{ℕ, zero, suc, ◌+◌, ◌*◌}
use native.Mathlib.Omega.{arith}
use Rattle.line.specs.declared.Follows.{Follows}
use Rattle.line.specs.declared.Follows.TheVariants.{Renews, Leaves}
use Rattle.line.specs.declared.Held.{Held}
use Rattle.line.specs.declared.Held.TheVariants.{Nothing, Running, Waiting}
use Rattle.line.specs.declared.Slot.{Slot}
use Rattle.line.specs.Slots.{pick, run_then, holding, is_nothing, is_waiting}
use Rattle.card.specs.declared.Mark.{Mark}
use Rattle.card.specs.declared.SlotRecord.{SlotRecord}
use Rattle.card.specs.Layout.{is_free}
use Rattle.card.specs.Marked.{free, Fitting, held_under, slot_for, entry_for, line_record, record_for}
use Rattle.card.specs.Card.{one_more, entry_of, entries, Carried, AllCarried}
use Rattle.card.specs.Twin.{is_old, word_of}

-- the record of a slot that a card can carry, which is the record of what it holds and stands for it
pub record Of (h : Held) (t : ℕ) (r : SlotRecord) : Type 0 where
  pub record_is : record_for h t ≡ Some r
  pub holds : held_under r.mark r ≡ h
  pub entry : entry_for r ≡ entry_of h t
  pub nothing : is_free r.mark ≡ is_nothing h
  pub started : is_waiting h ≡ false
  pub new : is_old r ≡ false

-- R53, R99: so is the record of a running line, whatever follows its period
line_carried : (f : Follows) (C T a c t : ℕ) → Of (Running (run_then f C T a c)) t (line_record (run_then f C T a c) t)
line_carried Renews C T a c t = record { record_is = refl; holds = refl; entry = refl; nothing = refl; started = refl; new = refl }
line_carried Leaves C T a c t = record { record_is = refl; holds = refl; entry = refl; nothing = refl; started = refl; new = refl }

-- there is one wherever a card can carry the slot
pub carried : (h : Held) (t : ℕ) → Carried h t → (r : SlotRecord) × Of h t r × Fitting r
carried Nothing t f = (free, record { record_is = refl; holds = refl; entry = refl; nothing = refl; started = refl; new = refl }, f)
carried (Running x) t f = (line_record x t, line_carried x.follows x.need x.period x.age x.remaining t, f)
carried (Waiting w) t f = absurd f

-- the records of slots that a card can carry
unfoldable pub records_for : (ss : List Slot) (ts : List ℕ) → AllCarried ss ts → List SlotRecord
records_for [] [] f = []
records_for [] (t ∷ ts) f = []
records_for (s ∷ ss) [] f = []
records_for (s ∷ ss) (t ∷ ts) f = (carried s.held t f.0).0 ∷ records_for ss ts f.1

-- R53: they stand for these slots, and carry what a card keeps of the entries
pub records_for_lem : (ss : List Slot) (ts : List ℕ) (f : AllCarried ss ts)
    → (map slot_for (records_for ss ts f) ≡ ss) × (map entry_for (records_for ss ts f) ≡ entries ss ts)
unfolding records_for
records_for_lem [] [] f = (refl, refl)
records_for_lem [] (t ∷ ts) f = absurd f
records_for_lem (s ∷ ss) [] f = absurd f
records_for_lem (s ∷ ss) (t ∷ ts) f =
    let c = (carried s.held t f.0).1 in
    let i = records_for_lem ss ts f.1 in (
      ap₂ (λ (h : Held) (x : List Slot). holding h ∷ x) c.holds i.0,
      ap₂ (λ (n : ℕ) (x : List ℕ). n ∷ x) c.entry i.1,
    )

-- R58: and none of them is TA
pub none_old : (ss : List Slot) (ts : List ℕ) (f : AllCarried ss ts) → word_of (map is_old (records_for ss ts f)) ≡ 0
unfolding records_for
none_old [] [] f = refl
none_old [] (t ∷ ts) f = absurd f
none_old (s ∷ ss) [] f = absurd f
none_old (s ∷ ss) (t ∷ ts) f =
    ap₂ (λ (b : Bool) (w : ℕ). pick b 1 0 + 2 * w) (carried s.held t f.0).1.new (none_old ss ts f.1)

-- R53: a record without numbers stands for a slot that holds nothing, and no other does
pub free_holds : (r : SlotRecord) → is_nothing (held_under r.mark r) ≡ is_free r.mark
free_holds r = go r.mark
  where
    go : (m : Mark) → is_nothing (held_under m r) ≡ is_free m
    go Mark.TA = refl
    go Mark.TB = refl
    go Mark.TF = refl
    go Mark.TL = refl

-- R53, R58: the slot that a record stands for, by what its mark says that the slot holds
pub slot_under : (r : SlotRecord) (m : Mark) → r.mark ≡ m → {s : Slot} → s ≡ holding (held_under m r) → s ≡ slot_for r
slot_under r m e f = f ∙ sym (ap (λ (x : Mark). holding (held_under x r)) e)

-- ---- used slots, by the test alone

module _ (o : Bool) (n : ℕ) where
  -- none is used: nothing is held here, and none is used behind
  pub used_none : pick o (one_more n) (suc n) ≡ 0 → (o ≡ true) × (n ≡ 0)
  used_none e = go o n e
    where
      go : (o : Bool) (n : ℕ) → pick o (one_more n) (suc n) ≡ 0 → (o ≡ true) × (n ≡ 0)
      go true zero e = (refl, refl)
      go true (suc n) e = absurd (omega arith)
      go false n e = absurd (omega arith)

  -- something is held here or used behind: one more is used
  pub used_some : (o ≡ true → n ≡ 0 → ⊥) → pick o (one_more n) (suc n) ≡ suc n
  used_some h = go o n h
    where
      go : (o : Bool) (n : ℕ) → (o ≡ true → n ≡ 0 → ⊥) → pick o (one_more n) (suc n) ≡ suc n
      go true zero h = absurd (h refl refl)
      go true (suc n) h = refl
      go false n h = refl
