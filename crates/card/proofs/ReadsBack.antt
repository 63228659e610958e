-- A written card reads back as the table and the request, up to the entries of empty slots (R72).
use Rattle.std.specs.Prelude.{Ok}
use mathlib.Core.Path.{◌≡◌, refl, sym, ap, ap₂, ◌∙◌}
use mathlib.Core.List.{List, [], ◌∷◌, ◌++◌, append_assoc}
use mathlib.Core.Bool.{Bool, true, false}
use Prim.Native.Nat.{ℕ, zero, suc, ◌<◌}
use native.Mathlib.Omega.{arith}
use lib.ListN.{length, replicate}
use Rattle.line.specs.declared.Held.{Held}
use Rattle.line.specs.declared.Slot.{Slot}
use Rattle.line.specs.Slots.{pick, holding, is_nothing}
use Rattle.line.proofs.Search.{true_false}
use Rattle.table.specs.declared.Table.{Table}
use Rattle.table.specs.declared.Request.{Request}
use Rattle.table.specs.Words.{table_with, unbooked, request_with}
use Rattle.card.specs.declared.SlotRecord.{SlotRecord}
use Rattle.card.specs.Layout.{is_free, clock_length}
use Rattle.card.specs.Marked.{free, Fitting, recorded_bytes, saying}
use Rattle.card.specs.Card.{request_record, slot_record, slot_records, one_more, used_from, used, card_of, carrying, cleared, AllCarried, Fits}
use Rattle.card.specs.Reading.{put_in_front, records_of, records_with, meaning, read_with}
use Rattle.card.specs.Twin.{turned_in, turned_with}
use Rattle.card.proofs.Slots.{Of, carried, records_for, records_for_lem, none_old, used_none, used_some}
use Rattle.card.proofs.Passed.{after_clock, reads_record, reads_last}

-- a record without numbers is TF
fitting_free : (r : SlotRecord) → Fitting r → is_free r.mark ≡ true → r ≡ free
fitting_free r f e = rw e at f

-- where nothing is held all records are TF
none_held : (ss : List Slot) (ts : List ℕ) (f : AllCarried ss ts) → used ss ≡ 0 → records_for ss ts f ≡ replicate (length ss) free
unfolding records_for
none_held [] [] f u = refl
none_held [] (t ∷ ts) f u = absurd f
none_held (s ∷ ss) [] f u = absurd f
none_held (s ∷ ss) (t ∷ ts) f u =
    let v = used_none (is_nothing s.held) (used ss) u in
    let c = carried s.held t f.0 in
    ap₂ (λ (r : SlotRecord) (rs : List SlotRecord). r ∷ rs) (fitting_free c.0 c.2 (c.1.nothing ∙ v.0)) (none_held ss ts f.1 v.1)

module _ (k c n : ℕ) (hc : c < 65536) (hn : n < 65536) where
  -- the records of all slots up to the last used one, then RQ
  abbrev rest : List Slot → List ℕ → List ℕ
  rest ss ts = slot_records (used ss) ss ts ++ request_record c n

  -- a slot and its record r in front of others whose records rs are read
  one : (h : Held) (t : ℕ) (r : SlotRecord) → Of h t r → Fitting r → (ss : List Slot) (ts : List ℕ) (rs : List SlotRecord) (gap : Bool) (at : ℕ)
      → (gap ≡ true → used_from h (used ss) ≡ 0 → ⊥)
      → (used ss ≡ 0 → rs ≡ replicate (length ss) free)
      → ((o : Bool) (a : ℕ) → (o ≡ true → used ss ≡ 0 → ⊥) → records_of k (length ss) o a (rest ss ts) ≡ Ok (saying k rs c n))
      → records_of k (suc (length ss)) gap at (slot_records (used_from h (used ss)) (holding h ∷ ss) (t ∷ ts) ++ request_record c n)
      ≡ Ok (saying k (r ∷ rs) c n)
  one h t r w f ss ts rs gap at g free_rest ih = go (used_from h (used ss)) refl
    where
      go : (u : ℕ) → used_from h (used ss) ≡ u
          → records_of k (suc (length ss)) gap at (slot_records (used_from h (used ss)) (holding h ∷ ss) (t ∷ ts) ++ request_record c n)
          ≡ Ok (saying k (r ∷ rs) c n)
      go zero e =
          let v = used_none (is_nothing h) (used ss) e in
          ap (λ (u : ℕ). records_of k (suc (length ss)) gap at (slot_records u (holding h ∷ ss) (t ∷ ts) ++ request_record c n)) e
          ∙ reads_last k c n hc hn (suc (length ss)) gap at (λ o. g o e)
          ∙ sym (ap₂ (λ (x : SlotRecord) (y : List SlotRecord). Ok (saying k (x ∷ y) c n)) (fitting_free r f (w.nothing ∙ v.0)) (free_rest v.1))
      go (suc u) e =
          let p : is_nothing h ≡ true → used ss ≡ 0 → ⊥ =
          λ a b. omega (arith, ap₂ (λ (o : Bool) (m : ℕ). pick o (one_more m) (suc m)) a b, e) in
          ap (λ (u : ℕ). records_of k (suc (length ss)) gap at (slot_records u (holding h ∷ ss) (t ∷ ts) ++ request_record c n))
          (used_some (is_nothing h) (used ss) p)
          ∙ ap (records_of k (suc (length ss)) gap at)
          (append_assoc (slot_record h t) (slot_records (used ss) ss ts) (request_record c n) ∙ ap (λ x. recorded_bytes x ++ rest ss ts) w.record_is)
          ∙ reads_record k (length ss) gap at r (rest ss ts) f
          ∙ ap (put_in_front (r ∷ [])) (ih (is_free r.mark) _ (λ a b. p (sym w.nothing ∙ a) b))

  -- R54, R72: the records of all slots up to the last used one read as the records of all slots
  pub records_read : (ss : List Slot) (ts : List ℕ) (gap : Bool) (at : ℕ) (f : AllCarried ss ts) → (gap ≡ true → used ss ≡ 0 → ⊥)
      → records_of k (length ss) gap at (rest ss ts) ≡ Ok (saying k (records_for ss ts f) c n)
  unfolding records_for
  records_read [] [] gap at f g = reads_last k c n hc hn 0 gap at (λ e. g e refl)
  records_read [] (t ∷ ts) gap at f g = absurd f
  records_read (s ∷ ss) [] gap at f g = absurd f
  records_read (s ∷ ss) (t ∷ ts) gap at f g =
      let w = carried s.held t f.0 in
      one s.held t w.0 w.1 w.2 ss ts (records_for ss ts f.1) gap at g (none_held ss ts f.1) (λ o a. records_read ss ts o a f.1)

-- what was written
module _ (n : ℕ) (t : Table) (q : Request) (f : Fits n t q) where
  -- its records are those of the slots
  back : records_with n (card_of t q) ≡ Ok (saying t.clock (records_for t.slots q.stretched f.lines) q.need q.period)
  unfolding card_of
  back =
      after_clock n t.clock _ f.clock
      ∙ ap (λ (m : ℕ). records_of t.clock m false clock_length (slot_records (used t.slots) t.slots q.stretched ++ request_record q.need q.period)) (sym f.slots)
      ∙ records_read t.clock q.need q.period f.need f.period t.slots q.stretched false clock_length f.lines (λ e u. true_false e refl)

  -- R72: it is read, but for the counts and who ran last
  pub reads_back : read_with n (card_of t q) ≡ Ok (carrying (unbooked t) (cleared t q))
  unfolding read_with
  reads_back =
      let w = records_for_lem t.slots q.stretched f.lines in
      ap meaning back
      ∙ ap₂ (λ (x : List Slot) (y : List ℕ). Ok (carrying (table_with t.clock x) (request_with y q.need q.period))) w.0 w.1

  -- R72: and no record of it is TA
  pub no_old : turned_with n (card_of t q) ≡ 0
  unfolding turned_with
  no_old = ap turned_in back ∙ none_old t.slots q.stretched f.lines
