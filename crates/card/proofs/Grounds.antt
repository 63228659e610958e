-- The reader refuses with 11 alone (R57); 12 is no longer given (R32).
use Rattle.std.specs.Prelude.{Option, None, Some, Ok, Err}
use mathlib.Core.Path.{◌≡◌, refl}
use mathlib.Core.Bool.{Bool, true, false}
use mathlib.Core.List.{List, [], ◌∷◌}
use Prim.Native.Nat.{ℕ, zero, suc, ◌+◌}
use lib.ListN.{length, drop}
use lib.Dec.{leb, eqb}
use Rattle.line.specs.Slots.{pick, both}
use Rattle.table.specs.Words.{refusal, Said}
use Rattle.card.specs.declared.SlotRecord.{SlotRecord}
use Rattle.card.specs.declared.Record.{Record}
use Rattle.card.specs.declared.Record.TheVariants.{Slot, Last}
use Rattle.card.specs.Bytes.{value, marked}
use Rattle.card.specs.Layout.{CK, is_free, clock_at, clock_length, last_length, record_length}
use Rattle.card.specs.Marked.{Records}
use Rattle.card.specs.Reading.{record_of, broken, put_in_front, step, records_of, meaning, read_with}

-- R31: if it is a refusal, it is 11 at its place, and says no more
abbrev pub Refuses : {A : Type 0} → Said A → Type 0
Refuses (Ok x) = Unit {0}
Refuses (Err r) = r ≡ refusal 11 r.place

in_front : (rs : List SlotRecord) (s : Said Records) → Refuses s → Refuses (put_in_front rs s)
in_front rs (Ok m) h = tt
in_front rs (Err x) h = h

closing_refuses : (gap o : Bool) (at : ℕ) (m : Records) → Refuses (pick gap (broken at) (pick o (Ok m) (broken (at + last_length))))
closing_refuses true o at m = refl
closing_refuses false true at m = tt
closing_refuses false false at m = refl

-- a record's step, where what follows it refuses so
one_step : (k left : ℕ) (gap : Bool) (at : ℕ) (l : List ℕ) (next : Bool → ℕ → List ℕ → Said Records) (r : Option Record)
    → ((g : Bool) (a : ℕ) (x : List ℕ) → Refuses (next g a x)) → Refuses (step k left gap at l next r)
one_step k left gap at l next (Some (Slot r)) h =
    let w = record_length r.mark in
    in_front (r ∷ []) (next (is_free r.mark) (at + w) (drop w l)) (h (is_free r.mark) (at + w) (drop w l))
one_step k left gap at l next (Some (Last c n)) h = closing_refuses gap (eqb (length l) last_length) at _
one_step k left gap at l next None h = refl

records_refuse : (k left : ℕ) (gap : Bool) (at : ℕ) (l : List ℕ) → Refuses (records_of k left gap at l)
unfolding records_of
records_refuse k zero gap at l = one_step k 0 gap at l (λ g a x. broken {A = Records} at) (record_of 0 l) (λ g a x. refl)
records_refuse k (suc n) gap at l = one_step k (suc n) gap at l (records_of k n) (record_of (suc n) l) (records_refuse k n)

-- R32, R57: the reader refuses with 11 alone
pub read_refuses : (n : ℕ) (l : List ℕ) → Refuses (read_with n l)
unfolding read_with
read_refuses n l =
    go (both (leb clock_length (length l)) (marked CK l)) (records_of (value 8 l clock_at) n false clock_length (drop clock_length l))
    (records_refuse (value 8 l clock_at) n false clock_length (drop clock_length l))
  where
    means : (s : Said Records) → Refuses s → Refuses (meaning s)
    means (Ok m) h = tt
    means (Err x) h = h

    go : (o : Bool) (s : Said Records) → Refuses s → Refuses (meaning (pick o s (broken 0)))
    go true s h = means s h
    go false s h = refl
