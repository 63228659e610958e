-- An image in a lent buffer (R84): it stands at the start and loads from there, and every byte behind it is as it was.
use Rattle.std.specs.Prelude.{Ok, Err}
use mathlib.Core.Path.{◌≡◌, refl, sym, ap, ◌∙◌, subst}
use mathlib.Core.List.{List, [], ◌∷◌, ◌++◌, append_assoc}
use mathlib.Core.Bool.{Bool, true, false}
use Prim.Native.Nat.{ℕ, zero, suc, ◌%◌, ◌/◌, ◌≤◌, ◌<◌}
use native.Mathlib.Omega.{arith}
use lib.ListN.{length, take, drop, length-append, length-drop}
use lib.Seq.{take_at, drop_at}
use borrow.Author.Tests.{leb-true, le-leb, lt-leb}
use lib.Dec.{leb}
use Rattle.line.specs.declared.Slot.{Slot}
use Rattle.line.specs.Slots.{pick}
use Rattle.table.specs.declared.Table.{Table}
use Rattle.table.specs.Words.{refusal}
use Rattle.card.specs.Bytes.{Bytes, le}
use Rattle.card.specs.Answers.{filled}
use Rattle.image.specs.Image.{version, nine, slot_bytes, slots_bytes, counts_bytes, image_of, TableWidths}
use Rattle.image.specs.Loading.{load_of}
use Rattle.image.specs.Answers.{store_of, stored_in}
use Rattle.image.proofs.Series.{bytes_series}
use Rattle.image.proofs.ReadsBack.{of_fields, length_image, loads_back}

-- a byte in front of bytes
bytes_cons : (b : ℕ) (l : List ℕ) → b < 256 → Bytes l → Bytes (b ∷ l)
bytes_cons b l h k zero = h
bytes_cons b l h k (suc i) = k i

-- a number's bytes in front of bytes
bytes_le : (n v : ℕ) (l : List ℕ) → Bytes l → Bytes (le n v ++ l)
bytes_le zero v l k = k
bytes_le (suc n) v l k = bytes_cons (v % 256) (le n (v / 256) ++ l) (omega arith) (bytes_le n (v / 256) l k)

bytes_nine : (k a b c d : ℕ) (l : List ℕ) → k < 256 → Bytes l → Bytes (nine k a b c d ++ l)
bytes_nine k a b c d l h e =
    let x = le 2 d ++ l in
    let y = le 2 c ++ x in
    let z = le 2 b ++ y in
    bytes_cons k (le 2 a ++ z) h (bytes_le 2 a z (bytes_le 2 b y (bytes_le 2 c x (bytes_le 2 d l e))))

bytes_slot : (s : Slot) (l : List ℕ) → Bytes l → Bytes (slot_bytes s.held ++ l)
bytes_slot s l e = of_fields (λ (x : List ℕ). Bytes (x ++ l)) nine (λ k a b c d h. bytes_nine k a b c d l (omega arith) e) s.held

-- R81, R105: an image is bytes, of any table whose last slot is a byte
pub bytes_image : (t : Table) → t.last < 256 → Bytes (image_of t)
unfolding image_of
bytes_image t h =
    let k = t.last ∷ [] in
    let d = le 8 t.departed ++ k in
    let i = le 8 t.idle ++ d in
    let c = counts_bytes t.had ++ i in
    let s = slots_bytes t.slots ++ c in
    subst (λ (x : List ℕ). Bytes ((version ∷ le 8 t.clock) ++ x))
    (sym (append_assoc (slots_bytes t.slots ++ counts_bytes t.had ++ le 8 t.idle) (le 8 t.departed) k
    ∙ append_assoc (slots_bytes t.slots ++ counts_bytes t.had) (le 8 t.idle) d ∙ append_assoc (slots_bytes t.slots) (counts_bytes t.had) i))
    (bytes_cons version (le 8 t.clock ++ s) (omega arith) (bytes_le 8 t.clock s
    (bytes_series (λ (x : Slot). slot_bytes x.held) bytes_slot t.slots c
    (bytes_series (le 8) (bytes_le 8) t.had i (bytes_le 8 t.idle d (bytes_le 8 t.departed k (bytes_cons t.last [] h (λ i. omega arith))))))))

-- R84: 298 bytes are room
pub has_room : (room : ℕ) → 298 ≤ room → store_of room ≡ Ok 298
unfolding store_of
has_room room h = rw (le-leb 298 room h)

-- R33, R84: fewer are none
pub no_room : (room : ℕ) → room < 298 → store_of room ≡ Err (refusal 13 0)
unfolding store_of
no_room room h = rw (lt-leb 298 room h)

-- R84: a length that is given is 298, and there was room for it
pub room_is : (room n : ℕ) → store_of room ≡ Ok n → (298 ≤ room) × (n ≡ 298)
unfolding store_of
room_is room n e = go (leb 298 room) refl e
  where
    go : (b : Bool) → leb 298 room ≡ b → pick b (Ok 298) (Err (refusal 13 0)) ≡ Ok n → (298 ≤ room) × (n ≡ 298)
    go true h q = (leb-true 298 room h, cc)
    go false h q = cc

module _ (t : Table) (l : List ℕ) where
  -- R84: the image at the start
  pub stored_is : 298 ≤ length l → stored_in t l ≡ image_of t ++ drop 298 l
  stored_is h = ap (filled (image_of t) l) (has_room (length l) h)

  -- R33, R84: a refusal leaves every byte as it was
  pub stored_not : length l < 298 → stored_in t l ≡ l
  stored_not h = ap (filled (image_of t) l) (no_room (length l) h)

  -- R84: the bytes behind the image are as they were
  pub stored_behind : length t.slots ≡ 16 → length t.had ≡ 16 → 298 ≤ length l → drop 298 (stored_in t l) ≡ drop 298 l
  stored_behind e f h = ap (drop 298) (stored_is h) ∙ drop_at (image_of t) (drop 298 l) 298 (length_image 16 t e f)

  -- R84: no byte more or less
  pub stored_length : length t.slots ≡ 16 → length t.had ≡ 16 → 298 ≤ length l → length (stored_in t l) ≡ length l
  stored_length e f h = ap length (stored_is h) ∙ omega (arith, length-append (image_of t) (drop 298 l), length_image 16 t e f, length-drop 298 l)

  -- R82, R84: what was stored loads
  pub stored_loads : TableWidths 16 t → 298 ≤ length l → load_of (take 298 (stored_in t l)) ≡ Ok t
  stored_loads w h =
      ap (λ (x : List ℕ). load_of (take 298 x)) (stored_is h)
      ∙ ap load_of (take_at (image_of t) (drop 298 l) 298 (length_image 16 t w.slots w.counts))
      ∙ loads_back 16 t w
