-- The last slot's byte on both sides of each of its edges (R81 to R84, R105), by computation.
use Rattle.std.specs.Prelude.{Ok, Err}
use Prim.Native.Nat.{ℕ}
use mathlib.Core.Path.{◌≡◌, refl, ap}
use mathlib.Core.List.{List, [], ◌∷◌, ◌++◌, map}
use lib.ListN.{take, set, replicate}
use Rattle.line.specs.Slots.{lowest}
use Rattle.table.specs.declared.Table.{Table}
use Rattle.table.specs.Words.{table_with, empty_table, refusal}
use Rattle.table.specs.Cases.{running, parting, waiting, table_of, tallied_with, ran_last}
use Rattle.image.specs.Image.{image_of}
use Rattle.image.specs.Loading.{byte, blank_from, slots_wrong, length_wrong, wrong_in, held_in, load_with, load_of}
use Rattle.image.specs.Answers.{store_of, stored_in}

-- the bytes of a table that is empty but for its last slot
abbrev blank_with : (last : ℕ) → List ℕ
blank_with k = 4 ∷ replicate 296 0 ++ (k ∷ [])

-- the first slots and the last one, numbers that name no slot, and none
abbrev lasts : List ℕ
lasts = 0 ∷ 1 ∷ 15 ∷ 16 ∷ 127 ∷ 128 ∷ 254 ∷ 255 ∷ []

-- R4, R81: of the empty table it is none
pub empty_written : image_of empty_table ≡ blank_with 255
unfolding image_of
empty_written = refl

-- R83, R105: each of them reads
pub last_read : map (λ (k : ℕ). load_of (blank_with k)) lasts ≡ map (λ (k : ℕ). Ok (ran_last k empty_table)) lasts
unfolding lowest blank_from slots_wrong length_wrong wrong_in held_in load_with
last_read = refl

-- R82, R105: and is written back
pub last_written : map (λ (k : ℕ). image_of (ran_last k empty_table)) lasts ≡ map blank_with lasts
unfolding image_of
last_written = refl

-- slot 0 runs, slot 1 waits, slot 2 leaves
abbrev several : Table
several = table_of 9 (running 2 8 3 1 ∷ waiting 1 4 3 ∷ parting 1 4 2 1 ∷ [])

-- R82, R105: whatever the slot named holds, and where it names none
pub last_back : map (λ (k : ℕ). load_of (image_of (ran_last k several))) (0 ∷ 1 ∷ 2 ∷ 3 ∷ 16 ∷ 255 ∷ []) ≡ map (λ (k : ℕ). Ok (ran_last k several)) (0 ∷ 1 ∷ 2 ∷ 3 ∷ 16 ∷ 255 ∷ [])
unfolding lowest blank_from slots_wrong length_wrong wrong_in held_in load_with image_of
last_back = refl

-- R81: the byte before it is the departed count's
pub last_stands : map (λ (at : ℕ). load_of (set (blank_with 0) at 1)) (296 ∷ 297 ∷ []) ≡ Ok (ran_last 0 (tallied_with [] 0 72057594037927936 empty_table)) ∷ Ok (ran_last 1 empty_table) ∷ []
unfolding lowest blank_from slots_wrong length_wrong wrong_in held_in load_with
last_stands = refl

-- R83: bytes that end before it are refused there, and those that go on behind it at the image's end
pub last_ends : map (λ (n : ℕ). load_of (take n (blank_with 7 ++ (7 ∷ 7 ∷ [])))) (296 ∷ 297 ∷ 298 ∷ 299 ∷ 300 ∷ [])
    ≡ Err (refusal 11 296) ∷ Err (refusal 11 297) ∷ Ok (ran_last 7 empty_table) ∷ Err (refusal 11 298) ∷ Err (refusal 11 298) ∷ []
unfolding lowest blank_from slots_wrong length_wrong wrong_in held_in load_with
last_ends = refl

-- R84: it is the last byte that is stored
pub last_stored : map (λ (k : ℕ). stored_in (ran_last k empty_table) (replicate 299 0xEE)) lasts ≡ map (λ (k : ℕ). blank_with k ++ (0xEE ∷ [])) lasts
unfolding store_of image_of
last_stored = refl

-- R82, R105: tables that differ in it alone have different images
pub last_tells : (c i k : ℕ) → image_of (ran_last i (table_with c [])) ≡ image_of (ran_last k (table_with c [])) → i ≡ k
unfolding image_of
last_tells c i k e = ap (λ (l : List ℕ). byte l 25) e
