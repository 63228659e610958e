-- Images and buffers on both sides of each edge of R81 to R84, by computation. The bytes are numbers here, and no two numbers of a line share one: an exchange of two
-- numbers in the definitions changes what a row says.
use Rattle.std.specs.Prelude.{Ok, Err}
use Prim.Native.Nat.{ℕ, zero, suc, ◌+◌, ◌*◌}
use mathlib.Core.Path.{◌≡◌, refl, ap}
use mathlib.Core.List.{List, [], ◌∷◌, ◌++◌, map}
use native.Mathlib.Omega.{arith}
use lib.ListN.{length, take, set, replicate}
use Rattle.line.specs.declared.Slot.{Slot}
use Rattle.line.specs.Slots.{empty, lowest}
use Rattle.table.specs.declared.Table.{Table}
use Rattle.table.specs.Words.{table_with, with_counts, with_departed, with_last, refusal, Said}
use Rattle.table.specs.Cases.{running, parting, waiting}
use Rattle.image.specs.Image.{size, image_of}
use Rattle.image.specs.Loading.{byte, blank_from, slots_wrong, length_wrong, wrong_in, held_in, load_with, load_of}
use Rattle.image.specs.Answers.{handed_out, said_loaded, store_of, stored_in}

-- the bytes l so many times
abbrev times : ℕ → List ℕ → List ℕ
times zero l = []
times (suc n) l = l ++ times n l

-- the version and a clock
abbrev front : List ℕ
front = 4 ∷ 0xA1 ∷ 0xA2 ∷ 0xA3 ∷ 0xA4 ∷ 0xA5 ∷ 0xA6 ∷ 0xA7 ∷ 0xA8 ∷ []

-- a slot that holds nothing
abbrev free : List ℕ
free = 0 ∷ 0 ∷ 0 ∷ 0 ∷ 0 ∷ 0 ∷ 0 ∷ 0 ∷ 0 ∷ []

-- a slot that runs a line
abbrev runs : List ℕ
runs = 1 ∷ 0x11 ∷ 0x12 ∷ 0x21 ∷ 0x22 ∷ 0x31 ∷ 0x32 ∷ 0x41 ∷ 0x42 ∷ []

-- a slot that runs a line which leaves
abbrev runs_last : List ℕ
runs_last = 3 ∷ 0x13 ∷ 0x14 ∷ 0x23 ∷ 0x24 ∷ 0x33 ∷ 0x34 ∷ 0x43 ∷ 0x44 ∷ []

-- a slot whose line waits
abbrev waits : List ℕ
waits = 2 ∷ 0x51 ∷ 0x52 ∷ 0x61 ∷ 0x62 ∷ 0x71 ∷ 0x72 ∷ 0 ∷ 0 ∷ []

-- what the last three hold
abbrev run_slot : Slot
run_slot = running 0x1211 0x2221 0x3231 0x4241

abbrev leave_slot : Slot
leave_slot = parting 0x1413 0x2423 0x3433 0x4443

abbrev wait_slot : Slot
wait_slot = waiting 0x5251 0x6261 0x7271

-- so many bytes, each one more than the one before it
abbrev rising : (many first : ℕ) → List ℕ
rising zero b = []
rising (suc n) b = b ∷ rising n (suc b)

-- so many numbers of eight such bytes
abbrev risen : (many first : ℕ) → List ℕ
risen zero b = []
risen (suc n) b = (0x0706050403020100 + 0x0101010101010101 * b) ∷ risen n (8 + b)

-- the counts behind n slots, no byte of which stands there twice, and behind them the idle count, the departed one and the last slot
abbrev tally : (slots : ℕ) → List ℕ
tally n = rising (8 * n + 17) 0x64

-- n slots' bytes between `front` and the counts
abbrev whole : (slots : ℕ) → List ℕ → List ℕ
whole n l = front ++ l ++ tally n

-- slots under the clock of `front`, with the counts and the last slot of `tally`
abbrev under : List Slot → Table
under ss =
    let n = length ss in
    with_last (with_departed (with_counts (table_with 0xA8A7A6A5A4A3A2A1 ss) (risen n 0x64) (0x0706050403020100 + 0x0101010101010101 * (0x64 + 8 * n)))
    (0x0706050403020100 + 0x0101010101010101 * (0x6C + 8 * n))) (0x74 + 8 * n)

abbrev reads : List Slot → Said Table
reads ss = Ok (under ss)

abbrev breaks : (place : ℕ) → Said Table
breaks at = Err (refusal 11 at)

-- some bytes, for how many slots, and what they are
pub record ImageEdge : Type 0 where
  pub slots : ℕ
  pub bytes : List ℕ
  pub says : Said Table

abbrev edge : ℕ → List ℕ → Said Table → ImageEdge
edge n l s = record { slots = n; bytes = l; says = s }

-- one byte of these is put wrong, and refused where it stands
abbrev wrong_at : (slots : ℕ) → List ℕ → (byte at : ℕ) → ImageEdge
wrong_at n l b at = edge n (set l at b) (breaks at)

-- R83: the version, alone wrong and with all else wrong; images of the versions before this one, as long as they were then and as long as it is now
abbrev version_edges : List ImageEdge
version_edges =
    edge 1 (whole 1 runs) (reads (run_slot ∷ []))
    ∷ map (λ (v : ℕ). wrong_at 1 (whole 1 runs) v 0) (0 ∷ 1 ∷ 2 ∷ 3 ∷ 5 ∷ 255 ∷ [])
    ++ edge 1 (3 ∷ []) (breaks 0)
    ∷ edge 1 (0 ∷ replicate 50 255) (breaks 0)
    ∷ edge 16 (set (front ++ times 16 runs) 0 1) (breaks 0)
    ∷ edge 16 (front ++ times 16 runs) (breaks 153)
    ∷ wrong_at 16 (whole 16 (times 16 runs)) 1 0
    ∷ edge 16 (take 289 (set (whole 16 (times 16 runs)) 0 2)) (breaks 0)
    ∷ edge 16 (take 289 (whole 16 (times 16 runs))) (breaks 289)
    ∷ wrong_at 16 (whole 16 (times 16 runs)) 2 0
    ∷ edge 16 (take 297 (set (whole 16 (times 16 runs)) 0 3)) (breaks 0)
    ∷ edge 16 (take 297 (whole 16 (times 16 runs))) (breaks 297)
    ∷ wrong_at 16 (whole 16 (times 16 runs)) 3 0
    ∷ []

-- R81, R83: each kind, and those above; what follows a kind above 3 is not looked at
abbrev kind_edges : List ImageEdge
kind_edges =
    edge 1 (set (whole 1 free) 9 0) (reads (empty ∷ []))
    ∷ edge 1 (set (whole 1 free) 9 1) (reads (running 0 0 0 0 ∷ []))
    ∷ edge 1 (set (whole 1 free) 9 2) (reads (waiting 0 0 0 ∷ []))
    ∷ edge 1 (set (whole 1 free) 9 3) (reads (parting 0 0 0 0 ∷ []))
    ∷ edge 1 (set (whole 1 runs) 9 3) (reads (parting 0x1211 0x2221 0x3231 0x4241 ∷ []))
    ∷ edge 1 (set (whole 1 runs_last) 9 1) (reads (running 0x1413 0x2423 0x3433 0x4443 ∷ []))
    ∷ map (λ (k : ℕ). wrong_at 1 (whole 1 free) k 9) (4 ∷ 5 ∷ 128 ∷ 255 ∷ [])
    ++ map (λ (k : ℕ). wrong_at 1 (whole 1 runs) k 9) (4 ∷ 5 ∷ 128 ∷ 255 ∷ [])
    ++ map (λ (k : ℕ). wrong_at 1 (whole 1 runs_last) k 9) (4 ∷ 5 ∷ 128 ∷ 255 ∷ [])

-- R83: where R81 has a 0: one byte alone, the lowest of two, and in other slots
abbrev zero_edges : List ImageEdge
zero_edges =
    map (wrong_at 1 (whole 1 free) 1) (10 ∷ 11 ∷ 12 ∷ 13 ∷ 14 ∷ 15 ∷ 16 ∷ 17 ∷ [])
    ++ map (wrong_at 1 (whole 1 waits) 1) (16 ∷ 17 ∷ [])
    ++ edge 1 (set (whole 1 waits) 15 255) (reads (waiting 0x5251 0x6261 0xFF71 ∷ []))
    ∷ edge 1 (set (set (whole 1 waits) 17 255) 16 255) (breaks 16)
    ∷ edge 1 (set (set (whole 1 free) 17 255) 10 255) (breaks 10)
    ∷ edge 1 (whole 1 (0 ∷ replicate 8 255)) (breaks 10)
    ∷ edge 1 (whole 1 (2 ∷ replicate 8 255)) (breaks 16)
    ∷ edge 2 (4 ∷ replicate 8 255 ++ (1 ∷ replicate 8 255) ++ (3 ∷ replicate 41 255))
    (Ok (with_departed (with_counts (table_with 18446744073709551615 (running 65535 65535 65535 65535 ∷ parting 65535 65535 65535 65535 ∷ [])) (replicate 2 18446744073709551615) 18446744073709551615)
    18446744073709551615))
    ∷ map (wrong_at 2 (whole 2 (runs ++ free)) 1) (19 ∷ 20 ∷ 25 ∷ 26 ∷ [])
    ++ map (wrong_at 2 (whole 2 (runs ++ waits)) 1) (25 ∷ 26 ∷ [])
    ++ edge 2 (set (whole 2 (free ++ runs)) 18 4) (breaks 18)
    ∷ edge 2 (set (set (whole 2 (free ++ free)) 19 1) 17 1) (breaks 17)
    ∷ edge 2 (set (set (whole 2 (free ++ free)) 18 4) 9 4) (breaks 9)
    ∷ map (wrong_at 16 (whole 16 (times 16 free)) 1) (10 ∷ 136 ∷ 143 ∷ 145 ∷ 152 ∷ [])
    ++ wrong_at 16 (whole 16 (times 16 free)) 4 144
    ∷ wrong_at 16 (whole 16 (times 16 runs)) 4 144
    ∷ []

-- R81: the slots' order, and what stands next to a slot is not its own
abbrev slot_edges : List ImageEdge
slot_edges =
    edge 0 (whole 0 []) (reads [])
    ∷ edge 2 (whole 2 (runs ++ waits)) (reads (run_slot ∷ wait_slot ∷ []))
    ∷ edge 2 (whole 2 (waits ++ runs)) (reads (wait_slot ∷ run_slot ∷ []))
    ∷ edge 3 (whole 3 (free ++ waits ++ runs)) (reads (empty ∷ wait_slot ∷ run_slot ∷ []))
    ∷ edge 3 (whole 3 (free ++ free ++ waits)) (reads (empty ∷ empty ∷ wait_slot ∷ []))
    ∷ edge 16 (whole 16 (times 15 free ++ waits)) (reads (replicate 15 empty ++ (wait_slot ∷ [])))
    ∷ edge 2 (whole 2 (runs_last ++ runs)) (reads (leave_slot ∷ run_slot ∷ []))
    ∷ edge 3 (whole 3 (waits ++ runs_last ++ free)) (reads (wait_slot ∷ leave_slot ∷ empty ∷ []))
    ∷ edge 16 (whole 16 (times 16 runs)) (reads (replicate 16 run_slot))
    ∷ edge 16 (whole 16 (times 15 runs ++ runs_last)) (reads (replicate 15 run_slot ++ (leave_slot ∷ [])))
    ∷ edge 16 (whole 16 (times 16 runs_last)) (reads (replicate 16 leave_slot))
    ∷ []

-- sixteen slots that hold nothing before these bytes, their counts, the idle one and the departed one, and nobody ran last
abbrev free_before : List ℕ → List ℕ
free_before l = front ++ times 16 free ++ l ++ (255 ∷ [])

-- what they read as
abbrev free_reads : (had : List ℕ) (idle departed : ℕ) → Said Table
free_reads ns n d = Ok (with_departed (with_counts (table_with 0xA8A7A6A5A4A3A2A1 (replicate 16 empty)) ns n) d)

-- no count but 1 in one byte, where every slot holds nothing
abbrev one_at : (at : ℕ) → List ℕ
one_at at = set (free_before (replicate 144 0)) at 1

-- R81, R95: each count in its place and in no other, the first, the last three, and all of them; any counts may stand there, beside slots that hold nothing too
abbrev count_edges : List ImageEdge
count_edges =
    edge 16 (free_before (replicate 144 0)) (free_reads (replicate 16 0) 0 0)
    ∷ edge 16 (free_before (replicate 8 255 ++ replicate 136 0)) (free_reads (18446744073709551615 ∷ replicate 15 0) 0 0)
    ∷ edge 16 (free_before (replicate 120 0 ++ replicate 8 255 ++ replicate 16 0)) (free_reads (replicate 15 0 ++ (18446744073709551615 ∷ [])) 0 0)
    ∷ edge 16 (free_before (replicate 128 0 ++ replicate 8 255 ++ replicate 8 0)) (free_reads (replicate 16 0) 18446744073709551615 0)
    ∷ edge 16 (free_before (replicate 136 0 ++ replicate 8 255)) (free_reads (replicate 16 0) 0 18446744073709551615)
    ∷ edge 16 (free_before (replicate 144 255)) (free_reads (replicate 16 18446744073709551615) 18446744073709551615 18446744073709551615)
    ∷ edge 16 (one_at 153) (free_reads (1 ∷ replicate 15 0) 0 0)
    ∷ edge 16 (one_at 160) (free_reads (72057594037927936 ∷ replicate 15 0) 0 0)
    ∷ edge 16 (one_at 161) (free_reads (0 ∷ 1 ∷ replicate 14 0) 0 0)
    ∷ edge 16 (one_at 280) (free_reads (replicate 15 0 ++ (72057594037927936 ∷ [])) 0 0)
    ∷ edge 16 (one_at 281) (free_reads (replicate 16 0) 1 0)
    ∷ edge 16 (one_at 288) (free_reads (replicate 16 0) 72057594037927936 0)
    ∷ edge 16 (one_at 289) (free_reads (replicate 16 0) 0 1)
    ∷ edge 16 (one_at 296) (free_reads (replicate 16 0) 0 72057594037927936)
    ∷ []

-- right bytes cut after so many
abbrev cut_at : (slots : ℕ) → List ℕ → (length : ℕ) → ImageEdge
cut_at n l m = edge n (take m l) (breaks m)

-- R83: each length is refused at its end, or at the image's
abbrev length_edges : List ImageEdge
length_edges =
    map (cut_at 1 (whole 1 runs)) (0 ∷ 1 ∷ 8 ∷ 9 ∷ 10 ∷ 17 ∷ 18 ∷ 19 ∷ 25 ∷ 26 ∷ 33 ∷ 34 ∷ 41 ∷ 42 ∷ [])
    ++ edge 1 (whole 1 runs ++ (0 ∷ [])) (breaks 43)
    ∷ edge 1 (whole 1 (runs ++ runs)) (breaks 43)
    ∷ edge 0 (whole 0 [] ++ (0 ∷ [])) (breaks 26)
    ∷ map (cut_at 0 (whole 0 [])) (8 ∷ 9 ∷ 16 ∷ 17 ∷ 24 ∷ 25 ∷ [])
    ++ map (cut_at 16 (whole 16 (times 16 runs))) (144 ∷ 152 ∷ 153 ∷ 154 ∷ 280 ∷ 281 ∷ 288 ∷ 289 ∷ 290 ∷ 296 ∷ 297 ∷ [])
    ++ edge 16 (whole 16 (times 16 runs) ++ (0 ∷ [])) (breaks 298)
    ∷ edge 16 (whole 16 (times 16 runs) ++ (0 ∷ 0 ∷ [])) (breaks 298)
    ∷ []

-- R83: a wrong byte and a wrong length, the lower of the two; a byte that is missing is not wrong, and neither is one behind the slots
abbrev order_edges : List ImageEdge
order_edges =
    edge 1 (take 13 (set (whole 1 free) 11 1)) (breaks 11)
    ∷ edge 1 (take 12 (set (whole 1 free) 11 1)) (breaks 11)
    ∷ edge 1 (take 10 (set (whole 1 free) 11 1)) (breaks 10)
    ∷ edge 1 (take 10 (whole 1 waits)) (breaks 10)
    ∷ edge 2 (take 11 (whole 2 (runs ++ free))) (breaks 11)
    ∷ edge 2 (front ++ (3 ∷ [])) (breaks 10)
    ∷ edge 2 (front ++ (4 ∷ [])) (breaks 9)
    ∷ edge 1 (set (whole 1 free) 17 1 ++ (0 ∷ [])) (breaks 17)
    ∷ edge 1 (take 42 (set (whole 1 free) 17 1)) (breaks 17)
    ∷ edge 1 (whole 1 free ++ (4 ∷ [])) (breaks 43)
    ∷ edge 1 (whole 1 free ++ (0 ∷ 1 ∷ [])) (breaks 43)
    ∷ edge 16 (set (whole 16 (times 16 free)) 152 1 ++ (1 ∷ [])) (breaks 152)
    ∷ edge 16 (take 297 (set (whole 16 (times 16 free)) 152 1)) (breaks 152)
    ∷ edge 16 (whole 16 (times 16 free) ++ (0 ∷ 1 ∷ [])) (breaks 298)
    ∷ []

-- R81, R83: all of them
unfoldable pub image_edges : List ImageEdge
image_edges = version_edges ++ kind_edges ++ zero_edges ++ slot_edges ++ count_edges ++ length_edges ++ order_edges

-- R31, R81, R83: what each of them is
pub image_edges_lem : map (λ (e : ImageEdge). load_with e.slots e.bytes) image_edges ≡ map (λ (e : ImageEdge). e.says) image_edges
unfolding lowest blank_from slots_wrong length_wrong wrong_in held_in load_with image_edges
image_edges_lem = refl

-- R81: each byte of an image stands where its offset says, for tables of none, one, two and sixteen slots
pub written_edges : map image_of (
    under [] ∷ under (run_slot ∷ []) ∷ under (wait_slot ∷ run_slot ∷ []) ∷ under (empty ∷ wait_slot ∷ []) ∷ under (replicate 15 empty ++ (run_slot ∷ []))
    ∷ under (leave_slot ∷ []) ∷ under (run_slot ∷ leave_slot ∷ []) ∷ under (replicate 15 run_slot ++ (leave_slot ∷ [])) ∷ [])
    ≡ whole 0 [] ∷ whole 1 runs ∷ whole 2 (waits ++ runs) ∷ whole 2 (free ++ waits) ∷ whole 16 (times 15 free ++ runs)
    ∷ whole 1 runs_last ∷ whole 2 (runs ++ runs_last) ∷ whole 16 (times 15 runs ++ runs_last) ∷ []
unfolding image_of
written_edges = refl

-- R3, R82: the greatest numbers have an image too
pub greatest_written : image_of (
    with_departed (with_counts (table_with 18446744073709551615 (running 65535 65535 65535 65535 ∷ waiting 65535 65535 65535 ∷ parting 65535 65535 65535 65535 ∷ [])) (18446744073709551615 ∷ 0 ∷ 0 ∷ []) 0)
    18446744073709551615)
    ≡ 4 ∷ replicate 8 255 ++ (1 ∷ replicate 8 255) ++ (2 ∷ replicate 6 255) ++ (0 ∷ 0 ∷ []) ++ (3 ∷ replicate 8 255) ++ replicate 8 255 ++ replicate 24 0 ++ replicate 9 255
unfolding image_of
greatest_written = refl

-- R82, R99: a line that renews and one that leaves, with the same numbers, have different images
pub lines_tell : (k C T a c : ℕ) → image_of (table_with k (running C T a c ∷ [])) ≡ image_of (table_with k (parting C T a c ∷ [])) → ⊥
unfolding image_of
lines_tell k C T a c e = let z : ◌≡◌ {A = ℕ} 1 3 = ap (λ (l : List ℕ). byte l 9) e in omega arith

-- R81: for sixteen slots an image has 298 bytes, for one 43
pub size_edges : map size (0 ∷ 1 ∷ 16 ∷ []) ≡ 26 ∷ 43 ∷ 298 ∷ []
size_edges = refl

-- a table of sixteen slots, and its image
abbrev sixteen : Table
sixteen = under (run_slot ∷ wait_slot ∷ leave_slot ∷ replicate 13 empty)

abbrev sixteen_bytes : List ℕ
sixteen_bytes = whole 16 (runs ++ waits ++ runs_last ++ times 13 free)

-- a buffer of n bytes that are no image's
abbrev lent : ℕ → List ℕ
lent n = replicate n 0xEE

-- R33, R84: the room for an image, on both sides
pub room_edges : map store_of (0 ∷ 9 ∷ 153 ∷ 289 ∷ 296 ∷ 297 ∷ 298 ∷ 299 ∷ 1000 ∷ [])
    ≡ replicate 6 (Err (refusal 13 0)) ++ replicate 3 (Ok 298)
unfolding store_of
room_edges = refl

-- R84: the image at the start of the buffer, and behind it the bytes as they were; all as they were where it does not fit
pub stored_edges : map (stored_in sixteen) ([] ∷ lent 153 ∷ lent 289 ∷ lent 296 ∷ lent 297 ∷ lent 298 ∷ (lent 298 ++ (0xDD ∷ [])) ∷ (lent 298 ++ (0xDD ∷ 0xCC ∷ 0xBB ∷ [])) ∷ [])
    ≡ [] ∷ lent 153 ∷ lent 289 ∷ lent 296 ∷ lent 297 ∷ sixteen_bytes ∷ (sixteen_bytes ++ (0xDD ∷ [])) ∷ (sixteen_bytes ++ (0xDD ∷ 0xCC ∷ 0xBB ∷ [])) ∷ []
unfolding store_of image_of
stored_edges = refl

-- R84: what is handed out: a table with its answer, and with a refusal the empty table of sixteen slots
pub handed_edges : map (λ (l : List ℕ). handed_out (load_of l)) (sixteen_bytes ∷ take 297 sixteen_bytes ∷ (sixteen_bytes ++ (0 ∷ [])) ∷ set sixteen_bytes 144 4 ∷ set sixteen_bytes 0 3 ∷ [])
    ≡ record { table = sixteen; answer = Ok tt }
    ∷ record { table = table_with 0 (replicate 16 empty); answer = Err (refusal 11 297) }
    ∷ record { table = table_with 0 (replicate 16 empty); answer = Err (refusal 11 298) }
    ∷ record { table = table_with 0 (replicate 16 empty); answer = Err (refusal 11 144) }
    ∷ record { table = table_with 0 (replicate 16 empty); answer = Err (refusal 11 0) }
    ∷ []
unfolding lowest blank_from slots_wrong length_wrong wrong_in held_in load_with
handed_edges = refl

-- R17, R84: an answer says its own numbers, whatever table stands beside a refusal
pub said_edges : (t : Table) → map said_loaded (record { table = t; answer = Ok tt } ∷ record { table = t; answer = Err (refusal 12 34) } ∷ [])
    ≡ Ok t ∷ Err (refusal 12 34) ∷ []
said_edges t = refl
