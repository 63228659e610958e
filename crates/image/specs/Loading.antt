-- Loading: which byte of an image is wrong, and the table that stands in it where none is.
use Rattle.std.specs.Prelude.{Ok, Err, ℕ, zero, suc, ◌+◌, Bool, List, [], ◌∷◌, length, drop, get_or, eqb, leb, ltb, Option, None, Some}
use Rattle.line.specs.declared.Follows.{Follows}
use Rattle.line.specs.declared.Follows.TheVariants.{Renews, Leaves}
use Rattle.line.specs.declared.Run.{Run}
use Rattle.line.specs.declared.Wait.{Wait}
use Rattle.line.specs.declared.Held.{Held}
use Rattle.line.specs.declared.Held.TheVariants.{Nothing, Running, Waiting}
use Rattle.line.specs.declared.Slot.{Slot}
use Rattle.line.specs.Slots.{pick, both, run_then, wait_with, holding, or_else, lowest}
use Rattle.table.specs.declared.Table.{Table}
use Rattle.table.specs.Words.{table_with, with_counts, with_departed, with_last, refusal, Said}
use Rattle.card.specs.Bytes.{value}
use Rattle.image.specs.Image.{version, counts_at, idle_at, departed_at, last_at, size}

-- R81: the byte at an offset; one that is not there counts as 0
abbrev pub byte : List ℕ → (at : ℕ) → ℕ
byte l at = get_or l at 0

-- R81, R83: from which of its nine bytes on a slot of this kind has zeros only. Of a kind above 3 there is none: its first byte is wrong.
unfoldable pub blank_from : (kind : ℕ) → ℕ
blank_from k = pick (eqb k 0) 1 (pick (eqb k 1) 9 (pick (eqb k 2) 7 (pick (eqb k 3) 9 0)))

-- R83: byte i of the slot in front is not 0 where it should be
abbrev pub is_wrong : List ℕ → ℕ → Bool
is_wrong l i = both (leb (blank_from (byte l 0)) i) (ltb 0 (byte l i))

-- R83: the lowest wrong byte of the slot in front
abbrev pub slot_wrong : List ℕ → Option ℕ
slot_wrong l = lowest (is_wrong l) 9

-- so many bytes further on
abbrev pub on_by : ℕ → Option ℕ → Option ℕ
on_by k None = None
on_by k (Some i) = Some (k + i)

-- R83: the lowest wrong byte of n slots, the first of them at an offset
unfoldable pub slots_wrong : (n at : ℕ) → List ℕ → Option ℕ
slots_wrong zero at l = None
slots_wrong (suc n) at l = or_else (on_by at (slot_wrong l)) (slots_wrong n (at + 9) (drop 9 l))

-- R83: another version
abbrev pub version_wrong : List ℕ → Option ℕ
version_wrong l = pick (eqb (byte l 0) version) None (Some 0)

-- R83: another length, at the lesser of the two
unfoldable pub length_wrong : (wanted given : ℕ) → Option ℕ
length_wrong m n = pick (eqb n m) None (Some (pick (ltb n m) n m))

-- R83: the lowest offset at which an image of n slots is wrong. What is wrong with a byte stands before the image's end.
unfoldable pub wrong_in : (n : ℕ) → List ℕ → Option ℕ
wrong_in n l = or_else (version_wrong l) (or_else (slots_wrong n 9 (drop 9 l)) (length_wrong (size n) (length l)))

-- R81: the running line in front, with what follows its period
abbrev pub run_in : Follows → List ℕ → Run
run_in f l = run_then f (value 2 l 1) (value 2 l 3) (value 2 l 5) (value 2 l 7)

-- R81: the waiting line in front
abbrev pub wait_in : List ℕ → Wait
wait_in l = wait_with (value 2 l 1) (value 2 l 3) (value 2 l 5)

-- R81: what the slot in front holds
unfoldable pub held_in : List ℕ → Held
held_in l =
    pick (eqb (byte l 0) 1) (Running (run_in Renews l))
    (pick (eqb (byte l 0) 2) (Waiting (wait_in l)) (pick (eqb (byte l 0) 3) (Running (run_in Leaves l)) Nothing))

-- what f finds in front, and so n times, each so many bytes further on
abbrev pub series_in : {A : Type 0} → (width : ℕ) → (List ℕ → A) → (n : ℕ) → List ℕ → List A
series_in w f zero l = []
series_in w f (suc n) l = f l ∷ series_in w f n (drop w l)

-- R81: n slots
abbrev pub slots_in : (n : ℕ) → List ℕ → List Slot
slots_in n l = series_in 9 (λ (x : List ℕ). holding (held_in x)) n l

-- R81: the counts of n slots
abbrev pub counts_in : (n : ℕ) → List ℕ → List ℕ
counts_in n l = series_in 8 (λ (x : List ℕ). value 8 x 0) n l

-- R81: the clock, n slots, the counts and the last slot
abbrev pub table_in : (n : ℕ) → List ℕ → Table
table_in n l =
    with_last (with_departed (with_counts (table_with (value 8 l 1) (slots_in n (drop 9 l))) (counts_in n (drop (counts_at n) l)) (value 8 l (idle_at n))) (value 8 l (departed_at n)))
    (byte l (last_at n))

-- R31, R83: refused as broken where a byte is wrong
abbrev pub unless_wrong : Option ℕ → Table → Said Table
unless_wrong None t = Ok t
unless_wrong (Some at) t = Err (refusal 11 at)

-- R83: what any bytes are as the image of a table with n slots
unfoldable pub load_with : (n : ℕ) → List ℕ → Said Table
load_with n l = unless_wrong (wrong_in n l) (table_in n l)

-- R83: for sixteen slots
abbrev pub load_of : List ℕ → Said Table
load_of l = load_with 16 l
