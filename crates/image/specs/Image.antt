-- The bytes of an image, slot by slot and count by count. Lists of any length: sixteen is the code's number.
use Rattle.std.specs.Prelude.{ℕ, ◌+◌, ◌*◌, ◌<◌, ◌≡◌, List, [], ◌∷◌, ◌++◌, length}
use Rattle.periods.specs.Multiples.{All}
use Rattle.line.specs.declared.Follows.{Follows}
use Rattle.line.specs.declared.Held.{Held}
use Rattle.line.specs.declared.Held.TheVariants.{Nothing, Running, Waiting}
use Rattle.line.specs.declared.Slot.{Slot}
use Rattle.line.specs.Slots.{by_follows}
use Rattle.table.specs.declared.Table.{Table}
use Rattle.card.specs.Bytes.{le}

-- R81: the version of the layout
abbrev pub version : ℕ
version = 4

-- R81: where the counts begin in the image of a table with n slots
abbrev pub counts_at : (n : ℕ) → ℕ
counts_at n = 9 + 9 * n

-- R81: where its idle count stands
abbrev pub idle_at : (n : ℕ) → ℕ
idle_at n = counts_at n + 8 * n

-- R81: and where its departed count does
abbrev pub departed_at : (n : ℕ) → ℕ
departed_at n = idle_at n + 8

-- R81, R105: and where the slot that ran last stands
abbrev pub last_at : (n : ℕ) → ℕ
last_at n = departed_at n + 8

-- R81: how long it is
abbrev pub size : (n : ℕ) → ℕ
size n = last_at n + 1

-- f's bytes of each, the first one's first
abbrev pub series : {A : Type 0} → (A → List ℕ) → List A → List ℕ
series f [] = []
series f (x ∷ xs) = f x ++ series f xs

-- R81: a kind, and four numbers of two bytes each
abbrev pub nine : (kind a b c d : ℕ) → List ℕ
nine k a b c d = k ∷ (le 2 a ++ (le 2 b ++ (le 2 c ++ le 2 d)))

-- R81: the kind of a running line, by what follows its period
abbrev pub run_kind : Follows → ℕ
run_kind f = by_follows 1 3 f

-- f of the kind and the four numbers of what a slot holds, 0 where nothing stands
abbrev pub by_fields {ℓ} : {A : Type ℓ} → (ℕ → ℕ → ℕ → ℕ → ℕ → A) → Held → A
by_fields f Nothing = f 0 0 0 0 0
by_fields f (Running r) = f (run_kind r.follows) r.need r.period r.age r.remaining
by_fields f (Waiting w) = f 2 w.need w.period w.wait 0

-- R81: a slot's nine bytes
abbrev pub slot_bytes : Held → List ℕ
slot_bytes h = by_fields nine h

-- R81: the slots, slot 0 first
abbrev pub slots_bytes : List Slot → List ℕ
slots_bytes ss = series (λ (s : Slot). slot_bytes s.held) ss

-- R81: the counts of the slots, slot 0's first
abbrev pub counts_bytes : List ℕ → List ℕ
counts_bytes ns = series (le 8) ns

-- R81, R82: the version, the clock, the slots, the counts, the last slot; every table has this one image
unfoldable pub image_of : Table → List ℕ
image_of t = (version ∷ le 8 t.clock) ++ slots_bytes t.slots ++ counts_bytes t.had ++ le 8 t.idle ++ le 8 t.departed ++ (t.last ∷ [])

-- R3: the numbers of what a slot holds have sixteen bits
abbrev pub Narrow : Held → Type 0
Narrow h = by_fields (λ k a b c d. (a < 65536) × (b < 65536) × (c < 65536) × (d < 65536)) h

-- R3: the same of every slot
abbrev pub AllNarrow : List Slot → Type 0
AllNarrow ss = All (λ (s : Slot). Narrow s.held) ss

-- R2, R95: a number of sixty-four bits, which eight bytes hold
abbrev pub InEight : ℕ → Type 0
InEight v = v < 18446744073709551616

-- R2, R3, R95, R105: a table of n slots whose numbers have the code's widths, as every table in code has
pub record TableWidths (n : ℕ) (t : Table) : Type 0 where
  pub slots : length t.slots ≡ n
  pub clock : InEight t.clock
  pub lines : AllNarrow t.slots
  pub counts : length t.had ≡ n
  pub had : All InEight t.had
  pub idle : InEight t.idle
  pub departed : InEight t.departed
  pub last : t.last < 256
