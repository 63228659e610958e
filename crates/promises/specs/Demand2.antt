-- The second demand: the least smooth start, R14; refused exactly on the listed grounds, R18; cards and images there and back, R72 and R82.
use Rattle.std.specs.Prelude.{Ok, Err, ◌≡◌, ◌⊎◌, false, List, [], ◌∷◌, ◌++◌, map, ℕ, ◌/◌, ◌%◌, ◌^◌, ◌≤◌, length, take, drop, get_or}
use Rattle.table.specs.Words.{Said}
use Rattle.line.specs.Slots.{pick}
use Rattle.table.specs.declared.Table.{Table}
use Rattle.table.specs.declared.Request.{Request}
use Rattle.table.specs.declared.Refusal.{Refusal}
use Rattle.table.specs.Words.{unbooked}
use Rattle.line.specs.Demand.{new_demand, Least}
use Rattle.table.specs.Grounds.{asked, Row, grounds, FirstOf}
use Rattle.ask.specs.Asked.{Asked}
use Rattle.card.specs.Bytes.{Bytes}
use Rattle.card.specs.declared.Card.{Card}
use Rattle.card.specs.Card.{carrying, cleared, Fits}
use Rattle.card.specs.Marked.{Records}
use Rattle.card.specs.Reading.{records_with, read_of}
use Rattle.card.specs.Twin.{is_old, turned_of, twin_of}
use Rattle.image.specs.Image.{image_of, TableWidths}
use Rattle.image.specs.Loading.{load_of}
use Rattle.calls.specs.declared.Returned.{Returned}
use Rattle.calls.specs.Results.{granted_as}
use Rattle.promises.specs.Operations.{Writes, Rewrites, Stores}

-- R14: a start that ask answers is the least smooth one
abbrev pub LeastStart : Type 0
LeastStart = (t : Table) (q : Request) (a : Said ℕ) (r : ℕ) → Asked t q a → a ≡ Ok r
    → Least t.clock (asked t q) (new_demand q.need q.period) r

-- R18: some ground of the list holds
abbrev pub SomeOf : List Row → Table → Request → Type 0
SomeOf [] t q = ⊥
SomeOf (r ∷ rs) t q = ((x : Refusal) × r t q x) ⊎ SomeOf rs t q

-- R18: ask refuses where a ground holds and nowhere else, and then with the first
pub record ExactlyRefused : Type 0 where
  pub first : (t : Table) (q : Request) (a : Said ℕ) (x : Refusal) → Asked t q a → a ≡ Err x → FirstOf grounds t q x
  pub only : (t : Table) (q : Request) (a : Said ℕ) (x : Refusal) → Asked t q a → a ≡ Err x → SomeOf grounds t q
  pub always : (t : Table) (q : Request) (a : Said ℕ) → Asked t q a → SomeOf grounds t q → (x : Refusal) × (a ≡ Err x)

-- R72: what was written reads back, every count 0 and nobody the last that ran. `Fits` holds of every table and request of the code's types that has no waiting line.
abbrev pub WrittenReadsBack : Type 0
WrittenReadsBack = (t : Table) (q : Request) (l : List ℕ) (a : Said ℕ) (m : List ℕ) (n : ℕ) → Fits 16 t q → Writes t q l a m → a ≡ Ok n
    → read_of (take n m) ≡ Ok (carrying (unbooked t) (cleared t q))

-- R72: what reads is written as its twin, into any buffer that has room for the card
abbrev pub ReadWritesTwin : Type 0
ReadWritesTwin = (card : List ℕ) (c : Card) (l : List ℕ) (a : Said ℕ) (m : List ℕ) → Bytes card → read_of card ≡ Ok c → length card ≤ length l
    → Writes c.table c.request l a m → (a ≡ Ok (length card)) × (m ≡ twin_of card ++ drop (length card) l)

-- R72: without TA it is written back byte for byte
abbrev pub ReadWritesBack : Type 0
ReadWritesBack = (card : List ℕ) (c : Card) (l : List ℕ) (a : Said ℕ) (m : List ℕ) → Bytes card → read_of card ≡ Ok c → turned_of card ≡ 0
    → length card ≤ length l
    → Writes c.table c.request l a m → (a ≡ Ok (length card)) × (m ≡ card ++ drop (length card) l)

-- R72: the twin reads as the same table and request, and has no TA
abbrev pub TwinReads : Type 0
TwinReads = (card : List ℕ) (c : Card) → Bytes card → read_of card ≡ Ok c → (read_of (twin_of card) ≡ Ok c) × (turned_of (twin_of card) ≡ 0)

-- R72: two cards read alike exactly when they have the same twin
abbrev pub ReadAlike : Type 0
ReadAlike = (l m : List ℕ) → Bytes l → Bytes m → (c d : Card) → read_of l ≡ Ok c → read_of m ≡ Ok d
    → (c ≡ d → twin_of l ≡ twin_of m) × (twin_of l ≡ twin_of m → c ≡ d)

-- R65: the tool makes the twin of any card that reads, and its word has a bit for each slot whose record is TA, and no other
abbrev pub RewritesTwin : Type 0
RewritesTwin = (card : List ℕ) (d : Records) (l : List ℕ) (r : Returned) (m : List ℕ) → Bytes card → records_with 16 card ≡ Ok d → length card ≤ length l
    → Rewrites card l r m
    → (r ≡ granted_as r.place (length card)) × ((k : ℕ) → r.place / 2 ^ k % 2 ≡ pick (get_or (map is_old d.slots) k false) 1 0)
    × (m ≡ twin_of card ++ drop (length card) l)

-- R32, R57: the reader refuses with 11 alone
abbrev pub ReadRefusesBroken : Type 0
ReadRefusesBroken = (card : List ℕ) (x : Refusal) → read_of card ≡ Err x → x.number ≡ 11

-- R82: what was stored loads back. `Wide` holds of every table of the code's types.
abbrev pub StoredLoadsBack : Type 0
StoredLoadsBack = (t : Table) (l : List ℕ) (a : Said ℕ) (m : List ℕ) (n : ℕ) → TableWidths 16 t → Stores t l a m → a ≡ Ok n
    → load_of (take n m) ≡ Ok t

-- R82: what loads is stored byte for byte, into any buffer that has room for it
abbrev pub LoadedStoresBack : Type 0
LoadedStoresBack = (image : List ℕ) (t : Table) (l : List ℕ) (a : Said ℕ) (m : List ℕ) → Bytes image → load_of image ≡ Ok t → length image ≤ length l
    → Stores t l a m → (a ≡ Ok (length image)) × (m ≡ image ++ drop (length image) l)

-- R82: no two tables have the same image
abbrev pub OneImage : Type 0
OneImage = (t u : Table) → TableWidths 16 t → TableWidths 16 u → image_of t ≡ image_of u → t ≡ u

-- R14, R18, R65, R72, R82: the second demand, all of it
pub record Demand2 : Type 0 where
  pub least_start : LeastStart
  pub exactly_refused : ExactlyRefused
  pub written_reads_back : WrittenReadsBack
  pub read_writes_twin : ReadWritesTwin
  pub read_writes_back : ReadWritesBack
  pub twin_reads : TwinReads
  pub read_alike : ReadAlike
  pub rewrites_twin : RewritesTwin
  pub read_refuses_broken : ReadRefusesBroken
  pub stored_loads_back : StoredLoadsBack
  pub loaded_stores_back : LoadedStoresBack
  pub one_image : OneImage
