-- Cards and their twins on both sides of each edge of R58 and R72, by computation.
use Prim.Native.Nat.{ℕ}
use mathlib.Core.Path.{◌≡◌, refl}
use mathlib.Core.List.{List, [], ◌∷◌, ◌++◌, map}
use lib.ListN.{take}
use Rattle.card.specs.Bytes.{marked}
use Rattle.card.specs.Reading.{record_of, records_of}
use Rattle.card.specs.Twin.{turned_with, turned_of, twin_from, twin_with, twin_of}
use Rattle.card.proofs.Edges.{times, whole, clock, free, line, leaving_line, request, old}

-- a card, the word of its slots whose records are TA, and its twin
pub record TwinEdge : Type 0 where
  pub bytes : List ℕ
  pub turned : ℕ
  pub twin : List ℕ

abbrev turns : List ℕ → (turned : ℕ) → List ℕ → TwinEdge
turns l w m = record { bytes = l; turned = w; twin = m }

-- a TA record whose age and remaining are equal, and its twin
abbrev old_equal : List ℕ
old_equal = 0x54 ∷ 0x41 ∷ 0x11 ∷ 0x12 ∷ 0x21 ∷ 0x22 ∷ 0x31 ∷ 0x32 ∷ 0x61 ∷ 0x62 ∷ 0x61 ∷ 0x62 ∷ []

abbrev new_equal : List ℕ
new_equal = 0x54 ∷ 0x42 ∷ 0x11 ∷ 0x12 ∷ 0x21 ∷ 0x22 ∷ 0x31 ∷ 0x32 ∷ 0x61 ∷ 0x62 ∷ 0x61 ∷ 0x62 ∷ []

-- R58, R72: no TA, one, several among others, all sixteen, equal numbers; TL, which stays; and cards that are refused, whose TA records before the fault are turned all the same
unfoldable pub twin_edges : List TwinEdge
twin_edges =
    turns whole 0 whole
    ∷ turns (clock ++ request) 0 (clock ++ request)
    ∷ turns (clock ++ old ++ request) 1 (clock ++ line ++ request)
    ∷ turns (clock ++ free ++ old ++ request) 2 (clock ++ free ++ line ++ request)
    ∷ turns (clock ++ old ++ line ++ old ++ request) 5 (clock ++ line ++ line ++ line ++ request)
    ∷ turns (clock ++ old_equal ++ line ++ request) 1 (clock ++ new_equal ++ line ++ request)
    ∷ turns (clock ++ times 16 old ++ request) 65535 (clock ++ times 16 line ++ request)
    ∷ turns (clock ++ times 15 line ++ old ++ request) 32768 (clock ++ times 16 line ++ request)
    ∷ turns (clock ++ leaving_line ++ request) 0 (clock ++ leaving_line ++ request)
    ∷ turns (clock ++ old ++ leaving_line ++ old ++ line ++ request) 5 (clock ++ line ++ leaving_line ++ line ++ line ++ request)
    ∷ turns (clock ++ leaving_line ++ old ++ free ++ leaving_line ++ request) 2 (clock ++ leaving_line ++ line ++ free ++ leaving_line ++ request)
    ∷ turns (clock ++ times 16 leaving_line ++ request) 0 (clock ++ times 16 leaving_line ++ request)
    ∷ turns (clock ++ old ++ leaving_line ++ take 11 leaving_line) 0 (clock ++ line ++ leaving_line ++ take 11 leaving_line)
    ∷ turns (clock ++ old ++ take 11 old) 0 (clock ++ line ++ take 11 old)
    ∷ turns (clock ++ times 17 old ++ request) 0 (clock ++ times 16 line ++ old ++ request)
    ∷ turns (take 9 clock) 0 (take 9 clock)
    ∷ []

-- R58, R72: what the definitions say of each
pub twin_edges_lem : (map (λ (t : TwinEdge). turned_of t.bytes) twin_edges ≡ map (λ (t : TwinEdge). t.turned) twin_edges)
    × (map (λ (t : TwinEdge). twin_of t.bytes) twin_edges ≡ map (λ (t : TwinEdge). t.twin) twin_edges)
unfolding marked record_of records_of turned_with twin_from twin_with twin_edges
twin_edges_lem = (refl, refl)
