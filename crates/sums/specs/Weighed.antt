-- Whether lines are fit, computed, and the first of the grounds that their sums decide.
use Rattle.std.specs.Prelude.{Result, Ok, Err, ℕ, ◌+◌, ◌*◌, ◌/◌, ◌≤◌, ◌≡◌, Bool, not, List, ◌∷◌, map, ltb, leb, length}
use Rattle.periods.specs.Multiples.{frame_of}
use Rattle.line.specs.declared.Stream.{Stream}
use Rattle.line.specs.Slots.{pick, both}
use Rattle.line.specs.Streams.{share_of, claim_of, full_of}
use Rattle.sums.specs.declared.Weights.{Weights}
use Rattle.sums.specs.declared.Ground.{Ground}
use Rattle.sums.specs.declared.Ground.TheVariants.{Unfit, Misfit, Wide, Overload, Behind}
use Rattle.sums.specs.Lines.{sum_of, all_of, lines_of, alike, most, longest}

-- R24, R25, R3: `Fit`, computed
abbrev pub is_fit : Stream → Bool
is_fit x =
    both (both (leb x.remaining x.need) (both (leb x.end x.period) (leb x.need x.period)))
    (both (leb 1 x.period) (leb x.period longest))

-- not too many lines, each of them fit
unfoldable pub fitting : List Stream → Bool
fitting l = both (leb (length l) most) (all_of is_fit l)

-- R16, R28, R29: the weights of the line x with the frame F, and how great they can be
pub record Weighs (F : ℕ) (x : Stream) (w : Weights) : Type 0 where
  pub shares : w.shares ≡ share_of F x
  pub claims : w.claims ≡ claim_of F x
  pub needs : w.needs ≡ full_of F x
  pub few : w.shares ≤ 1000000
  pub great : w.claims ≤ 131072000000
  pub more : w.needs ≤ 65536000000

-- R28, R29: what the lines add up to with the frame F
pub record AddedUp (l : List Stream) (F : ℕ) (w : Weights) : Type 0 where
  pub shares : w.shares ≡ sum_of (share_of F) l
  pub small : w.shares ≤ 1000000 * most
  pub claims : w.claims ≡ sum_of (claim_of F) l
  pub needs : w.needs ≡ sum_of (full_of F) l

-- R8: the periods that the frame is made of, but for Tn
abbrev pub periods_of : List Stream → List ℕ
periods_of l = map (λ (x : Stream). x.period) l

-- R17: the number of a ground
abbrev pub number : Ground → ℕ
number Unfit = 4
number Misfit = 6
number Wide = 7
number Overload = 8
number Behind = 9

-- R17: the number of what was found, or 0 where no ground holds
abbrev pub number_of : Result (Unit {0}) Ground → ℕ
number_of (Ok x) = 0
number_of (Err g) = number g

-- R18, R27, R28, R29: the first that holds with the frame F, or 0
unfoldable pub weighed_fit : List Stream → (F Cn Tn : ℕ) → ℕ
weighed_fit l F Cn Tn =
    pick (ltb 1000000 F) 7
    (pick (ltb F (sum_of (share_of F) l + Cn * (F / Tn))) 8
    (pick (ltb (sum_of (full_of F) l) (sum_of (claim_of F) l)) 9 0))

-- R18, R24, R26: 4 where the lines are not fit, 6 where the new line does not fit its period, else the first of R27 to R29
unfoldable pub weighed : List Stream → (Cn Tn : ℕ) → ℕ
weighed l Cn Tn =
    pick (not (fitting l)) 4
    (pick (not (both (leb 1 Cn) (leb Cn Tn))) 6
    (weighed_fit l (frame_of (Tn ∷ periods_of l)) Cn Tn))

-- the slices have one length, and their lines are fit
abbrev pub fitting_in : (e c n p : List ℕ) → Bool
fitting_in e c n p = both (alike e c n p) (fitting (lines_of e c n p))

-- the same of slices: 4 where they differ in length
abbrev pub weighed_in : (e c n p : List ℕ) → (Cn Tn : ℕ) → ℕ
weighed_in e c n p Cn Tn = pick (alike e c n p) (weighed (lines_of e c n p) Cn Tn) 4
