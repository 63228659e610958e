-- From the slots to the arrays: what is gathered are the lines of the slots, each at its T'.
use Prim.Native.Nat.{ℕ, zero, suc, ◌+◌, ◌≤◌, ◌<◌}
use mathlib.Core.Path.{◌≡◌, refl, ap, sym, ◌∙◌}
use mathlib.Core.Bool.{Bool, true, false}
use mathlib.Core.List.{List, [], ◌∷◌, ◌++◌, append_assoc, append-nil}
use native.Mathlib.Nat.{le_of_suc-le-suc}
use native.Mathlib.Numerals.{add-one}
use native.Mathlib.Omega.{arith}
use lib.ListN.{length, get_or, drop, take, length-set}
use lib.Seq.{get_or-set_same, get_or-set_other, get_or-take, length-take-le}
use borrow.Author.Tests.{eq-eqb}
use Rattle.line.specs.declared.Held.{Held}
use Rattle.line.specs.declared.Held.TheVariants.{Nothing, Running, Waiting}
use Rattle.line.specs.declared.Slot.{Slot}
use Rattle.line.specs.declared.Stream.{Stream}
use Rattle.line.specs.Slots.{pick, at, map_at, is_nothing}
use Rattle.line.specs.Streams.{no_stream, by_stream}
use Rattle.line.specs.Stretch.{stretch, stretch_slot, stretched}
use Rattle.line.proofs.Read.{seen}
use Rattle.sums.specs.Lines.{along}
use Rattle.sums.proofs.Along.{along_more, along_same}
use Rattle.decide.specs.Lines.{Line, gathered_at, gathered, all_alike, gap_of, line_of, lines_in}
use Rattle.decide.specs.Decided.{decided, decided_in}
use Rattle.ask.specs.declared.gather.Gathered.{Gathered}
use Rattle.ask.specs.Gathered.{gathered_lines, Room, Sixteen, pushed}

-- ---- one line more in the arrays

module _ (g : Gathered) (y : Stream) where
  abbrev before : ℕ → Line
  before = gathered_at g.end g.remaining g.need g.period g.gap

  abbrev after : ℕ → Line
  after = let h = pushed g y in gathered_at h.end h.remaining h.need h.period h.gap

  -- the lines before it stay
  line_keeps : (k : ℕ) → k < g.count → after k ≡ before k
  line_keeps k h =
      rw (
        get_or-set_other g.end g.count k y.end 0 (λ e. omega arith),
        get_or-set_other g.remaining g.count k y.remaining 0 (λ e. omega arith),
        get_or-set_other g.need g.count k y.need 0 (λ e. omega arith),
        get_or-set_other g.period g.count k y.period 0 (λ e. omega arith),
        get_or-set_other g.gap g.count k (gap_of y) 0 (λ e. omega arith),
      )

  line_new : Sixteen g → g.count < 16 → after g.count ≡ line_of y
  line_new r h =
      rw (
        get_or-set_same g.end g.count y.end 0 (omega (arith, r.0)),
        get_or-set_same g.remaining g.count y.remaining 0 (omega (arith, r.1)),
        get_or-set_same g.need g.count y.need 0 (omega (arith, r.2)),
        get_or-set_same g.period g.count y.period 0 (omega (arith, r.3)),
        get_or-set_same g.gap g.count (gap_of y) 0 (omega (arith, r.4)),
      )

  lines_push : Sixteen g → g.count < 16 → gathered_lines (pushed g y) ≡ gathered_lines g ++ (line_of y ∷ [])
  lines_push r h =
      let z : 0 + g.count ≡ g.count = omega arith in
      ap (along after 0) (add-one g.count)
      ∙ along_more after 0 g.count
      ∙ ap (λ (k : ℕ). along after 0 g.count ++ (after k ∷ [])) z
      ∙ ap (λ (x : Line). along after 0 g.count ++ (x ∷ [])) (line_new r h)
      ∙ ap (λ (l : List Line). l ++ (line_of y ∷ [])) (along_same after before 0 g.count (λ k a b. line_keeps k (omega arith)))

-- ---- slot by slot

-- what is taken from a slot at the period T, by the tests that the code makes
taken : (T : ℕ) (h : Held)
    → by_stream [] (λ x. line_of x ∷ []) (stretch T h) ≡ pick (is_nothing h) [] (line_of (by_stream (no_stream) (λ s. s) (stretch T h)) ∷ [])
taken T Nothing = refl
taken T (Running r) = refl
taken T (Waiting w) = refl

asked_step : (l : List Slot) (p : ℕ → ℕ) (i : ℕ) → i < length l
    → lines_in (drop i (stretched l p)) ≡ by_stream [] (λ x. line_of x ∷ []) (stretch (p i) (at l i)) ++ lines_in (drop (suc i) (stretched l p))
unfolding map_at lines_in
asked_step [] p i h = absurd (omega arith)
asked_step (s ∷ l) p zero h = refl
asked_step (s ∷ l) p (suc i) h = asked_step l (λ k. p (suc k)) i (le_of_suc-le-suc h)

asked_end : (l : List Slot) (p : ℕ → ℕ) (i : ℕ) → length l ≤ i → lines_in (drop i (stretched l p)) ≡ []
unfolding map_at lines_in
asked_end [] p zero h = refl
asked_end [] p (suc i) h = refl
asked_end (s ∷ l) p zero h = absurd (omega arith)
asked_end (s ∷ l) p (suc i) h = asked_end l (λ k. p (suc k)) i (le_of_suc-le-suc h)

-- a gathering that has passed i slots: what is left gives the whole
pub record Gathering (l : List Slot) (p : ℕ → ℕ) (i : ℕ) (g : Gathered) : Type 0 where
  pub long : length l ≡ 16
  pub upto : i ≤ 16
  pub few : g.count ≤ i
  pub room : Sixteen g
  pub left : gathered_lines g ++ lines_in (drop i (stretched l p)) ≡ lines_in (stretched l p)
  pub wide : (k : ℕ) → p k ≤ 65535

-- no slot is passed
pub gather_start : (l : List Slot) (p : ℕ → ℕ) (g : Gathered) → length l ≡ 16 → g.count ≡ 0 → Sixteen g → ((k : ℕ) → p k ≤ 65535) → Gathering l p 0 g
unfolding along
gather_start l p g e z r w = record { long = e; upto = omega arith; few = omega arith; room = r; left = rw z; wide = w }

module _ {l : List Slot} {p : ℕ → ℕ} {i : ℕ} {g : Gathered} (v : Gathering l p i g) where
  -- the lines of h are those before and the line that slot i holds at its T'
  gather_on : (h : Gathered) (d : Slot) → i < 16 → h.count ≤ g.count + 1 → Sixteen h
      → gathered_lines h ≡ gathered_lines g ++ by_stream [] (λ y. line_of y ∷ []) (stretch (p i) (get_or l i d).held) → Gathering l p (i + 1) h
  gather_on h d m n o e =
      let a : i < length l = omega (arith, v.long) in
      let z : stretch (p i) (at l i) ≡ stretch (p i) (get_or l i d).held = seen (stretch (p i)) l i d refl refl a in
      record {
        long = v.long;
        upto = omega arith;
        few = omega (arith, v.few);
        room = o;
        left =
            rw (add-one i)
            (ap (λ (k : List Line). k ++ lines_in (drop (suc i) (stretched l p))) (e ∙ ap (λ (k : Held). gathered_lines g ++ by_stream [] (λ y. line_of y ∷ []) k) (sym z))
            ∙ append_assoc (gathered_lines g) (by_stream [] (λ y. line_of y ∷ []) (stretch (p i) (at l i))) (lines_in (drop (suc i) (stretched l p)))
            ∙ ap (λ (k : List Line). gathered_lines g ++ k) (sym (asked_step l p i a))
            ∙ v.left
            );
        wide = v.wide;
      }

  module _ (d : Slot) {b : Bool} (h : i < 16) (t : b ≡ is_nothing (get_or l i d).held) where
    -- slot i holds no line
    pub gather_skip : b ≡ true → Gathering l p (i + 1) g
    gather_skip n =
        gather_on g d h (omega arith) v.room
        (sym (append-nil (gathered_lines g)) ∙ ap (λ (k : List Line). gathered_lines g ++ k) (sym (taken (p i) (get_or l i d).held ∙ rw (sym t ∙ n))))

    -- slot i holds a line, which at its T' is x and asks for y
    pub gather_push : {x : Slot} {y : Stream} → b ≡ false → x ≡ stretch_slot (p i) (get_or l i d) → y ≡ by_stream (no_stream) (λ s. s) x.held
        → Gathering l p (i + 1) (pushed g y)
    gather_push {x} {y} n e f =
        gather_on (pushed g y) d h (omega arith) (simp length-set v.room)
        (lines_push g y v.room (omega (arith, v.few))
        ∙ ap (λ (k : List Line). gathered_lines g ++ k)
        (sym (taken (p i) (get_or l i d).held ∙ rw (sym t ∙ n, f ∙ ap (λ (s : Slot). by_stream (no_stream) (λ u. u) s.held) e)))
        )

  -- the arrays have room for what is gathered
  pub gather_room : Room g
  gather_room =
      let r = v.room in
      let in-sixteen : (n : ℕ) → n ≡ 16 → g.count ≤ n = λ n e. omega (arith, v.few, v.upto) in
      (in-sixteen _ r.0, in-sixteen _ r.1, in-sixteen _ r.2, in-sixteen _ r.3, in-sixteen _ r.4)

  -- R6: all slots are passed
  pub gather_end : 16 ≤ i → gathered_lines g ≡ lines_in (stretched l p)
  gather_end h =
      sym (append-nil (gathered_lines g))
      ∙ ap (λ (x : List Line). gathered_lines g ++ x) (sym (asked_end l p i (omega (arith, v.long))))
      ∙ v.left

-- ---- the arrays as slices

module _ (g : Gathered) (room : Room g) where
  abbrev front : List ℕ → List ℕ
  front l = take g.count l

  front_long : (l : List ℕ) → g.count ≤ length l → length (front l) ≡ g.count
  front_long l h = length-take-le g.count l h

  fronts_alike : all_alike (front g.end) (front g.remaining) (front g.need) (front g.period) (front g.gap) ≡ true
  fronts_alike =
      let e = front_long g.end room.0 in
      rw (
        eq-eqb (length (front g.remaining)) (length (front g.end)) (front_long g.remaining room.1 ∙ sym e),
        eq-eqb (length (front g.need)) (length (front g.end)) (front_long g.need room.2 ∙ sym e),
        eq-eqb (length (front g.period)) (length (front g.end)) (front_long g.period room.3 ∙ sym e),
        eq-eqb (length (front g.gap)) (length (front g.end)) (front_long g.gap room.4 ∙ sym e),
      )

  fronts_lines : gathered (front g.end) (front g.remaining) (front g.need) (front g.period) (front g.gap) ≡ gathered_lines g
  fronts_lines =
      ap (along (gathered_at (front g.end) (front g.remaining) (front g.need) (front g.period) (front g.gap)) 0) (front_long g.end room.0)
      ∙ along_same _ (gathered_at g.end g.remaining g.need g.period g.gap) 0 g.count
      (λ k a b.
      let h : k < g.count = omega arith in
      rw (
        get_or-take g.count g.end k 0 h,
        get_or-take g.count g.remaining k 0 h,
        get_or-take g.count g.need k 0 h,
        get_or-take g.count g.period k 0 h,
        get_or-take g.count g.gap k 0 h,
      ))

  -- what is decided of the first `count` numbers of each array is what is decided of the lines gathered
  pub fronts_decided : (Cn Tn : ℕ)
      → decided_in (front g.end) (front g.remaining) (front g.need) (front g.period) (front g.gap) Cn Tn ≡ decided (gathered_lines g) Cn Tn
  unfolding decided_in
  fronts_decided Cn Tn = rw (fronts_alike, fronts_lines)
