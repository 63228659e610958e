-- Lines gathered as slices of numbers, counted from the clock: line k has the k-th number of each slice. As a list, and what is known of those that are fit.
use Rattle.std.specs.Prelude.{ℕ, zero, suc, ◌+◌, ◌≤◌, ◌<◌, ◌≡◌, Bool, true, List, [], ◌∷◌, eqb, length, get_or}
use Rattle.line.specs.declared.Stream.{Stream}
use Rattle.line.specs.Slots.{both}
use Rattle.line.specs.Streams.{stream}

-- f at i, i + 1, …: n of them
unfoldable pub along : {A : Type 0} → (ℕ → A) → (i n : ℕ) → List A
along f i zero = []
along f i (suc n) = f i ∷ along f (suc i) n

-- f added up over a list
unfoldable pub sum_of : {A : Type 0} → (A → ℕ) → List A → ℕ
sum_of f [] = 0
sum_of f (x ∷ l) = f x + sum_of f l

-- the test holds of each
unfoldable pub all_of : {A : Type 0} → (A → Bool) → List A → Bool
all_of test [] = true
all_of test (x ∷ l) = both (test x) (all_of test l)

-- R9: line k of four slices: its first end, what remains of its need, its need, and the ticks from one end to the next
abbrev pub line_at : (e c n p : List ℕ) → ℕ → Stream
line_at e c n p k = stream (get_or e k 0) (get_or c k 0) (get_or n k 0) (get_or p k 0)

-- the lines of four slices, as many as there are ends
abbrev pub lines_of : (e c n p : List ℕ) → List Stream
lines_of e c n p = along (line_at e c n p) 0 (length e)

-- four slices have the same length
abbrev pub alike : (e c n p : List ℕ) → Bool
alike e c n p = both (eqb (length c) (length e)) (both (eqb (length n) (length e)) (eqb (length p) (length e)))

-- the most lines that are weighed
abbrev pub most : ℕ
most = 16

-- R3: the longest time from one end to the next, above every period
abbrev pub longest : ℕ
longest = 65536

-- R24, R25, R3: what is known of a line that is fit
pub record Fit (x : Stream) : Type 0 where
  pub some : 1 ≤ x.period
  pub ends : x.end ≤ x.period
  pub less : x.need ≤ x.period
  pub rest : x.remaining ≤ x.need
  pub wide : x.period ≤ longest

-- slices of one length, not too many lines, each of them fit
pub record Packed (e c n p : List ℕ) : Type 0 where
  pub same_c : length c ≡ length e
  pub same_n : length n ≡ length e
  pub same_p : length p ≡ length e
  pub few : length e ≤ most
  pub each : (k : ℕ) → k < length e → Fit (line_at e c n p k)
