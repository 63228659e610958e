-- The pass in time order: of every line its next end and what falls due there. What one tick of it does with these numbers.
use Rattle.std.specs.Prelude.{ℕ, ◌+◌, ◌≤◌, ◌<◌, ◌≡◌, ◌⊎◌, List, eqb, length, get_or}
use Rattle.line.specs.declared.Stream.{Stream}
use Rattle.line.specs.Slots.{pick}
use Rattle.line.specs.Streams.{stream}
use Rattle.sums.specs.Lines.{along, sum_of, most, longest, Fit}
use Rattle.pass.specs.declared.Due.{Due}

-- the k-th number
abbrev pub nth : List ℕ → ℕ → ℕ
nth l k = get_or l k 0

-- an end, and what falls due there
abbrev pub due_at : (at owed : ℕ) → Due
due_at u a = record { at = u; owed = a }

-- what line k has next
abbrev pub due_of : List Due → ℕ → Due
due_of dues k = get_or dues k (due_at 0 0)

-- R9: its next end
abbrev pub next_of : List Due → ℕ → ℕ
next_of dues k = (due_of dues k).at

-- R10: what falls due of it there
abbrev pub owed_of : List Due → ℕ → ℕ
owed_of dues k = (due_of dues k).owed

-- R9, R10: each line at its first end, with what remains of it
pub record LinedUp (ends remaining : List ℕ) (dues : List Due) : Type 0 where
  pub same : (k : ℕ) → k < length ends → due_of dues k ≡ due_at (nth ends k) (nth remaining k)

-- r is the least of `last` and of the first n ends
pub record Soonest (end : ℕ → ℕ) (n last r : ℕ) : Type 0 where
  pub within : r ≤ last
  pub below : (k : ℕ) → k < n → r ≤ end k
  pub there : (r ≡ last) ⊎ ((k : ℕ) × (k < n) × (end k ≡ r))

-- x where a line that has this next ends at d, else y
abbrev pub if_ends : {A : Type 0} (d : ℕ) (now : Due) (x y : A) → A
if_ends d now x y = pick (eqb now.at d) x y

-- R10: what falls due of line k at d
abbrev pub due_now : (dues : List Due) (d k : ℕ) → ℕ
due_now dues d k = if_ends d (due_of dues k) (owed_of dues k) 0

-- R12: what falls due of the first n lines at d
abbrev pub added_at : (dues : List Due) (n d : ℕ) → ℕ
added_at dues n d = sum_of (due_now dues d) (along (λ k. k) 0 n)

-- R9, R10: what line k has next, once d is past: where it ended at d its next end, and its need there
abbrev pub due_past : (dues : List Due) (needs gaps : List ℕ) (d k : ℕ) → Due
due_past dues needs gaps d k = if_ends d (due_of dues k) (due_at (d + nth gaps k) (nth needs k)) (due_of dues k)

-- R9, R10: the lines that end at d have moved on, and the others are as they were
pub record Moved (dues : List Due) (needs gaps : List ℕ) (d : ℕ) (dues' : List Due) : Type 0 where
  pub moved : (k : ℕ) → k < length gaps → due_of dues' k ≡ due_past dues needs gaps d k

-- room for as many lines as there are gaps, and numbers that fit
pub record Places (dues : List Due) (needs gaps : List ℕ) : Type 0 where
  pub few : length gaps ≤ most
  pub needy : length needs ≡ length gaps
  pub room : length gaps ≤ length dues
  pub small : (k : ℕ) → k < length gaps → owed_of dues k ≤ longest
  pub near : (k : ℕ) → k < length gaps → nth gaps k ≤ longest

-- R9, R10: line k, whose first end and what remains of it are in `dues`
abbrev pub line_from : (dues : List Due) (needs gaps : List ℕ) → ℕ → Stream
line_from dues needs gaps k = stream (next_of dues k) (owed_of dues k) (nth needs k) (nth gaps k)

-- these lines
abbrev pub lines_from : (dues : List Due) (needs gaps : List ℕ) → List Stream
lines_from dues needs gaps = along (line_from dues needs gaps) 0 (length gaps)

-- R24, R25: and each of them fit
abbrev pub FitFrom : (dues : List Due) (needs gaps : List ℕ) → Type 0
FitFrom dues needs gaps = (k : ℕ) → k < length gaps → Fit (line_from dues needs gaps k)
