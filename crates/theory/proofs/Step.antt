-- The computed step on a fine table: it is never refused before clock 2^48, and the table after it is fine again.
use mathlib.Core.Path.{◌≡◌, refl, ap}
use mathlib.Core.Bool.{true, false, not}
use Rattle.std.specs.Prelude.{Option, None, Some}
use mathlib.Core.List.{List}
use Prim.Native.Nat.{ℕ, ◌^◌, ◌≤◌, ◌<◌}
use native.Mathlib.Numerals.{add-one}
use native.Mathlib.Omega.{arith}
use borrow.Author.Tests.{lt-ltb, le-ltb, lt-leb}
use lib.Dec.{ltb}
use lib.ListN.{length}
use Rattle.line.specs.declared.Held.{Held}
use Rattle.line.specs.declared.Stream.{Stream}
use Rattle.line.specs.declared.Slot.{Slot}
use Rattle.table.specs.declared.Table.{Table}
use Rattle.line.specs.Slots.{pick, at, Each, lowest_of}
use Rattle.line.specs.Sound.{Sound, sound}
use Rattle.line.specs.Streams.{asks, of_stream}
use Rattle.table.specs.Counts.{accounted, fault}
use Rattle.table.specs.Step.{Earliest, choose, serve, ticked, advance, step_of}
use Rattle.line.specs.Tick.{short}
use Rattle.line.proofs.Search.{true_false, none_found, lowest_none}
use Rattle.line.proofs.Sound.{says_sound}
use Rattle.table.proofs.Counts.{no_fault}
use Rattle.table.proofs.Choice.{choose_is, chooses_earliest}
use Rattle.theory.specs.Fine.{Fine, Closes, Kept, Lag}
use Rattle.theory.proofs.Numbers.{split}
use Rattle.theory.proofs.Pump.{never_short, fine_kept}
use Rattle.theory.proofs.Lagging.{earliest_busy, lag_kept}

-- R34: a period that is kept does not end short
pub kept_short : (h : Held) → Kept h → short h ≡ false
kept_short h v = go (asks h) v
  where
    go : (o : Option Stream) → of_stream (Unit {0}) Closes o → of_stream false (λ s. pick (ltb 1 s.end) false (ltb 0 s.remaining)) o ≡ false
    go None v = refl
    go (Some s) v =
        split s.end 1
        (λ g. rw (le-ltb 1 s.end g) (le-ltb 0 s.remaining (omega (arith, v g))))
        (λ g. rw (lt-ltb 1 s.end g))

-- R34: and one that does not end short is kept
pub short_kept : (h : Held) → short h ≡ false → Kept h
short_kept h e = go (asks h) e
  where
    go : (o : Option Stream) → of_stream false (λ s. pick (ltb 1 s.end) false (ltb 0 s.remaining)) o ≡ false → of_stream (Unit {0}) Closes o
    go None e = tt
    go (Some s) e = λ g.
        split 1 s.remaining
        (λ b. let z : true ≡ false = rw (le-ltb 1 s.end g, lt-ltb 0 s.remaining b) at e in absurd (true_false refl z))
        (λ b. omega arith)

-- R34: where every period is kept the step finds none that ends short
pub none_short : (l : List Slot) → Each Kept l → lowest_of short l ≡ None
none_short l v = none_found (λ i. short (at l i)) (length l) (λ i b. kept_short (at l i) (v i b))

-- R34: where the step finds none, every period is kept
pub short_none : (l : List Slot) → lowest_of short l ≡ None → Each Kept l
short_none l e i b = short_kept (at l i) (lowest_none (λ n. short (at l n)) (length l) e i b)

-- R24: where every line is sound none is found that is not
pub none_unsound : (l : List Slot) → Each Sound l → lowest_of (λ h. not (sound h)) l ≡ None
none_unsound l a = none_found (λ i. not (sound (at l i))) (length l) (λ i b. ap not (says_sound (at l i) (a i b)))

-- R44: the step's own choice is an earliest end
pub choose_earliest : (t : Table) → Earliest (choose t) t.slots
choose_earliest t = chooses_earliest t.last (choose t) t.slots (choose_is t)

-- a tick in which no line is short
pub advanced : (o : Option ℕ) (t : Table) → Each Kept (serve o t.slots) → advance o t ≡ ticked o t
unfolding advance
advanced o t v = rw (none_short (serve o t.slots) v)

-- R24: nor a fault, where no more ticks are accounted for than have gone by
pub sound_faultless : (t : Table) → Each Sound t.slots → accounted t ≤ t.clock → fault t ≡ None
sound_faultless t s w = no_fault t (none_unsound t.slots s) w

-- R48, R74: the step of a fine table is not refused
pub fine_step : {M : ℕ} (t : Table) → Fine M t.clock t.slots → accounted t ≤ t.clock → t.clock < 2 ^ 48 → step_of t ≡ ticked (choose t) t
unfolding step_of
fine_step t f w b =
    rw (lt-leb (2 ^ 48) t.clock b, sound_faultless t f.sound w)
    (advanced (choose t) t (never_short (choose t) f (choose_earliest t)))

-- R74: and the table after it is fine
pub fine_stepped : {M : ℕ} (t : Table) → Fine M t.clock t.slots → accounted t ≤ t.clock → t.clock < 2 ^ 48 → Fine M (step_of t).table.clock (step_of t).table.slots
fine_stepped {M} t f w b =
    rw (fine_step t f w b, add-one) (fine_kept (choose t) f (choose_earliest t))

-- R29, R48: a step of a fine table leaves nobody further behind
pub lag_stepped : {M : ℕ} (t : Table) → Fine M t.clock t.slots → accounted t ≤ t.clock → Lag M t.slots → t.clock < 2 ^ 48 → Lag M (step_of t).table.slots
lag_stepped {M} t f w g b =
    let o = choose t in
    let e = choose_earliest t in
    rw (fine_step t f w b) (lag_kept o f.sound f.shares (earliest_busy o t.slots e) (never_short o f e) g)
