-- Which case of `ask_of` holds, by the tests 1 to 6 that the code makes, and what they leave of the table and the request.
use Rattle.std.specs.Prelude.{None, Some, Ok, Err, Option, is_some, is_none}
use Rattle.table.specs.Words.{Said}
use Prim.Native.Nat.{ℕ, ◌-◌, ◌^◌, ◌≤◌, ◌<◌}
use mathlib.Core.Path.{◌≡◌, refl, sym, ◌∙◌}
use mathlib.Core.Bool.{Bool, true, false, not}
use lib.Dec.{leb}
use lib.ListN.{length}
use borrow.Author.Tests.{lt-ltb, le-ltb, not-false}
use Rattle.table.specs.declared.Table.{Table}
use Rattle.table.specs.declared.Request.{Request}
use Rattle.table.specs.declared.Refusal.{Refusal}
use Rattle.line.specs.Slots.{at, both, lowest, lowest_of, is_nothing, is_waiting}
use Rattle.table.specs.Words.{refusal}
use Rattle.table.specs.Counts.{fault}
use Rattle.table.proofs.Counts.{faultless}
use Rattle.line.specs.Sound.{sound}
use Rattle.table.specs.Grounds.{entry}
use Rattle.line.specs.Stretch.{barred}
use Rattle.table.specs.Ask.{refused_at, ask_of}
use Rattle.line.proofs.Search.{lowest_none}
use Rattle.ask.specs.Asked.{Within}
use Rattle.ask.specs.Gathered.{AllAllowed, past_five, unless_found}

abbrev pub bars : Table → Request → ℕ → Bool
bars t q i = barred (entry q i) (at t.slots i)

-- ---- each way out

-- a refusal is near any clock
pub refused_within : (clock : ℕ) {r : Said ℕ} {x : Refusal} → r ≡ Err x → Within clock r
refused_within clock e = rw e tt

-- one test that is passed finds no slot
pub found_none : (o : Option ℕ) (n : ℕ) {u : Unit {0}} → Ok u ≡ unless_found o n → o ≡ None
found_none None n e = refl
found_none (Some k) n e = cc

-- one test that is not passed is the answer
found_some : (o : Option ℕ) (n : ℕ) {x : Refusal} (a : Said ℕ) → Err x ≡ unless_found o n → Err x ≡ refused_at o n a
found_some None n a e = cc
found_some (Some k) n a e = cc

-- what std says of a search that found nothing
none_said : (w : Option ℕ) (b : Bool) → is_some w ≡ not b → b ≡ is_none w
none_said None true e = refl
none_said None false e = e
none_said (Some k) true e = e
none_said (Some k) false e = refl

module _ (t : Table) (q : Request) where
  -- R21: the clock is too late
  pub ask_late : 2 ^ 48 - 65536 < t.clock → Err (refusal 1 0) ≡ ask_of t q
  unfolding ask_of
  ask_late h = rw (lt-ltb (2 ^ 48 - 65536) t.clock h)

  module _ (h : t.clock ≤ 2 ^ 48 - 65536) {w : Option ℕ} (e2 : w ≡ lowest_of is_nothing t.slots) {b : Bool} (f2 : is_some w ≡ not b) where
    -- R22: no slot is free
    pub ask_full : b ≡ true → Err (refusal 2 0) ≡ ask_of t q
    unfolding ask_of
    ask_full g = rw (le-ltb (2 ^ 48 - 65536) t.clock h, ← e2, ← none_said w b f2, g)

    module _ (g2 : b ≡ false) {v : Option ℕ} (e3 : v ≡ lowest_of is_waiting t.slots) where
      -- R23: a line waits
      pub ask_waits : {x : Refusal} → Err x ≡ unless_found v 3 → Err x ≡ ask_of t q
      unfolding ask_of
      ask_waits e = rw (le-ltb (2 ^ 48 - 65536) t.clock h, ← e2, ← none_said w b f2, g2, ← e3) (found_some v 3 _ e)

      module _ {u3 : Unit {0}} (g3 : Ok u3 ≡ unless_found v 3) {u : Option ℕ} (e4 : u ≡ fault t) where
        -- R24: a line is unsound, or the counts are too many
        pub ask_unsound : {x : Refusal} → Err x ≡ unless_found u 4 → Err x ≡ ask_of t q
        unfolding ask_of
        ask_unsound e = rw (le-ltb (2 ^ 48 - 65536) t.clock h, ← e2, ← none_said w b f2, g2, ← e3, found_none v 3 g3, ← e4) (found_some u 4 _ e)

        module _ {u4 : Unit {0}} (g4 : Ok u4 ≡ unless_found u 4) {s : Option ℕ} (e5 : s ≡ lowest (bars t q) (length t.slots)) where
          -- R25: a line may not have its T'
          pub ask_barred : {x : Refusal} → Err x ≡ unless_found s 5 → Err x ≡ ask_of t q
          unfolding ask_of
          ask_barred e =
              rw (le-ltb (2 ^ 48 - 65536) t.clock h, ← e2, ← none_said w b f2, g2, ← e3, found_none v 3 g3, ← e4, found_none u 4 g4, ← e5) (found_some s 5 _ e)

          module _ {u5 : Unit {0}} (g5 : Ok u5 ≡ unless_found s 5) where
            -- R26: the new line does not fit its period
            pub ask_misfit : {f : Bool} → f ≡ both (leb 1 q.need) (leb q.need q.period) → f ≡ false → Err (refusal 6 0) ≡ ask_of t q
            unfolding ask_of
            ask_misfit e6 g6 =
                rw (
                  le-ltb (2 ^ 48 - 65536) t.clock h,
                  ← e2,
                  ← none_said w b f2,
                  g2,
                  ← e3,
                  found_none v 3 g3,
                  ← e4,
                  found_none u 4 g4,
                  ← e5,
                  found_none s 5 g5,
                  ← e6,
                  g6,
                )

            -- R18: past the first five grounds
            pub ask_past : {r : Said ℕ} → r ≡ past_five t q → r ≡ ask_of t q
            unfolding ask_of past_five
            ask_past a =
                rw (
                  le-ltb (2 ^ 48 - 65536) t.clock h,
                  ← e2,
                  ← none_said w b f2,
                  g2,
                  ← e3,
                  found_none v 3 g3,
                  ← e4,
                  found_none u 4 g4,
                  ← e5,
                  found_none s 5 g5,
                ) a

-- R23 to R25: what is known past the first five grounds
pub allowed_all : (t : Table) (q : Request) {w v u : Option ℕ} → w ≡ lowest_of is_waiting t.slots → w ≡ None → v ≡ fault t → v ≡ None
    → u ≡ lowest (bars t q) (length t.slots) → u ≡ None → AllAllowed t q
allowed_all t q e3 g3 e4 g4 e5 g5 i h = (
  lowest_none (λ k. is_waiting (at t.slots k)) (length t.slots) (sym e3 ∙ g3) i h,
  not-false _ (lowest_none (λ k. not (sound (at t.slots k))) (length t.slots) (faultless t (sym e4 ∙ g4)).0 i h),
  lowest_none (bars t q) (length t.slots) (sym e5 ∙ g5) i h,
)
