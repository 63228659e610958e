-- Which case of `decided_in` holds, by the tests that the code makes.
use Prim.Native.Nat.{ℕ, ◌≤◌, ◌<◌}
use mathlib.Core.Path.{◌≡◌, refl, ap, sym, ◌∙◌}
use mathlib.Core.Bool.{Bool, true, false}
use mathlib.Core.List.{List, map}
use native.Mathlib.Omega.{arith}
use lib.Dec.{ltb, eqb}
use lib.ListN.{length}
use borrow.Author.Tests.{lt-ltb, eq-eqb, ne_eqb}
use Rattle.line.specs.declared.Stream.{Stream}
use Rattle.line.specs.Slots.{pick, both}
use Rattle.sums.specs.Lines.{lines_of, alike}
use Rattle.sums.specs.Weighed.{number, weighed, weighed_in}
use Rattle.sums.proofs.Along.{along_map}
use Rattle.sums.proofs.Weighing.{none_weighs}
use Rattle.std.specs.Prelude.{Result, Ok, Err}
use Rattle.sums.specs.declared.Ground.{Ground}
use Rattle.sums.specs.declared.Ground.TheVariants as sum
use Rattle.pass.specs.declared.FirstExcess.{FirstExcess}
use Rattle.pass.specs.declared.NoPass.{NoPass}
use Rattle.pass.specs.declared.NoPass.TheVariants as pass
use Rattle.pass.specs.Pass.{pass_of, passed_in}
use Rattle.pass.proofs.Passing.{start_near}
use Rattle.decide.specs.declared.NoStart.{NoStart}
use Rattle.decide.specs.declared.NoStart.TheVariants as no
use Rattle.decide.specs.Lines.{by_period, by_gap, gathered_at, gathered, all_alike}
use Rattle.decide.specs.Decided.{Decision, Start, Refused, Short, said, no_start, refused_by, decided_by, decided, decided_in}

both_not : (a : Bool) → both a false ≡ false
both_not true = refl
both_not false = refl

both_true : {a b : Bool} → a ≡ true → b ≡ true → both a b ≡ true
both_true e f = rw (e, f)

last_other : (a b c d : Bool) → both a (both b c) ≡ true → d ≡ true → both a (both b d) ≡ true
last_other true true c d e f = f
last_other true false c d e f = e
last_other false b c d e f = e

some_number : (a : Bool) (s n : ℕ) (x : Decision) → n ≡ pick a s 4 → 0 < n → Refused n ≡ pick (both a true) (refused_by (ltb 0 s) s x) (Refused 4)
some_number true s n x e h = rw (sym e, lt-ltb 0 n h)
some_number false s n x e h = ap Refused e

a_number : (r : Ground) → 0 < number r
a_number sum.Unfit = omega arith
a_number sum.Misfit = omega arith
a_number sum.Wide = omega arith
a_number sum.Overload = omega arith
a_number sum.Behind = omega arith

said_no_start : (q : NoPass) → said (Err (no_start q)) ≡ decided_by (Err q)
said_no_start (pass.Short x) = refl
said_no_start pass.Unfit = refl

no_number : (a : Bool) (s n : ℕ) → n ≡ pick a s 4 → n ≤ 0 → (a ≡ true) × (s ≡ 0)
no_number true s n e h = (refl, omega arith)
no_number false s n e h = absurd (omega arith)

module _ (e c n p g : List ℕ) (Cn Tn : ℕ) where
  -- there are more gaps than lines, or fewer
  pub decide_apart : (length g ≡ length e → ⊥) → Refused 4 ≡ decided_in e c n p g Cn Tn
  unfolding decided_in
  decide_apart m = rw (ne_eqb (length g) (length e) m, both_not (alike e c n p))

  module _ (same : length g ≡ length e) where
    abbrev sums : ℕ
    sums = weighed (map by_period (gathered e c n p g)) Cn Tn

    weighed_is : {s : ℕ} → s ≡ weighed_in e c n p Cn Tn → s ≡ pick (alike e c n p) sums 4
    weighed_is es =
        es ∙ ap (λ (l : List Stream). pick (alike e c n p) (weighed l Cn Tn) 4) (sym (along_map (gathered_at e c n p g) by_period 0 (length e)))

    -- R24, R26 to R29: the number that the sums refuse with
    pub decide_number : {s : ℕ} → s ≡ weighed_in e c n p Cn Tn → 0 < s → Refused s ≡ decided_in e c n p g Cn Tn
    unfolding decided_in decided
    decide_number {s} es h =
        rw (eq-eqb (length g) (length e) same) (some_number (alike e c n p) sums s _ (weighed_is es) h)

    -- R24, R26 to R29: the sums refuse
    pub decide_weighed : {r : Ground} {x : NoStart} → number r ≡ weighed_in e c n p Cn Tn → x ≡ no.Ground r → said (Err x) ≡ decided_in e c n p g Cn Tn
    decide_weighed {r} {x} es ex = rw ex (decide_number es (a_number r))

    module _ (es : 0 ≡ weighed_in e c n p Cn Tn) where
      none_is : (alike e c n p ≡ true) × (sums ≡ 0)
      none_is = no_number (alike e c n p) sums 0 (weighed_is es) (omega arith)

      alike_all : all_alike e c n p g ≡ true
      alike_all = both_true none_is.0 (eq-eqb (length g) (length e) same)

      alike_gaps : alike e c n g ≡ true
      alike_gaps =
          last_other (eqb (length c) (length e)) (eqb (length n) (length e)) (eqb (length p) (length e)) (eqb (length g) (length e)) none_is.0
          (eq-eqb (length g) (length e) same)

      module _ {x : Result ℕ NoPass} (ex : x ≡ passed_in e c n g Cn Tn) where
        passed_is : x ≡ pass_of (map by_gap (gathered e c n p g)) Cn Tn
        passed_is =
            ex
            ∙ ap (λ (b : Bool). pick b (pass_of (lines_of e c n g) Cn Tn) (Err pass.Unfit)) alike_gaps
            ∙ ap (λ (l : List Stream). pass_of l Cn Tn) (sym (along_map (gathered_at e c n p g) by_gap 0 (length e)))

        past_sums : decided_by x ≡ decided_in e c n p g Cn Tn
        unfolding decided_in decided
        past_sums = rw (alike_all, none_is.1, ← passed_is)

        -- R30, R103: an end is short without the new line, and the first is named
        pub decide_short : {y : FirstExcess} → x ≡ Err (pass.Short y) → Short y ≡ decided_in e c n p g Cn Tn
        decide_short b = rw b at past_sums

        -- R24: the gaps are not fit
        pub decide_unfit : x ≡ Err pass.Unfit → Refused 4 ≡ decided_in e c n p g Cn Tn
        decide_unfit b = rw b at past_sums

      -- R14, R18: no ground holds, and the start is given
      pub decide_starts : {r : ℕ} → Ok r ≡ passed_in e c n g Cn Tn → Start r ≡ decided_in e c n p g Cn Tn
      decide_starts b = past_sums b

      -- R14, R3: a start is not farther than 65,535 ticks
      pub start_within : {r : ℕ} → Ok r ≡ passed_in e c n g Cn Tn → r ≤ 65535
      start_within {r} b =
          let f = none_weighs (map by_period (gathered e c n p g)) Cn Tn none_is.1 in
          start_near (map by_gap (gathered e c n p g)) Cn Tn r (omega arith) (sym (passed_is b))

      -- R30, R103, R24: an end is short without the new line, and the first is named; or the gaps are not fit
      pub decide_not : {q : NoPass} {x : NoStart} → Err q ≡ passed_in e c n g Cn Tn → x ≡ no_start q → said (Err x) ≡ decided_in e c n p g Cn Tn
      decide_not {q} {x} b ex = rw ex (said_no_start q ∙ past_sums b)
