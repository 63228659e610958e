-- What is decided of the lines gathered, R26 to R30 and R14, and how far a start may be.
use Rattle.std.specs.Prelude.{ℕ, ◌≤◌, Bool, true, false, List, map, ltb, Result, Ok, Err}
use Rattle.line.specs.Slots.{pick}
use Rattle.sums.specs.declared.Ground.TheVariants as sum
use Rattle.sums.specs.Weighed.{number, weighed}
use Rattle.pass.specs.declared.FirstExcess.{FirstExcess}
use Rattle.pass.specs.declared.NoPass.{NoPass}
use Rattle.pass.specs.declared.NoPass.TheVariants as pass
use Rattle.pass.specs.Pass.{pass_of}
use Rattle.decide.specs.declared.NoStart.{NoStart}
use Rattle.decide.specs.declared.NoStart.TheVariants as no
use Rattle.decide.specs.Lines.{Line, by_period, by_gap, gathered, all_alike}

-- R14, R17: the start, counted from the clock, or the number of the ground; R103: of ground 10 the first tick that is short, and its excess
pub data Decision : Type 0 where
  Start : ℕ → Decision
  Refused : ℕ → Decision
  Short : FirstExcess → Decision

-- R17: what the code's answer says
abbrev pub said : Result ℕ NoStart → Decision
said (Ok r) = Start r
said (Err (no.Ground g)) = Refused (number g)
said (Err (no.Short x)) = Short x

-- R30, R24: why the pass gives no start
abbrev pub no_start : NoPass → NoStart
no_start (pass.Short x) = no.Short x
no_start pass.Unfit = no.Ground sum.Unfit

-- one test: refusal n, or else what comes after
abbrev pub refused_by : Bool → ℕ → Decision → Decision
refused_by true n d = Refused n
refused_by false n d = d

-- R30, R103, R14, R24: what the pass says: the start, the first short tick, or that the lines are not fit
abbrev pub decided_by : Result ℕ NoPass → Decision
decided_by (Ok r) = Start r
decided_by (Err (pass.Short x)) = Short x
decided_by (Err pass.Unfit) = Refused 4

-- R18, R24, R26 to R30, R14: what the sums and the pass say of the lines
unfoldable pub decided : List Line → (Cn Tn : ℕ) → Decision
decided l Cn Tn =
    refused_by (ltb 0 (weighed (map by_period l) Cn Tn)) (weighed (map by_period l) Cn Tn)
    (decided_by (pass_of (map by_gap l) Cn Tn))

-- R24: the same of slices: 4 where they differ in length
unfoldable pub decided_in : (e c n p g : List ℕ) → (Cn Tn : ℕ) → Decision
decided_in e c n p g Cn Tn = pick (all_alike e c n p g) (decided (gathered e c n p g) Cn Tn) (Refused 4)

-- R3, R14: a start is at most 65,535 ticks after the clock, before the last end
abbrev pub Near : Decision → Type 0
Near (Start d) = d ≤ 65535
Near (Refused n) = Unit {0}
Near (Short x) = Unit {0}
