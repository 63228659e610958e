-- What a refused act leaves, R17: the table as it was, whatever is asked for.
use Rattle.std.specs.Prelude.{Option, None, Some, Ok, Err}
use Prim.Native.Nat.{ℕ}
use mathlib.Core.Path.{◌≡◌, refl}
use mathlib.Core.Bool.{Bool, true, false}
use Rattle.line.specs.Slots.{pick}
use Rattle.table.specs.declared.Table.{Table}
use Rattle.table.specs.declared.Refusal.{Refusal}
use Rattle.table.specs.declared.Acted.{Acted}
use Rattle.table.specs.Words.{refused_act, act_unless}

module _ {A : Type 0} (t : Table) (x : Refusal) where
  -- R17: an act that is refused by x keeps the table
  abbrev pub Keeps : Acted A → Type 0
  Keeps r = r.answer ≡ Err x → r.table ≡ t

  pub keeps_granted : (a : A) (r : Acted A) → r.answer ≡ Ok a → Keeps r
  keeps_granted a r e f = cc

  pub keeps_refused : (n k : ℕ) → Keeps (refused_act t n k)
  keeps_refused n k e = refl

  pub keeps_either : (b : Bool) (r s : Acted A) → Keeps r → Keeps s → Keeps (pick b r s)
  keeps_either true r s v w = v
  keeps_either false r s v w = w

  pub keeps_unless : (o : Option ℕ) (n : ℕ) (r : Acted A) → Keeps r → Keeps (act_unless o n t r)
  keeps_unless None n r v = v
  keeps_unless (Some k) n r v = keeps_refused n k
