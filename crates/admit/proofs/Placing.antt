-- The table that an admission leaves, by the slot that the search named.
use Rattle.std.specs.Prelude.{Ok, Err, None, Some, Option}
use Rattle.table.specs.Words.{Said}
use Prim.Native.Nat.{ℕ, ◌-◌, ◌<◌}
use mathlib.Core.Path.{◌≡◌, refl, ap, sym, ◌∙◌}
use native.Mathlib.Omega.{arith}
use lib.ListN.{set, length}
use Rattle.line.specs.declared.Held.{Held}
use Rattle.line.specs.declared.Slot.{Slot}
use Rattle.table.specs.declared.Table.{Table}
use Rattle.table.specs.declared.Request.{Request}
use Rattle.table.specs.declared.Refusal.{Refusal}
use Rattle.table.specs.declared.Acted.{Acted}
use Rattle.line.proofs.Search.{lowest_below}
use Rattle.line.specs.Slots.{at, holding, is_nothing, lowest_of}
use Rattle.table.specs.Words.{with_lines, with_slots}
use Rattle.table.specs.Grounds.{asked}
use Rattle.table.specs.Admit.{new_line, admitted_at, admit_with}

module _ (t : Table) (q : Request) (r : ℕ) {next : Table} (e : next ≡ with_slots t (asked t q)) where
  -- with no empty slot there is no place
  pub put_nowhere : lowest_of is_nothing t.slots ≡ None → next ≡ admitted_at t q r
  put_nowhere g = rw g e

  -- R43: the new line in the slot that was found
  pub put_at_lem : {k : ℕ} {new : Held} {s : Slot} {full : Table} → lowest_of is_nothing t.slots ≡ Some k → new ≡ new_line q.need q.period (r - t.clock)
      → s ≡ holding new → full ≡ with_lines next (set next.slots k s) (set next.had k 0) → full ≡ admitted_at t q r
  put_at_lem {k} {new} {s} g h i f =
      rw g
      (f
      ∙ ap (λ (x : Table). with_lines x (set x.slots k s) (set x.had k 0)) e
      ∙ ap (λ (x : Slot). with_lines t (set (asked t q) k x) (set t.had k 0)) (i ∙ ap holding h)
      )

-- R43: a slot that was found is one of the sixteen
pub found_inside : (t : Table) {w : Option ℕ} {k : ℕ} → length t.slots ≡ 16 → w ≡ lowest_of is_nothing t.slots → w ≡ Some k → k < 16
found_inside t n e g = let b = lowest_below (λ i. is_nothing (at t.slots i)) (length t.slots) (sym e ∙ g) in omega arith

-- R42: ask's answer, and the table that belongs to it
pub admit_says : (t : Table) (q : Request) {a : Said ℕ} {u : Table} → u ≡ (admit_with t q a).table → ◌≡◌ {A = Acted ℕ} (record { table = u; answer = a }) (admit_with t q a)
admit_says t q {a} h = ap (λ (x : Table). let y : Acted ℕ = record { table = x; answer = a } in y) h ∙ go a
  where
    go : (b : Said ℕ) → ◌≡◌ {A = Acted ℕ} (record { table = (admit_with t q b).table; answer = b }) (admit_with t q b)
    go (Ok r) = refl
    go (Err x) = refl

module _ (t : Table) (q : Request) {a : Said ℕ} where
  -- R42: with a start, the table with the new line in it
  pub admit_start : {r : ℕ} {u : Table} → a ≡ Ok r → u ≡ admitted_at t q r → ◌≡◌ {A = Acted ℕ} (record { table = u; answer = Ok r }) (admit_with t q a)
  admit_start {r} g h =
      ap (λ (x : Table). let y : Acted ℕ = record { table = x; answer = Ok r } in y) h ∙ ap (admit_with t q) (sym g)

  -- R17, R42: with a refusal, the table as it was
  pub admit_refused : {x : Refusal} → a ≡ Err x → ◌≡◌ {A = Acted ℕ} (record { table = t; answer = Err x }) (admit_with t q a)
  admit_refused g = ap (admit_with t q) (sym g)
