-- Refusal 10 names the first short end, and a pump that goes on from the table misses a period by then: with its own periods more is wanted, not less.
use Rattle.std.specs.Prelude.{Err}
use mathlib.Core.Path.{◌≡◌, sym, ap, subst, ◌∙◌}
use Prim.Native.Nat.{ℕ, ◌+◌, ◌-◌, ◌≤◌, ◌<◌}
use native.Mathlib.Omega.{arith}
use lib.ListN.{length}
use Rattle.line.specs.Demand.{demands, ticks_short}
use Rattle.line.specs.Ends.{excess_at}
use Rattle.line.proofs.Excess.{within_excess}
use Rattle.line.proofs.Stretched.{length_stretched}
use Rattle.table.specs.declared.Table.{Table}
use Rattle.table.specs.declared.Request.{Request}
use Rattle.table.specs.declared.Refusal.{Refusal}
use Rattle.table.specs.Words.{short_refusal}
use Rattle.table.specs.Grounds.{entry, asked, Short}
use Rattle.theory.specs.Given.{Cleared}
use Rattle.theory.proofs.Stretched.{demands_longer}
use Rattle.theory.proofs.Ten.{FirstShort}
use Rattle.theory.proofs.Answers.{first_is}
use Rattle.theory.proofs.Granted.{told_ten}
use Rattle.theory.proofs.Unique.{answers_is}
use Rattle.promises.specs.Demand3.{Sixteen}
use Rattle.promises.specs.Late.{Tells, TenTells}
use Rattle.promises.proofs.Early.{runs_short, last_near}

module _ (t : Table) (q : Request) (d : ℕ) (six : Sixteen q) (c : Cleared t q) (f : FirstShort t.clock (asked t q) d) where
  tells : Tells t q d
  tells =
      let w = f.an_end in
      let b : w.0 < length t.slots = rw (← length_stretched t.slots (entry q)) w.1 in
      let z : t.clock + (d - t.clock) ≡ d = omega (arith, f.short.from_clock) in
      record {
        slot = w.0;
        inside = b;
        runs = c.none_waits w.0 b;
        an_end = w.2;
        before_last = f.before_last;
        none_before = λ u h l. within_excess (demands t.clock (asked t q) u) (u - t.clock) (f.none_before u h l);
        -- R104, R77: with its own periods the table wants no less by d, so it has excess there, and cannot run away from it
        ends_short =
            runs_short (d - t.clock) _ t c.sound c.within (omega arith) (omega (arith, last_near t q six c.none_waits, c.early, f.before_last))
            (rw z (omega (arith, f.short.above, demands_longer t.clock t.slots (entry q) d c.sound c.unbarred)));
      }

-- R103, R104: refusal 10 names the first short tick and its excess, and what the tick tells
pub ten_tells : TenTells
ten_tells t q x six a ten =
    let w = told_ten t q x (sym (answers_is t q (Err x) a)) ten in
    let d = w.1.0 in
    let e : x ≡ short_refusal d (ticks_short (excess_at t.clock (asked t q) d)) = w.1.2 in
    let short = first_is t q d w.1.1 in
    let told = tells t q d six w.0 w.1.1 in (
      e ∙ ap (λ (y : Refusal). short_refusal y.tick y.excess) (sym e),
      subst (λ (y : Refusal). Short t q y.tick y.excess) (sym e) short,
      subst (λ (y : Refusal). Tells t q y.tick) (sym e) told,
    )

-- R104: by that tick at the latest: the period that ends short ends there or before
pub short_by_lem : (t : Table) (q : Request) (d : ℕ) (w : Tells t q d) → t.clock + w.ends_short.steps + 1 ≤ d
short_by_lem t q d w = omega (arith, w.ends_short.before)
