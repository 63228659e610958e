use Prim.Native.Nat.{ℕ, ◌≤◌}
use mathlib.Core.Path.{refl}
use native.Mathlib.Omega.{arith}
use mir.Val.{Fits}
use mir.Syntax.{w16}
use borrow.Author.Rules.{rules}
use Rattle.table.specs.Grounds.{entry}
use Rattle.ask.proofs.Packing.{gather_start, gather_skip, gather_push, gather_room, gather_end}
use Rattle.ask.proofs.gather.gather.Goals as goal
use Rattle.ask.proofs.gather.gather.Goals.{then-not-is_empty, else-not-is_empty}

narrow : {n : ℕ} → Fits w16 n → n ≤ 65535
narrow f = omega (arith, f.fits)

pub loop-i-init : goal.loop-i-init
loop-i-init c =
    let wide : (k : ℕ) → entry c.args.q k ≤ 65535 = λ k. narrow (search rules) in
    gather_start _ _ _ c.well_formed.0.1.1.1.0.1.0.1 refl (refl, refl, refl, refl, refl) wide

pub loop-i-preserved : goal.loop-i-preserved
loop-i-preserved c =
    let v = c.loop-i.invariant in
    let h = c.loop-i-test.true in
    let t = c.is_empty.ensures in
    elim c.if-not-is_empty.branch [
      | then-not-is_empty w ↦ rw (w.g-is, w.push.ensures) (gather_push v _ h t w.if-not-is_empty.true w.stretched.ensures w.asks.ensures)
      | else-not-is_empty w ↦ rw w.g-is (gather_skip v _ h t w.if-not-is_empty.false)
    ]

pub returns : goal.returns
returns c = let v = c.loop-i.invariant in record { few = omega (arith, v.few, v.upto); room = gather_room v; same = gather_end v c.loop-i-test.false; wide = v.wide }
