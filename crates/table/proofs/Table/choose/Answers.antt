use mathlib.Core.Path.{◌≡◌, ◌∙◌}
use borrow.Author.Rules.{rules}
use native.Mathlib.Omega.{arith}
use lib.ListN.{length}
use Rattle.line.proofs.Search.{look_start, look_on, look_stop, look_end}
use Rattle.table.proofs.Choice.{choose_start, choose_take, choose_keep, choose_last, choose_other, key_nowhere}
use Rattle.table.proofs.Table.choose.Goals as goal
use Rattle.table.proofs.Table.choose.Goals.{then-key-least, else-key-least, in-Some, in-None, then-going-least, else-going-least}

pub loop-i-init : goal.loop-i-init
loop-i-init c = (
  choose_start _ _,
  look_start _ _,
  elim c.match-get.branch [
    | in-Some w ↦ rw w.going-is (search rules)
    | in-None w ↦ rw w.going-is (key_nowhere c.args.self.slots c.args.self.last (search rules))
  ],
)

pub returns-then-not-sound : goal.returns-then-not-sound
returns-then-not-sound c =
    look_stop c.loop-i.invariant.1 (omega arith) (search rules)

pub loop-i-preserved : goal.loop-i-preserved
loop-i-preserved c =
    let v = c.loop-i.invariant in
    let ss = c.args.self.slots in
    let o = look_on v.1 (omega arith) (search rules) in
    elim c.if-key-least.branch [
      | then-key-least w ↦ rw (w.least-is, w.best-is) (choose_take ss c.loop-i.i c.loop-i.best c.loop-i.least c.key-key.ensures v.0 w.if-key-least.true, o, v.2)
      | else-key-least w ↦ rw (w.least-is, w.best-is) (choose_keep ss c.loop-i.i c.loop-i.best c.loop-i.least c.key-key.ensures v.0 w.if-key-least.false, o, v.2)
    ]

pub returns : goal.returns
returns c =
    let v = c.loop-i.invariant in
    let ss = c.args.self.slots in
    let z : c.loop-i.i ≡ length ss = omega arith in
    let b = rw z at v.0 in (
      look_end v.1 (omega arith),
      c.then_some.ensures
          ∙ elim c.if-going-least.branch [
            | then-going-least w ↦ rw w.turn-is (choose_last ss c.args.self.last c.loop-i.best c.loop-i.least v.2 b w.if-going-least.true)
            | else-going-least w ↦ rw w.turn-is (choose_other ss c.args.self.last c.loop-i.best c.loop-i.least v.2 b w.if-going-least.false)
          ],
    )
