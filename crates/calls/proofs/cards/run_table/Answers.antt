use Rattle.std.specs.Prelude.{Err}
use Rattle.std.proofs.Common.{rules}
use mathlib.Core.Path.{◌≡◌, ◌∙◌}
use native.Mathlib.Omega.{arith}
use Rattle.calls.specs.Cards.{counted}
use Rattle.calls.proofs.Run.{run_on, run_stop, run_end, counted_is, counted_small}
use Rattle.calls.proofs.cards.run_table.Goals as goal

pub returns-in_err-s : goal.returns-in_err-s
returns-in_err-s c =
    let e : c.from_residual.result ≡ Err c.in_err-s.field-0.0 = search rules in
    e ∙ run_stop c.args.ticks c.loop.counter c.loop.ran c.loop.t c.loop-test.true c.driven-s.ensures _ c.in_err-s.was ∙ c.loop.invariant.1

pub loop-preserved : goal.loop-preserved
loop-preserved c =
    let k : c.from.result ≡ counted c.in_ok-s.field-0 = counted_is _ c.is_some.ensures c.from.ensures in (
      omega (arith, c.loop.invariant.0, k, counted_small c.in_ok-s.field-0),
      run_on c.args.ticks c.loop.counter c.loop.ran c.loop.t c.loop-test.true c.driven-s.ensures _ c.in_ok-s.was _ k ∙ c.loop.invariant.1,
    )

pub returns : goal.returns
returns c = run_end c.args.ticks c.loop.counter c.loop.ran c.loop.t c.loop-test.false ∙ c.loop.invariant.1
