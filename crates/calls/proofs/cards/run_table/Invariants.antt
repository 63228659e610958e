-- `run_table` meets its contract: what was counted, and what the ticks that are left say, make what all ticks say.
use Rattle.std.proofs.Common.{◌≡◌, ◌-◌, ◌≤◌}
use Rattle.calls.specs.Cards.{more, ticks_run}
use Rattle.calls.proofs.cards.run_table.Given as goal

abbrev pub invariant-loop : goal.invariant-loop
invariant-loop l = (l.ran ≤ l.counter) × (more l.ran (ticks_run (l.fn.ticks - l.counter) l.t) ≡ ticks_run l.fn.ticks l.fn.start)
