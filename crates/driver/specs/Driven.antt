-- The pump driver (R51): what it holds after a step of the table that it held.
use Rattle.std.specs.Prelude.{is_ok}
use Rattle.table.specs.declared.Table.{Table}
use Rattle.line.specs.Slots.{pick}
use Rattle.table.specs.Step.{step_of}

-- R48, R51: the new table, or the old one where the step was refused
abbrev pub driven_of : Table → Table
driven_of t = pick (is_ok (step_of t).answer) (step_of t).table t
