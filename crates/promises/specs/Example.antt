-- The run that comes to case A from the empty table: two lines are admitted at once, and eight ticks pass.
use Rattle.std.specs.Prelude.{List, ◌∷◌, replicate}
use Rattle.table.specs.declared.Request.{Request}
use Rattle.table.specs.Words.{request_with}
use Rattle.table.specs.Runs.{Act, admitting, stepping}

-- the request that admits slot 0 of case A
abbrev pub first_line : Request
first_line = request_with (replicate 16 0) 8 16

-- the request that admits slot 1 of case A
abbrev pub second_line : Request
second_line = request_with (16 ∷ replicate 15 0) 8 16

-- the run that comes to the table of case A
abbrev pub to_case_a : List Act
to_case_a = admitting first_line ∷ admitting second_line ∷ replicate 8 stepping

-- nine ticks more: to 17, one period of the new line after its start at 13
abbrev pub on_from_case_a : List Act
on_from_case_a = replicate 9 stepping
