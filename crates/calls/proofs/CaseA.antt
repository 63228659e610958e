-- Case A (R67) over the boundary, by computation: its answer line, and 26 ticks of the pump.
use Rattle.std.specs.Prelude.{Ok}
use Rattle.table.specs.Words.{Said}
use mathlib.Core.Path.{◌≡◌, refl, ap, ◌∙◌}
use mathlib.Core.List.{List, [], ◌∷◌}
use Prim.Native.Nat.{ℕ}
use Rattle.periods.specs.Multiples.{euclid, gcd_of, lcm_of, frame_from}
use Rattle.line.specs.Slots.{total, lowest, map_at}
use Rattle.line.specs.Streams.{due, every, ends_before}
use Rattle.line.specs.Demand.{last_end}
use Rattle.line.specs.Shares.{periods_in}
use Rattle.table.specs.Ask.{ask_in, ask_of}
use Rattle.line.specs.Ends.{ends_of, slack, bound, greatest, soonest_of, first_short, start}
use Rattle.table.specs.Admit.{admit_of}
use Rattle.table.specs.Counts.{settling}
use Rattle.table.specs.Step.{chosen, advance, step_of}
use Rattle.table.specs.Cases.{case_a}
use Rattle.card.specs.Card.{card_of, carrying}
use Rattle.card.specs.Reading.{read_of}
use Rattle.card.proofs.CaseA.{case_a_written, case_a_read}
use Rattle.reply.specs.Line.{answer_line}
use Rattle.reply.proofs.Line.{line_of_case_a}
use Rattle.calls.specs.Results.{granted_as, result_of}
use Rattle.calls.specs.Cards.{answer_for, line_for, ticks_run, run_admitted, run_for, run_of}

-- R67: case A's card
abbrev pub card_a : List ℕ
card_a = card_of case_a.table case_a.request

reads_a : read_of card_a ≡ Ok (carrying case_a.table case_a.request)
reads_a = ap read_of case_a_written ∙ case_a_read

asks_a : ask_of case_a.table case_a.request ≡ Ok 13
unfolding euclid gcd_of lcm_of frame_from total lowest due last_end map_at periods_in every ends_before ends_of slack bound greatest soonest_of first_short start ask_in ask_of
asks_a = refl

-- R60, R61: the eleven bytes of case A's line
pub line_a : line_for card_a ≡ 114 ∷ 101 ∷ 108 ∷ 101 ∷ 97 ∷ 115 ∷ 101 ∷ 32 ∷ 49 ∷ 51 ∷ 10 ∷ []
line_a = ap (λ (a : Said ℕ). answer_line a) (ap answer_for reads_a ∙ asks_a) ∙ line_of_case_a

runs_a : run_admitted 26 (admit_of case_a.table case_a.request) ≡ Ok 23
unfolding euclid gcd_of lcm_of frame_from total lowest due last_end map_at periods_in every ends_before ends_of slack bound greatest soonest_of first_short start ask_in ask_of chosen settling advance step_of ticks_run
runs_a = refl

-- R66: three of the 26 ticks run no line
pub run_a : result_of (run_of card_a 26) ≡ granted_as 0 23
run_a = ap result_of (ap (run_for 26) reads_a ∙ runs_a)
