-- `fits` meets its contract: the test goes through the lines that the four slices make together.
use Rattle.std.proofs.Common.{rules, tests}
use Rattle.std.proofs.lemmas.Iterator.Search.{all_from_yields_List}
use Rattle.sums.specs.Weighed.{is_fit}
use Rattle.sums.proofs.Zipped.{line_of_four, yields_four}
use Rattle.sums.proofs.Weighing.{fit_apart, fit_many, fit_each}
use Rattle.sums.proofs.Lines.fits.Goals as goal
use Rattle.sums.proofs.Lines.fits.Goals.{then-same_length, else-same_length}

pub returns-then-self-le-MOST : goal.returns-then-self-le-MOST
returns-then-self-le-MOST c =
    let l = c.args.self in
    let h = all_from_yields_List (λ q. is_fit (line_of_four q)) c.all.new.self _ c.all.result c.all.ensures.ran (yields_four l.ends.now l.remaining.now l.needs.now l.spans.now (cc) (cc) (cc) (cc)) (λ x b q k. search (rules, tests)) in
    elim c.if-same_length.branch [
      | then-same_length w ↦ search fit_each
      | else-same_length w ↦ cc
    ]

pub returns-else-self-le-MOST : goal.returns-else-self-le-MOST
returns-else-self-le-MOST c =
    elim c.if-same_length.branch [
      | then-same_length w ↦ search fit_many
      | else-same_length w ↦ search fit_apart
    ]
