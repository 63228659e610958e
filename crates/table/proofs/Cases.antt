-- R67: cases A to M, by computation.
use mathlib.Core.Path.{◌≡◌, refl}
use mathlib.Core.List.{map}
use Rattle.periods.specs.Multiples.{euclid, gcd_of, lcm_of, frame_from}
use Rattle.line.specs.Slots.{total, map_at, lowest}
use Rattle.line.specs.Streams.{due, every, ends_before}
use Rattle.line.specs.Demand.{last_end}
use Rattle.line.specs.Shares.{periods_in}
use Rattle.table.specs.Ask.{ask_in, ask_of}
use Rattle.line.specs.Ends.{ends_of, slack, bound, greatest, soonest_of, first_short, start}
use Rattle.table.specs.Cases.{Case, cases}

-- R67, R9 to R16: ask's computed answer in every case
pub all_cases : map (λ (c : Case). ask_of c.table c.request) cases ≡ map (λ (c : Case). c.answer) cases
unfolding euclid gcd_of lcm_of frame_from total lowest due last_end map_at periods_in every ends_before ends_of slack bound greatest soonest_of first_short start ask_in ask_of cases
all_cases = refl
