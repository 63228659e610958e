-- R20: each refusal is met, by computation.
use Rattle.std.specs.Prelude.{Err}
use mathlib.Core.Path.{◌≡◌, refl}
use mathlib.Core.List.{map}
use Rattle.periods.specs.Multiples.{euclid, gcd_of, lcm_of, frame_from}
use Rattle.line.specs.Slots.{total, map_at, lowest}
use Rattle.line.specs.Streams.{due, every, ends_before}
use Rattle.line.specs.Demand.{last_end}
use Rattle.line.specs.Shares.{periods_in}
use Rattle.table.specs.Ask.{ask_in, ask_of}
use Rattle.line.specs.Ends.{ends_of, slack, bound, greatest, soonest_of, first_short, start}
use Rattle.table.specs.Counts.{settling}
use Rattle.table.specs.Step.{chosen, advance, step_of}
use Rattle.table.specs.Leave.{leave_of}
use Rattle.table.specs.Cases.{Case}
use Rattle.card.specs.Bytes.{marked}
use Rattle.card.specs.Card.{card_of}
use Rattle.card.specs.Reading.{record_of, records_of, read_with, read_of}
use Rattle.card.specs.Answers.{length_of, write_of}
use Rattle.promises.specs.Witnesses.{ask_meets, Meets, step_meets, NoLeave, leave_meets, BrokenCard, read_meets, ShortBuffer, write_meets}

-- R20, R21 to R30
pub ask_meets_lem : map (λ (c : Case). ask_of c.table c.request) ask_meets ≡ map (λ (c : Case). c.answer) ask_meets
unfolding euclid gcd_of lcm_of frame_from total lowest due last_end map_at periods_in every ends_before ends_of slack bound greatest soonest_of first_short start ask_in ask_of ask_meets
ask_meets_lem = refl

-- R20, R24, R34, R35
pub step_meets_lem : map (λ (m : Meets). (step_of m.table).answer) step_meets ≡ map (λ (m : Meets). Err m.refused) step_meets
unfolding lowest chosen settling advance step_of step_meets
step_meets_lem = refl

-- R20, R24, R36
pub leave_meets_lem : map (λ (m : NoLeave). (leave_of m.table m.number).answer) leave_meets ≡ map (λ (m : NoLeave). Err m.refused) leave_meets
unfolding lowest leave_of leave_meets
leave_meets_lem = refl

-- R20, R31
pub read_meets_lem : map (λ (c : BrokenCard). read_of c.bytes) read_meets ≡ map (λ (c : BrokenCard). Err c.refused) read_meets
unfolding card_of marked record_of records_of read_with read_meets
read_meets_lem = refl

-- R20, R23, R33
pub write_meets_lem : map (λ (b : ShortBuffer). write_of b.table b.request b.room) write_meets ≡ map (λ (b : ShortBuffer). Err b.refused) write_meets
unfolding lowest card_of length_of write_meets
write_meets_lem = refl
