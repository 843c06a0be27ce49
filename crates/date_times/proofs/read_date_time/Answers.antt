use Rattle.std.proofs.Common.{arith}
use Rattle.x691.specs.Types.{extent}
use Rattle.x691.specs.Encoding.{width, width_in}
use Rattle.date_times.proofs.TimeLaws.{at_once}
use Rattle.date_times.proofs.read_date_time.Goals as goal

pub bits-first-requires : goal.bits-first-requires
unfolding extent width width_in
bits-first-requires c = omega (arith, c.width-3.ensures.0, c.width-2.ensures.0, c.width.ensures.0, c.width-behind_day.ensures.0)

pub bits-second-requires : goal.bits-second-requires
unfolding extent width width_in
bits-second-requires c = omega (arith, c.width-then-d-eq0.ensures.0, c.width-behind_minutes.ensures.0)

pub part-year-requires : goal.part-year-requires
unfolding extent width width_in
part-year-requires c = (omega (arith, c.width-2.ensures.0, c.width.ensures.0, c.width-behind_day.ensures.0), omega arith)

pub part-month-requires : goal.part-month-requires
unfolding extent width width_in
part-month-requires c = (omega (arith, c.width.ensures.0, c.width-behind_day.ensures.0), omega arith)

pub part-day-requires : goal.part-day-requires
unfolding extent width width_in
part-day-requires c = (omega (arith, c.width-behind_day.ensures.0), omega arith)

pub part-hours-requires : goal.part-hours-requires
unfolding extent width width_in
part-hours-requires c = (omega arith, omega arith)

pub part-minutes-requires : goal.part-minutes-requires
unfolding extent width width_in
part-minutes-requires c = (omega (arith, c.width-behind_minutes.ensures.0), omega arith)

pub part-seconds-requires : goal.part-seconds-requires
unfolding extent width width_in
part-seconds-requires c = (omega arith, omega arith)

pub returns-then-e-eq0 : goal.returns-then-e-eq0
returns-then-e-eq0 c =
    at_once _ _ _ _ _ _ c.bits-first.ensures c.if-d-eq0.true c.bits-second.ensures c.if-e-eq0.true
    c.part-year.ensures c.part-month.ensures c.part-day.ensures c.part-hours.ensures c.part-minutes.ensures c.part-seconds.ensures
    c.width-behind_day.ensures.0 (omega (arith, c.width.ensures.0)) (omega (arith, c.width-2.ensures.0)) (omega (arith, c.width-3.ensures.0))
    c.width-behind_minutes.ensures.0 (omega (arith, c.width-then-d-eq0.ensures.0))
    (omega (arith, c.well_formed))
