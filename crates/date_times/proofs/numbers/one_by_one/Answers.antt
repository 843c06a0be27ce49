use Rattle.std.proofs.Common.{arith}
use Rattle.date_times.proofs.TimeLaws.{in_a_row}
use Rattle.date_times.proofs.numbers.one_by_one.Goals as goal

pub returns : goal.returns
returns c =
    in_a_row _ _ _ _ _ _ (omega (arith, c.well_formed)) c.ranged-year.ensures c.ranged-month.ensures c.ranged-day.ensures
    c.ranged-hours.ensures c.ranged-minutes.ensures c.ranged-seconds.ensures
