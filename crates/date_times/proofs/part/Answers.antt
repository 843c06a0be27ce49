use Rattle.std.proofs.Common.{arith}
use Rattle.date_times.proofs.TimeLaws.{power_some, part-told}
use Rattle.date_times.proofs.part.Goals as goal

pub nonzero_rem-v : goal.nonzero_rem-v
nonzero_rem-v c = power_some c.width-wide.result (omega (arith, c.width-wide.ensures.0, c.requires.1))

pub returns : goal.returns
returns c = part-told c.args.v c.args.behind c.width-wide.ensures.0 c.requires.1 c.from_lowest.ensures
