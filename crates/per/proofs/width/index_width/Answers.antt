use Rattle.std.proofs.Common.{◌-◌, arith}
use Rattle.per.proofs.Widths.{width-le}
use Rattle.per.proofs.width.index_width.Goals as goal

pub returns : goal.returns
returns c = let d = c.args.n - 1 in (c.bits_for.ensures.0, omega (arith, c.bits_for.ensures.0, width-le 8 d (omega arith)))
