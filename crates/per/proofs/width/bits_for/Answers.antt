-- `per::width::bits_for` meets its contract: of 64 bits, those above a number's width are zeros.
use Rattle.std.proofs.Common.{le_trans, arith}
use lib.Count.{leading_le}
use Rattle.per.proofs.Widths.{width_leading, width-le}
use Rattle.per.proofs.width.bits_for.Goals as goal

pub overflow_sub-result : goal.overflow_sub-result
overflow_sub-result c = le_trans (leading_le 64 _) (omega arith)

pub returns : goal.returns
returns c = let d = c.args.d in omega (arith, width_leading 64 d (omega arith), width-le 64 d (omega arith))
