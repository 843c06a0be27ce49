use Rattle.std.proofs.Common.{arith, le-leb}
use borrow.Author.Tests.{lt-leb}
use Rattle.atn.specs.Reading.{over, unless, mark}
use Rattle.ample_readings.proofs.above.Goals as goal

pub returns-then-v-most : goal.returns-then-v-most
unfolding over unless
returns-then-v-most c = rw (le-leb c.args.v c.args.most (omega (arith, c.if-v-most.true)))

pub returns : goal.returns
unfolding over unless mark
returns c = rw (lt-leb c.args.v c.args.most (omega (arith, c.if-v-most.false)))
