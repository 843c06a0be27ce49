use Rattle.std.proofs.Common.{arith, le-leb}
use Rattle.atn.specs.Reading.{unless, mark, over}
use borrow.Author.Tests.{lt-leb}
use Rattle.acse_reasons.proofs.reasons.above.Goals as goal

pub returns-then-v-highest : goal.returns-then-v-highest
unfolding over unless
returns-then-v-highest c = rw (le-leb c.args.v c.args.highest (omega (arith, c.if-v-highest.true)))

pub returns : goal.returns
unfolding over unless mark
returns c = rw (lt-leb c.args.v c.args.highest (omega (arith, c.if-v-highest.false)))
