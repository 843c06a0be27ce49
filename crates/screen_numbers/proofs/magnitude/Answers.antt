use native.Mathlib.Omega.{arith}
use borrow.Author.Tests.{lt-ltb, le-ltb}
use Rattle.screen_numbers.specs.Numbers.{magnitude}
use Rattle.screen_numbers.proofs.magnitude.Goals as goal

pub returns-then-v-lt9223372036854775808 : goal.returns-then-v-lt9223372036854775808
unfolding magnitude
returns-then-v-lt9223372036854775808 c = (rw (lt-ltb _ (9223372036854775808) c.if-v-lt9223372036854775808.true), omega arith)

pub returns : goal.returns
unfolding magnitude
returns c = (rw (le-ltb _ (9223372036854775808) c.if-v-lt9223372036854775808.false) (omega arith), omega arith)
