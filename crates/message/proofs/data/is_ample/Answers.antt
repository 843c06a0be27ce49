use mathlib.Core.Bool.{false≢true}
use borrow.Author.Tests.{leb-true}
use native.Mathlib.Omega.{arith}
use Rattle.message.proofs.data.is_ample.Goals as goal

pub returns-then-c-ne0 : goal.returns-then-c-ne0
returns-then-c-ne0 c = λ q. absurd (false≢true q)

pub returns-then-end-lt-AMPLE_BITS : goal.returns-then-end-lt-AMPLE_BITS
returns-then-end-lt-AMPLE_BITS c = λ q. absurd (false≢true q)

pub returns-then-end-at : goal.returns-then-end-at
returns-then-end-at c = λ q. absurd (false≢true q)

pub returns-then-at-gt4294967295 : goal.returns-then-at-gt4294967295
returns-then-at-gt4294967295 c = λ q. absurd (false≢true q)

pub returns-then-s-at : goal.returns-then-s-at
returns-then-s-at c = λ q. absurd (false≢true q)

pub returns : goal.returns
returns c = λ q.
    (omega (arith, c.if-c-ne0.false), omega (arith, c.if-end-lt-AMPLE_BITS.false, c.if-end-at.false), omega (arith, c.if-s-at.false), omega (arith, c.if-at-gt4294967295.false), omega (arith, leb-true c.words_for.result c.args.room q, c.words_for.ensures))
