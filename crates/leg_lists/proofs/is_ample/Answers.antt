use mathlib.Core.Bool.{false≢true}
use borrow.Author.Tests.{leb-true}
use native.Mathlib.Omega.{arith}
use Rattle.leg_lists.proofs.is_ample.Goals as goal

pub returns-then-why-ne0 : goal.returns-then-why-ne0
returns-then-why-ne0 c = λ q. absurd (false≢true q)

pub returns-then-octets-lt-AMPLE_OCTETS : goal.returns-then-octets-lt-AMPLE_OCTETS
returns-then-octets-lt-AMPLE_OCTETS c = λ q. absurd (false≢true q)

pub returns-then-octets-gt1125899906842623 : goal.returns-then-octets-gt1125899906842623
returns-then-octets-gt1125899906842623 c = λ q. absurd (false≢true q)

pub returns-then-n-gt8388607 : goal.returns-then-n-gt8388607
returns-then-n-gt8388607 c = λ q. absurd (false≢true q)

pub returns : goal.returns
returns c = λ q.
    let a = c.args in
    (omega (arith, c.if-why-ne0.false), omega (arith, c.if-octets-lt-AMPLE_OCTETS.false), omega (arith, c.if-octets-gt1125899906842623.false), omega (arith, c.if-n-gt8388607.false), omega (arith, leb-true c.words_for.result a.room q, c.words_for.ensures))
