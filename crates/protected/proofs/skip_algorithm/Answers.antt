use native.Mathlib.Omega.{arith}
use Rattle.protected.proofs.ProtectedLaws.{algorithm-none, algorithm_skipped}
use Rattle.protected.proofs.skip_algorithm.Goals as goal

pub returns-then-has-eq0 : goal.returns-then-has-eq0
returns-then-has-eq0 c = algorithm-none _ c.if-has-eq0.true

pub bits-size-requires : goal.bits-size-requires
bits-size-requires c = omega (arith, c.length-l.ensures.few)

pub returns : goal.returns
returns c = algorithm_skipped _ c.if-has-eq0.false c.mark-m.ensures c.length-l.ensures c.bits-size.ensures c.pass.ensures
