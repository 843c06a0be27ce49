use native.Mathlib.Omega.{arith}
use Rattle.verdicts.proofs.larger.Goals as goal

pub returns-then-a-b : goal.returns-then-a-b
returns-then-a-b c = omega (arith, c.if-a-b.true)

pub returns : goal.returns
returns c = omega (arith, c.if-a-b.false)
