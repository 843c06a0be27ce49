use native.Mathlib.Omega.{arith}
use Rattle.clearances.proofs.ClearanceLaws.{rest-bits, rest-none}
use Rattle.clearances.proofs.rest.Goals as goal

pub returns-then-n-lt9 : goal.returns-then-n-lt9
returns-then-n-lt9 c = rest-bits c.bits-g.result c.bits-g.ensures

pub returns-else-n-lt9 : goal.returns-else-n-lt9
returns-else-n-lt9 c = rest-none (λ i z. omega arith)

pub returns-else-at-end : goal.returns-else-at-end
returns-else-at-end c = rest-none (λ i z. omega (arith, i.0))
