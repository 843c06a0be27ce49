use mathlib.Core.Path.{refl}
use native.Mathlib.Omega.{arith}
use Rattle.passed_arguments.proofs.unless_far.Goals as goal

pub overflow_add-at : goal.overflow_add-at
overflow_add-at c = omega (arith, c.requires)

pub returns-then-p-at : goal.returns-then-p-at
returns-then-p-at c = λ z. (refl, omega (arith, c.if-p-at.true))

pub returns : goal.returns
returns c = λ z. absurd (z refl)
