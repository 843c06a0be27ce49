use native.Mathlib.Omega.{arith}
use borrow.Author.Tests.{eq-eqb, ne_eqb}
use Rattle.numeric_strings.specs.Spacing.{spaced_octet}
use Rattle.numeric_strings.proofs.spaced_octet.Goals as goal

pub returns-then-x-eq0 : goal.returns-then-x-eq0
unfolding spaced_octet
returns-then-x-eq0 c = (rw (eq-eqb c.args.x 0 c.if-x-eq0.true), λ _. omega arith)

pub returns-then-x-eq48 : goal.returns-then-x-eq48
unfolding spaced_octet
returns-then-x-eq48 c = (rw (ne_eqb c.args.x 0 c.if-x-eq0.false, eq-eqb c.args.x 48 c.if-x-eq48.true), λ _. omega arith)

pub returns : goal.returns
unfolding spaced_octet
returns c = (rw (ne_eqb c.args.x 0 c.if-x-eq0.false, ne_eqb c.args.x 48 c.if-x-eq48.false), λ l. omega (arith, l))
