use native.Mathlib.Omega.{arith}
use borrow.Author.Tests.{eq-eqb, ne_eqb}
use Rattle.acse_bodies.proofs.release_tag.Goals as goal

pub returns-then-pdu-eq2 : goal.returns-then-pdu-eq2
returns-then-pdu-eq2 c = rw (eq-eqb c.args.pdu 2 (omega (arith, c.if-pdu-eq2.true)))

pub returns : goal.returns
returns c = rw (ne_eqb c.args.pdu 2 c.if-pdu-eq2.false)
