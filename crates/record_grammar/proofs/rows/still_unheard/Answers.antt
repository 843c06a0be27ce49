use Rattle.record_grammar.specs.Rows.{unheard}
use borrow.Author.Tests.{eq-eqb, ne_eqb}
use Rattle.record_grammar.proofs.rows.still_unheard.Goals as goal

pub returns-then-s-eq0 : goal.returns-then-s-eq0
unfolding unheard
returns-then-s-eq0 c = simp (eq-eqb _ _ c.if-s-eq0.true)

pub returns : goal.returns
unfolding unheard
returns c = simp (ne_eqb _ _ c.if-s-eq0.false)
