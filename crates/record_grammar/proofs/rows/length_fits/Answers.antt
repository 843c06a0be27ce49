use Rattle.record_grammar.specs.Rows.{length_fits}
use borrow.Author.Tests.{eq-eqb, ne_eqb}
use Rattle.record_grammar.proofs.rows.length_fits.Goals as goal

pub returns-then-s-eq0 : goal.returns-then-s-eq0
unfolding length_fits
returns-then-s-eq0 c = simp (eq-eqb _ _ c.if-s-eq0.true, ← c.is_within.ensures)

pub returns : goal.returns
unfolding length_fits
returns c = simp (ne_eqb _ _ c.if-s-eq0.false)
