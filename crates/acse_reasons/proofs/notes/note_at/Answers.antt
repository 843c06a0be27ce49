use Rattle.std.proofs.Common.{eq-eqb, ne_eqb}
use Rattle.acse_reasons.proofs.notes.note_at.Goals as goal

pub returns-then-c-ne0 : goal.returns-then-c-ne0
returns-then-c-ne0 c = rw (ne_eqb _ 0 c.if-c-ne0.true)

pub returns : goal.returns
returns c = rw (eq-eqb _ 0 c.if-c-ne0.false)
