use Rattle.std.proofs.Common.{eq-eqb, ne_eqb}
use Rattle.cursor.specs.Place.{marked, stopped}
use Rattle.atn.specs.Reading.{or}
use Rattle.cursor.proofs.place.mark.Goals as goal

pub returns-then-c-ne0 : goal.returns-then-c-ne0
unfolding marked stopped
returns-then-c-ne0 c = rw (ne_eqb _ _ c.if-c-ne0.true)

pub returns : goal.returns
unfolding marked stopped or
returns c = rw (eq-eqb _ _ c.if-c-ne0.false)
