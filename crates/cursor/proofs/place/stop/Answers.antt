use Rattle.std.proofs.Common.{eq-eqb, ne_eqb}
use Rattle.cursor.specs.Place.{stopped}
use Rattle.atn.specs.Reading.{or}
use Rattle.cursor.proofs.place.stop.Goals as goal

pub returns-then-c-ne0 : goal.returns-then-c-ne0
unfolding stopped
returns-then-c-ne0 c = rw (ne_eqb _ _ c.if-c-ne0.true)

pub returns : goal.returns
unfolding stopped or
returns c = rw (eq-eqb _ _ c.if-c-ne0.false)
