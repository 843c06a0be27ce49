use Rattle.records.proofs.Telling.{told-length}
use Rattle.optional_parts.proofs.PartLaws.{optional-none}
use Rattle.clearances.proofs.ClearanceLaws.{legs_there}
use Rattle.clearances.proofs.legs_part.Goals as goal

pub returns-then-has-eq0 : goal.returns-then-has-eq0
returns-then-has-eq0 c = optional-none _ _ c.if-has-eq0.true

pub shape_of-words : goal.shape_of-words
shape_of-words c = told-length c.read_legs.ensures.told

pub returns : goal.returns
returns c = legs_there c.if-has-eq0.false c.read_legs.ensures
