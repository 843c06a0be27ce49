use Rattle.records.proofs.Telling.{told-length}
use Rattle.optional_parts.proofs.PartLaws.{optional-none, optional_untold, optional-told}
use Rattle.route_parts.proofs.runway_part.Goals as goal

pub returns-then-has-eq0 : goal.returns-then-has-eq0
returns-then-has-eq0 c = optional-none _ _ c.if-has-eq0.true

pub returns-then-d-ne0 : goal.returns-then-d-ne0
returns-then-d-ne0 c = optional_untold _ _ c.if-has-eq0.false (c.read_runway-a.ensures.reads _ _) c.if-d-ne0.true

pub shape_of-words : goal.shape_of-words
shape_of-words c = told-length c.tell_runway-m.ensures

pub returns : goal.returns
returns c = optional-told _ _ c.if-has-eq0.false (c.read_runway-a.ensures.reads _ _) c.if-d-ne0.false c.tell_runway-m.ensures
