use native.Mathlib.Omega.{arith}
use Rattle.field_ranges.specs.Ends.{lowest, highest}
use Rattle.records.proofs.Telling.{told-length}
use Rattle.optional_parts.proofs.PartLaws.{optional-none, optional_untold, optional-told}
use Rattle.route_parts.proofs.airport_part.Goals as goal

pub returns-then-has-eq0 : goal.returns-then-has-eq0
returns-then-has-eq0 c = optional-none _ _ c.if-has-eq0.true

pub returns-then-d-ne0 : goal.returns-then-d-ne0
unfolding lowest highest
returns-then-d-ne0 c = optional_untold _ _ c.if-has-eq0.false (c.ia5-a.ensures.text _) c.if-d-ne0.true

pub tell_text-m-requires : goal.tell_text-m-requires
tell_text-m-requires c = (omega (arith, c.requires), c.ia5-a.ensures.few, c.ia5-a.ensures.held)

pub shape_of-words : goal.shape_of-words
shape_of-words c = told-length c.tell_text-m.ensures

pub returns : goal.returns
unfolding lowest highest
returns c = optional-told _ _ c.if-has-eq0.false (c.ia5-a.ensures.text _) c.if-d-ne0.false c.tell_text-m.ensures
