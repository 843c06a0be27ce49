use mathlib.Core.Path.{refl}
use Rattle.records.proofs.Telling.{told-length}
use Rattle.message_fields.proofs.FieldLaws.{acknowledgment_stuck, acknowledgment-absent, acknowledgment_there}
use Rattle.message_fields.proofs.acknowledgment_field.Goals as goal

pub returns-then-d-ne0 : goal.returns-then-d-ne0
returns-then-d-ne0 c = acknowledgment_stuck _ c.if-has-eq0.true c.if-d-ne0.true

pub emit-m-requires : goal.emit-m-requires
emit-m-requires c = c.requires

pub shape_of-words-then-has-eq0 : goal.shape_of-words-then-has-eq0
shape_of-words-then-has-eq0 c = told-length c.emit-m.ensures

pub returns-then-has-eq0 : goal.returns-then-has-eq0
returns-then-has-eq0 c = acknowledgment-absent _ c.if-has-eq0.true c.if-d-ne0.false c.emit-m.ensures

pub number_field-requires : goal.number_field-requires
number_field-requires c = (refl, c.requires)

pub shape_of-words : goal.shape_of-words
shape_of-words c = told-length c.number_field.ensures.told

pub returns : goal.returns
returns c = acknowledgment_there _ c.if-has-eq0.false c.number_field.ensures
