use Rattle.records.proofs.Telling.{told-length}
use Rattle.message_fields.proofs.FieldLaws.{maybe_number-none, maybe_number-some}
use Rattle.message_fields.proofs.maybe_number_field.Goals as goal

pub returns-then-has-eq0 : goal.returns-then-has-eq0
returns-then-has-eq0 c = maybe_number-none _ _ _ c.if-has-eq0.true

pub number_field-requires : goal.number_field-requires
number_field-requires c = c.requires

pub shape_of-words : goal.shape_of-words
shape_of-words c = told-length c.number_field.ensures.told

pub returns : goal.returns
returns c = maybe_number-some _ _ _ c.if-has-eq0.false c.number_field.ensures
