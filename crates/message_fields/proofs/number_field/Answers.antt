use Rattle.records.proofs.Telling.{told-length}
use Rattle.message_fields.proofs.FieldLaws.{number-told, number_untold}
use Rattle.message_fields.proofs.number_field.Goals as goal

pub returns-then-d-ne0 : goal.returns-then-d-ne0
returns-then-d-ne0 c = number_untold _ _ c.ranged-g.ensures c.if-d-ne0.true

pub emit-m-requires : goal.emit-m-requires
emit-m-requires c = c.requires.1

pub shape_of-words : goal.shape_of-words
shape_of-words c = told-length c.emit-m.ensures

pub returns : goal.returns
returns c = number-told _ _ c.ranged-g.ensures c.if-d-ne0.false c.emit-m.ensures
