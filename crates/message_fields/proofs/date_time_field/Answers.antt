use Rattle.records.proofs.Telling.{told-length}
use Rattle.message_fields.proofs.FieldLaws.{date_time_told, date_time_untold}
use Rattle.message_fields.proofs.date_time_field.Goals as goal

pub returns-then-d-ne0 : goal.returns-then-d-ne0
returns-then-d-ne0 c = date_time_untold c.read_date_time-g.ensures c.if-d-ne0.true

pub tell_date_time-m-requires : goal.tell_date_time-m-requires
tell_date_time-m-requires c = c.requires

pub shape_of-words : goal.shape_of-words
shape_of-words c = told-length c.tell_date_time-m.ensures

pub returns : goal.returns
returns c = date_time_told c.read_date_time-g.ensures c.if-d-ne0.false c.tell_date_time-m.ensures
