use Rattle.records.proofs.Telling.{told-length}
use Rattle.tell_values.proofs.tell_name.Goals as goal

pub shape_of-words : goal.shape_of-words
shape_of-words c = told-length c.emit.ensures

pub returns : goal.returns
returns c = c.emit.ensures
