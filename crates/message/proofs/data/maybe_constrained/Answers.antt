use Rattle.records.proofs.Telling.{told-length}
use Rattle.message.proofs.DataLaws.{constrained_none, constrained_some}
use Rattle.message.proofs.data.maybe_constrained.Goals as goal

pub returns-then-has-eq0 : goal.returns-then-has-eq0
returns-then-has-eq0 c = constrained_none _ c.if-has-eq0.true

pub shape_of-words : goal.shape_of-words
shape_of-words c = told-length c.read_constrained.ensures.told

pub returns : goal.returns
returns c = constrained_some _ c.if-has-eq0.false c.read_constrained.ensures
