use Rattle.records.proofs.Telling.{told-length}
use Rattle.forward.proofs.ForwardLaws.{carried-up, carried-down}
use Rattle.forward.proofs.read_carried.Goals as goal

pub try_data-requires : goal.try_data-requires
try_data-requires c = (c.requires.0, c.requires.3, c.requires.4)

pub shape_of-words-then-direction-eq0 : goal.shape_of-words-then-direction-eq0
shape_of-words-then-direction-eq0 c = told-length c.try_data.ensures.told

pub returns-then-direction-eq0 : goal.returns-then-direction-eq0
returns-then-direction-eq0 c = carried-up _ _ _ c.if-direction-eq0.true c.try_data.ensures

pub try_data-requires-2 : goal.try_data-requires-2
try_data-requires-2 c = (c.requires.0, c.requires.1, c.requires.2)

pub shape_of-words : goal.shape_of-words
shape_of-words c = told-length c.try_data-2.ensures.told

pub returns : goal.returns
returns c = carried-down _ _ _ c.if-direction-eq0.false c.try_data-2.ensures
