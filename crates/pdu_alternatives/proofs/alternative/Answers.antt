use Rattle.records.proofs.Telling.{told-length}
use Rattle.pdu_alternatives.proofs.AlternativeLaws.{of_downlink, of_uplink}
use Rattle.pdu_alternatives.proofs.alternative.Goals as goal

pub down_alternative-requires : goal.down_alternative-requires
down_alternative-requires c = (c.requires.0, c.requires.1, c.requires.2, c.requires.3)

pub shape_of-words-then-direction-eq0 : goal.shape_of-words-then-direction-eq0
shape_of-words-then-direction-eq0 c = told-length c.down_alternative.ensures.told

pub returns-then-direction-eq0 : goal.returns-then-direction-eq0
returns-then-direction-eq0 c = of_downlink _ _ _ _ c.if-direction-eq0.true c.down_alternative.ensures

pub shape_of-words : goal.shape_of-words
shape_of-words c = told-length c.up_alternative.ensures.told

pub returns : goal.returns
returns c = of_uplink _ _ _ _ c.if-direction-eq0.false c.up_alternative.ensures
