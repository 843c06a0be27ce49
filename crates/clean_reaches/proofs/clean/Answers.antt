use Rattle.clean_reaches.proofs.ReachLaws.{cut-not-clean, marked-not-clean, whole-clean}
use Rattle.clean_reaches.specs.Reaches.{reach_of}
use Rattle.clean_reaches.proofs.clean.Goals as goal

pub returns-then-cut : goal.returns-then-cut
unfolding reach_of
returns-then-cut c = λ R. cut-not-clean _ R _ c.if-cut.true

pub returns-then-marks-ne0 : goal.returns-then-marks-ne0
unfolding reach_of
returns-then-marks-ne0 c = λ R. marked-not-clean _ R _ c.if-cut.false c.if-marks-ne0.true

pub returns : goal.returns
unfolding reach_of
returns c = λ R. whole-clean _ R c.if-cut.false c.if-marks-ne0.false
