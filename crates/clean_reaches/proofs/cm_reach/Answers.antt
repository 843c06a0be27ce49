use Rattle.clean_reaches.proofs.ReachLaws.{stopped-not-clean, reading_whole}
use Rattle.clean_reaches.specs.Reaches.{reach_of}
use Rattle.clean_reaches.proofs.cm_reach.Goals as goal

pub returns-then-c-ne0 : goal.returns-then-c-ne0
unfolding reach_of
returns-then-c-ne0 c = stopped-not-clean _ _ (rw c.bits.ensures at c.pdu-tried.ensures.reads) c.if-c-ne0.true

pub returns : goal.returns
returns c = reading_whole _ _ (rw c.bits.ensures at c.pdu-tried.ensures.reads) c.if-c-ne0.false c.clean.ensures
