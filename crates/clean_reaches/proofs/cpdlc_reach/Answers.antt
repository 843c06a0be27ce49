use Rattle.clean_reaches.proofs.ReachLaws.{verdict-not-clean, verdict-whole}
use Rattle.clean_reaches.specs.Reaches.{reach_of}
use Rattle.clean_reaches.proofs.cpdlc_reach.Goals as goal

pub returns-then-v-ne0 : goal.returns-then-v-ne0
unfolding reach_of
returns-then-v-ne0 c = verdict-not-clean _ c.try_frame-v.ensures.is c.if-v-ne0.true

pub returns : goal.returns
returns c = verdict-whole _ c.try_frame-v.ensures.is c.if-v-ne0.false c.clean.ensures
