use Rattle.cpdlc_frames.proofs.ReadingLaws.{tried_whole, tried_cut, tried_refused}
use Rattle.cpdlc_frames.proofs.verdict.Goals as goal

pub returns-then-why-eq0 : goal.returns-then-why-eq0
returns-then-why-eq0 c d down up s w k run = tried_whole d down up s run c.if-why-eq0.true

pub returns-then-why-eq7 : goal.returns-then-why-eq7
returns-then-why-eq7 c d down up s w k run = tried_cut d down up s run c.if-why-eq7.true

pub returns : goal.returns
returns c d down up s w k run = tried_refused d down up s run c.if-why-eq0.false c.if-why-eq7.false
