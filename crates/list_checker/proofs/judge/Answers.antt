use Rattle.list_checker.proofs.JudgeLaws.{judged_cut, judged_marked, judged_clean, judged_early, judged_late}
use Rattle.list_checker.proofs.judge.Goals as goal

pub returns-then-cut : goal.returns-then-cut
returns-then-cut c = judged_cut c.in-Accepted.is c.if-cut.true

pub returns-then-marks-ne0 : goal.returns-then-marks-ne0
returns-then-marks-ne0 c = judged_marked c.in-Accepted.is c.if-cut.false c.if-marks-ne0.true

pub compare-requires : goal.compare-requires
compare-requires c = rw c.in-Accepted.is at c.requires

pub returns-then-number-le3 : goal.returns-then-number-le3
returns-then-number-le3 c = judged_early c.in-Refused.is c.if-number-le3.true

pub returns-else-marks-ne0 : goal.returns-else-marks-ne0
returns-else-marks-ne0 c = judged_clean c.in-Accepted.is c.if-cut.false c.if-marks-ne0.false c.compare.ensures

pub returns-else-number-le3 : goal.returns-else-number-le3
returns-else-number-le3 c = judged_late c.in-Refused.is c.if-number-le3.false
