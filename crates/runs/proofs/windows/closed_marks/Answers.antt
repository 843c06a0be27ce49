use Rattle.atn.specs.Reading.{or}
use Rattle.runs.proofs.WindowLaws.{marks_past, marks_left, marks_dropped, marks_kept}
use Rattle.runs.proofs.windows.closed_marks.Goals as goal

pub returns-then-r-eq7 : goal.returns-then-r-eq7
unfolding or
returns-then-r-eq7 c = marks_past _ c.left_marks-left.ensures c.if-r-eq7.true

pub returns-then-r-eq0 : goal.returns-then-r-eq0
unfolding or
returns-then-r-eq0 c = marks_left _ c.left_marks-left.ensures c.if-r-eq0.true

pub returns-then-r-eq9 : goal.returns-then-r-eq9
unfolding or
returns-then-r-eq9 c = marks_dropped _ c.left_marks-left.ensures c.if-r-eq9.true

pub returns : goal.returns
returns c = marks_kept _ c.left_marks-left.ensures c.if-r-eq7.false c.if-r-eq0.false c.if-r-eq9.false
