use Rattle.runs.proofs.WindowLaws.{none_left, some_left}
use Rattle.runs.proofs.windows.left_marks.Goals as goal

pub returns-then-at-end : goal.returns-then-at-end
returns-then-at-end c = none_left c.if-at-end.true

pub returns : goal.returns
returns c = some_left c.if-at-end.false
