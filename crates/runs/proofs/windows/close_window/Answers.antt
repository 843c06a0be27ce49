use Rattle.runs.specs.Windows.{closed}
use Rattle.runs.proofs.windows.close_window.Goals as goal

pub returns : goal.returns
unfolding closed
returns c = rw (c.closed_why-why.ensures, c.closed_marks-marks.ensures)
