use mathlib.Core.Path.{sym, ap}
use Rattle.fixture_writer.specs.Says.{answer_of}
use Rattle.adjagosk.specs.Frames.{frame_of}
use Rattle.adjagosk.proofs.writing.in_frame.Goals as goal

pub returns-in-Ok : goal.returns-in-Ok
unfolding frame_of answer_of
returns-in-Ok c = sym (ap (λ x. frame_of (answer_of x)) c.in-Ok.is)

pub returns-in-Err : goal.returns-in-Err
unfolding frame_of answer_of
returns-in-Err c = rw (c.number.ensures, c.need.ensures) (sym (ap (λ x. frame_of (answer_of x)) c.in-Err.is))
