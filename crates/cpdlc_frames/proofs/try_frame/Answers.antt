use mathlib.Core.Path.{refl}
use native.Mathlib.Omega.{arith}
use Rattle.records.proofs.Telling.{told-length}
use Rattle.cpdlc_frames.proofs.try_frame.Goals as goal

pub read_pdu-x-requires : goal.read_pdu-x-requires
read_pdu-x-requires c =
    (c.requires.0, omega arith, c.requires.1, c.requires.2, c.requires.3, c.requires.4, c.requires.5, rw c.start.ensures refl)

pub shape_of-spare : goal.shape_of-spare
shape_of-spare c = told-length c.read_pdu-x.ensures.told

pub returns : goal.returns
returns c = c.verdict.ensures _ _ _ _ _ _ (rw c.start.ensures at c.read_pdu-x.ensures)
