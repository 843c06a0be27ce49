use Rattle.cpdlc_frames.proofs.start.Goals as goal

pub returns : goal.returns
returns c = rw c.bits.ensures
