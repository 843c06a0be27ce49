use Rattle.acse_bodies.proofs.unread.Goals as goal

pub returns : goal.returns
returns c = rw c.mark-d.ensures
