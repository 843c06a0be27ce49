use Rattle.std.proofs.Common.{◌∙◌}
use Rattle.acse_reasons.proofs.reasons.extended.Goals as goal

pub returns : goal.returns
returns c = c.note_at.ensures ∙ rw c.mark-d.ensures
