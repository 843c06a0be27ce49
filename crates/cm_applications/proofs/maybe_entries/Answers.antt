use Rattle.told_fields.proofs.DoesLaws.{does_none, does_some}
use Rattle.cm_applications.proofs.maybe_entries.Goals as goal

pub returns-then-has-eq0 : goal.returns-then-has-eq0
returns-then-has-eq0 c = does_none 1536 c.if-has-eq0.true

pub returns : goal.returns
returns c = does_some c.if-has-eq0.false c.entries.ensures
