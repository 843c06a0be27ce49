use Rattle.told_fields.proofs.DoesLaws.{does_none, does_some}
use Rattle.told_fields.proofs.texts.maybe_letters.Goals as goal

pub returns-then-has-eq0 : goal.returns-then-has-eq0
returns-then-has-eq0 c = does_none 64 c.if-has-eq0.true

pub letters-requires : goal.letters-requires
letters-requires c = c.requires

pub returns : goal.returns
returns c = does_some c.if-has-eq0.false c.letters.ensures
