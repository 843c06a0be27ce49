use Rattle.told_fields.proofs.DoesLaws.{does_told}
use Rattle.told_fields.proofs.numbers.number.Goals as goal

pub returns : goal.returns
returns c = does_told (c.ranged-g.ensures.number c.args.tag) c.emit-n.ensures
