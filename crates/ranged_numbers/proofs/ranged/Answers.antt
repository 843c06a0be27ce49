use Rattle.ranged_numbers.proofs.NumberLaws.{ranged-told}
use Rattle.ranged_numbers.proofs.ranged.Goals as goal

pub returns : goal.returns
returns c = ranged-told c.requires c.bits-g.result (rw c.width.ensures.0 at c.bits-g.ensures) c.from_lowest.ensures
