use borrow.Author.Rules.{rules}
use Rattle.length_determinants.proofs.LengthLaws.{known-none, known_some}
use Rattle.length_determinants.proofs.known.Goals as goal

pub bits-g-requires : goal.bits-g-requires
bits-g-requires c = search rules

pub returns-then-d-ne0 : goal.returns-then-d-ne0
returns-then-d-ne0 c = known-none c.if-d-ne0.true c.bits-g.ensures

pub returns : goal.returns
returns c = known_some c.if-d-ne0.false c.bits-g.ensures
