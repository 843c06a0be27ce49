use Rattle.tell.proofs.NumeralLaws.{told-plain, told-spaced}
use Rattle.tell.proofs.characters.told.Goals as goal

pub returns-then-r : goal.returns-then-r
returns-then-r c = told-spaced c.args.s.now c.args.r c.args.i c.requires.1 c.eight-v.ensures c.if-r.true c.spaced_eight.ensures

pub returns : goal.returns
returns c = told-plain c.args.s.now c.args.r c.args.i c.requires.1 c.eight-v.ensures c.if-r.false
