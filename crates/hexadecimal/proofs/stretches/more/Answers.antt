use borrow.Author.Rules.{rules}
use Rattle.hexadecimal.proofs.StretchLaws.{taken_none, taken_one, taken_all}
use Rattle.hexadecimal.proofs.stretches.more.Goals as goal

pub loop-c-init : goal.loop-c-init
loop-c-init c = (search rules, λ text so. taken_none text c.args.stretch.now 0 so)

pub loop-c-preserved : goal.loop-c-preserved
loop-c-preserved c = (search rules, λ text so. taken_one text c.args.stretch.now c.loop-c.c-index (search rules) (c.loop-c.invariant.1 text so) c.one-digits.ensures.so_far)

pub returns-clause-so_far : goal.returns-clause-so_far
returns-clause-so_far c = λ text so. taken_all text c.args.stretch.now c.loop-c.c-index (search rules) (c.loop-c.invariant.1 text so)
