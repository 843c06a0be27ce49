use mathlib.Core.Path.{refl}
use Rattle.pens.proofs.PenLaws.{ink_far, ink-near}
use Rattle.pens.proofs.ink.Goals as goal

pub returns-then-at-gt-LIMIT : goal.returns-then-at-gt-LIMIT
returns-then-at-gt-LIMIT c = ink_far _ _ _ _ _ c.if-at-gt-LIMIT.true

pub returns : goal.returns
returns c = ink-near _ _ _ _ _ _ refl refl refl c.put.ensures
