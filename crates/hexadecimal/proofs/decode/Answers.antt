-- The text is one stretch.
use mathlib.Core.List.{[]}
use borrow.Author.Rules.{rules}
use Rattle.hexadecimal.proofs.decode.Goals as goal

pub returns : goal.returns
returns c = c.whole.ensures.came _ _ (search rules) (c.more.ensures.so_far [] (c.start.ensures.so_far _))
