use borrow.Author.Rules.{rules}
use Rattle.screen_numbers.specs.Numbers.{digit}
use Rattle.screen_numbers.proofs.digit.Goals as goal

pub returns : goal.returns
unfolding digit
returns c = search rules
