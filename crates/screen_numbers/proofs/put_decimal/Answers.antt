use Rattle.screen_numbers.specs.Numbers.{decimal}
use Rattle.screen_numbers.proofs.put_decimal.Goals as goal

pub returns : goal.returns
unfolding decimal
returns c = c.put_digits.ensures
