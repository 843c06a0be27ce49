use Rattle.std.proofs.Common.{arith}
use Rattle.std.proofs.lemmas.Grind.{common_steps}
use Rattle.decimal.specs.Decimal.{onward}
use Rattle.decimal.proofs.with_digit.Goals as goal

pub returns-then-not-is_ascii_digit : goal.returns-then-not-is_ascii_digit
unfolding onward
returns-then-not-is_ascii_digit c = grind (arith, common_steps)

pub returns-in_err-checked_mul : goal.returns-in_err-checked_mul
unfolding onward
returns-in_err-checked_mul c = grind (arith, common_steps)

pub returns : goal.returns
unfolding onward
returns c = grind (arith, common_steps)
