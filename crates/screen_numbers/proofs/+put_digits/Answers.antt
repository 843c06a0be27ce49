-- One digit a turn, the last one first found and last put.
use Rattle.std.proofs.Common.{arith}
use Rattle.screen_bytes.proofs.Putting.{put-none, put_then, put-within}
use Rattle.screen_numbers.specs.Numbers.{digits}
use Rattle.screen_numbers.proofs.NumberLaws.{last_digit, more-digits}
use Rattle.screen_numbers.proofs.+put_digits.Goals as goal

pub returns-then-k-eq0 : goal.returns-then-k-eq0
unfolding digits
returns-then-k-eq0 t c = rw c.if-k-eq0.true put-none

pub returns-then-x-lt10 : goal.returns-then-x-lt10
returns-then-x-lt10 t c = rw (last_digit _ _ c.if-k-eq0.false c.if-x-lt10.true, ← c.digit.ensures) (put-within _ (omega arith) c.put_byte.ensures)

pub returns : goal.returns
returns t c = rw (more-digits _ _ c.if-k-eq0.false c.if-x-lt10.false, ← c.digit-2.ensures) (put-within _ (omega arith) (put_then c.put_digits-m.ensures c.put_byte-2.ensures))
