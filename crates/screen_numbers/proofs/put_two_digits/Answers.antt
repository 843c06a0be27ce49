use native.Mathlib.Omega.{arith}
use borrow.Author.Tests.{lt-ltb, le-ltb}
use Rattle.screen_bytes.proofs.Putting.{put_then, put-within, put-length}
use Rattle.screen_numbers.specs.Numbers.{two_digits}
use Rattle.screen_numbers.proofs.put_two_digits.Goals as goal

pub returns-then-x-lt10 : goal.returns-then-x-lt10
unfolding two_digits
returns-then-x-lt10 c = rw (lt-ltb _ 10 c.if-x-lt10.true) (put-within 21 (omega arith) (put_then c.put_byte-m.ensures c.put_decimal.ensures))

pub shape_of-out-then-x-lt10 : goal.shape_of-out-then-x-lt10
shape_of-out-then-x-lt10 c = put-length (returns-then-x-lt10 c)

pub returns : goal.returns
unfolding two_digits
returns c = rw (le-ltb _ 10 c.if-x-lt10.false) (put-within 21 (omega arith) c.put_decimal-2.ensures)

pub shape_of-out : goal.shape_of-out
shape_of-out c = put-length (returns c)
