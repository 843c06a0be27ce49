use native.Mathlib.Nat.{mul-le-mul}
use native.Mathlib.Omega.{arith}
use Prim.Native.Nat.{◌≤◌}
use borrow.Author.Tests.{lt-ltb, le-ltb}
use Rattle.screen_bytes.proofs.Putting.{put_then, put-within, put-length}
use Rattle.screen_numbers.specs.Numbers.{signed}
use Rattle.screen_numbers.proofs.put_signed.Goals as goal

pub overflow_mul-x : goal.overflow_mul-x
overflow_mul-x c = let l : c.magnitude.result ≤ 4294967296 = omega (arith, c.magnitude.ensures.1) in omega (arith, mul-le-mul l (c.requires.1))

pub returns-then-v-lt9223372036854775808 : goal.returns-then-v-lt9223372036854775808
unfolding signed
returns-then-v-lt9223372036854775808 c = rw (← c.magnitude.ensures.0, lt-ltb _ 9223372036854775808 c.if-v-lt9223372036854775808.true) (put-within 21 (omega arith) c.put_decimal.ensures)

pub shape_of-out-then-v-lt9223372036854775808 : goal.shape_of-out-then-v-lt9223372036854775808
shape_of-out-then-v-lt9223372036854775808 c = put-length (returns-then-v-lt9223372036854775808 c)

pub returns : goal.returns
unfolding signed
returns c = rw (← c.magnitude.ensures.0, le-ltb _ 9223372036854775808 c.if-v-lt9223372036854775808.false) (put_then c.put_byte-m.ensures c.put_decimal-2.ensures)

pub shape_of-out : goal.shape_of-out
shape_of-out c = put-length (returns c)
