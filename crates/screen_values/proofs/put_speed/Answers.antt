use native.Mathlib.Omega.{arith}
use Rattle.screen_bytes.specs.Text.{bytes}
use Rattle.screen_bytes.proofs.Putting.{put_then, put-within, put-length}
use borrow.Author.Tests.{lt-ltb, le-ltb}
use Rattle.screen_values.specs.Words.{speed_units}
use Rattle.screen_values.specs.Values.{speed}
use Rattle.screen_values.proofs.put_speed.Goals as goal

pub returns-then-unit-lt6 : goal.returns-then-unit-lt6
unfolding speed speed_units bytes
returns-then-unit-lt6 c = rw (← c.value_at-unit.ensures, ← c.value_at-n.ensures, lt-ltb _ 6 c.if-unit-lt6.true) (put-within 80 (omega arith) (put_then c.put_signed-m.ensures c.put_line.ensures))

pub shape_of-out-then-unit-lt6 : goal.shape_of-out-then-unit-lt6
shape_of-out-then-unit-lt6 c = put-length (returns-then-unit-lt6 c)

pub returns : goal.returns
unfolding speed speed_units bytes
returns c = rw (← c.value_at-unit.ensures, ← c.value_at-n.ensures, le-ltb _ 6 c.if-unit-lt6.false) (put-within 80 (omega arith) (put_then c.put_byte-m.ensures c.put_thousandths.ensures))

pub shape_of-out : goal.shape_of-out
shape_of-out c = put-length (returns c)
