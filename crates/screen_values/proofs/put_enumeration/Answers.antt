use native.Mathlib.Omega.{arith}
use Rattle.screen_bytes.specs.Text.{bytes}
use Rattle.screen_bytes.proofs.Putting.{put-within, put-length}
use borrow.Author.Tests.{eq-eqb, ne_eqb}
use Rattle.screen_values.specs.Values.{enumeration}
use Rattle.screen_values.proofs.put_enumeration.Goals as goal

pub returns-then-second_at-eq1 : goal.returns-then-second_at-eq1
unfolding enumeration bytes
returns-then-second_at-eq1 c = rw (← c.second_at.ensures, eq-eqb _ 1 c.if-second_at-eq1.true) (put-within _ (omega arith) c.put_text.ensures)

pub shape_of-out-then-second_at-eq1 : goal.shape_of-out-then-second_at-eq1
shape_of-out-then-second_at-eq1 c = put-length (returns-then-second_at-eq1 c)

pub returns : goal.returns
unfolding enumeration bytes
returns c = rw (← c.second_at.ensures, ne_eqb _ 1 c.if-second_at-eq1.false, ← c.value_at.ensures) (put-within _ (omega arith) c.put_line.ensures)

pub shape_of-out : goal.shape_of-out
shape_of-out c = put-length (returns c)
