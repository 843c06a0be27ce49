use native.Mathlib.Omega.{arith}
use Rattle.screen_bytes.specs.Text.{bytes, degree_sign}
use Rattle.screen_bytes.proofs.Putting.{put_then, put-within, put-length}
use Rattle.screen_values.specs.Words.{norths}
use Rattle.screen_values.specs.Values.{degrees}
use Rattle.screen_values.proofs.put_degrees.Goals as goal

pub returns : goal.returns
unfolding degrees degree_sign norths bytes
returns c = rw (← c.value_at.ensures, ← c.value_at-2.ensures) (put-within 26 (omega arith) (put_then (put_then c.put_decimal-a.ensures c.put_text-b.ensures) c.put_line.ensures))

pub shape_of-out : goal.shape_of-out
shape_of-out c = put-length (returns c)
