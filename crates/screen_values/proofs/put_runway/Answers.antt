use native.Mathlib.Omega.{arith}
use Rattle.screen_bytes.specs.Text.{bytes}
use Rattle.screen_bytes.proofs.Putting.{put_then, put-within, put-length}
use Rattle.screen_values.specs.Words.{runway_sides}
use Rattle.screen_values.specs.Values.{runway}
use Rattle.screen_values.proofs.put_runway.Goals as goal

pub returns : goal.returns
unfolding runway runway_sides bytes
returns c = rw (← c.value_at.ensures, ← c.value_at-2.ensures) (put-within 31 (omega arith) (put_then (put_then c.put_text-a.ensures c.put_two_digits-b.ensures) c.put_line.ensures))

pub shape_of-out : goal.shape_of-out
shape_of-out c = put-length (returns c)
