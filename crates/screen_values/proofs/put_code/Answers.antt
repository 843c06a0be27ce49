use Rattle.screen_bytes.proofs.Putting.{put_then, put-length}
use Rattle.screen_values.specs.Values.{code}
use Rattle.screen_values.proofs.put_code.Goals as goal

pub returns : goal.returns
unfolding code
returns c = rw (← c.value_at.ensures, ← c.value_at-2.ensures, ← c.value_at-3.ensures, ← c.value_at-4.ensures, ← c.digit.ensures, ← c.digit-2.ensures, ← c.digit-3.ensures, ← c.digit-4.ensures) (put_then c.put_byte-a.ensures (put_then c.put_byte-b.ensures (put_then c.put_byte-c.ensures c.put_byte.ensures)))

pub shape_of-out : goal.shape_of-out
shape_of-out c = put-length (returns c)
