use Rattle.screen_bytes.proofs.Putting.{put_then, put-length}
use Rattle.screen_numbers.specs.Numbers.{hundredths}
use Rattle.screen_numbers.proofs.put_hundredths.Goals as goal

pub returns : goal.returns
unfolding hundredths
returns c = rw (← c.digit.ensures, ← c.digit-2.ensures) (put_then c.put_decimal-a.ensures (put_then c.put_byte-b.ensures (put_then c.put_byte-c.ensures c.put_byte.ensures)))

pub shape_of-out : goal.shape_of-out
shape_of-out c = put-length (returns c)
