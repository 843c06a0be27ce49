-- With room the byte is stored, without room the bytes stay.
use Rattle.screen_bytes.proofs.Putting.{put_one, put_out, put-length}
use Rattle.screen_bytes.proofs.put_byte.Goals.{then-at-out, else-at-out}
use Rattle.screen_bytes.proofs.put_byte.Goals as goal

pub returns : goal.returns
returns c = elim c.if-at-out.branch [ then-at-out w ↦ rw w.out-is (put_one _ _ _) | else-at-out w ↦ rw w.out-is (put_out _ _ _ w.if-at-out.false) ]

pub shape_of-out : goal.shape_of-out
shape_of-out c = put-length (returns c)
