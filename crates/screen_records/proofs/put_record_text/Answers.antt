use native.Mathlib.Omega.{arith}
use Rattle.screen_bytes.proofs.Putting.{put-none, put_then, put-within}
use Rattle.screen_records.specs.Fields.{characters}
use Rattle.screen_records.proofs.FieldLaws.{characters-more, characters-all}
use Rattle.screen_records.proofs.put_record_text.Goals as goal

pub loop-j-init : goal.loop-j-init
unfolding characters
loop-j-init c = put-none

pub loop-j-preserved : goal.loop-j-preserved
loop-j-preserved c = rw (characters-more, ← c.character.ensures) (put_then c.loop-j.invariant c.put_byte-m.ensures)

pub returns : goal.returns
returns c = rw (characters-all _ c.text_length-n.ensures.0 (omega arith) c.loop-j-test.false) (put-within 32 (omega (arith, c.text_length-n.ensures.1)) c.loop-j.invariant)
