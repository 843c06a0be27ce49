use Rattle.screen_bytes.proofs.Putting.{put-none, put_next}
use Rattle.screen_bytes.proofs.put_text.Goals as goal

pub loop-b-init : goal.loop-b-init
loop-b-init c = put-none

pub loop-b-preserved : goal.loop-b-preserved
loop-b-preserved c = put_next _ _ c.loop-b-test.true c.loop-b.invariant c.put_byte-m.ensures
