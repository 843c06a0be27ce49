use native.Mathlib.Omega.{arith}
use Rattle.screen_records.specs.Fields.{text_length}
use Rattle.screen_records.proofs.text_length.Goals as goal

pub returns-then-n-lt32 : goal.returns-then-n-lt32
unfolding text_length
returns-then-n-lt32 c = (rw (← c.second_at-n.ensures) (omega arith), omega arith)

pub returns : goal.returns
unfolding text_length
returns c = (rw (← c.second_at-n.ensures) (omega arith), omega arith)
