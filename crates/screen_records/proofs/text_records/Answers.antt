use native.Mathlib.Omega.{arith}
use Rattle.screen_records.specs.Fields.{text_records}
use Rattle.screen_records.proofs.text_records.Goals as goal

pub returns : goal.returns
unfolding text_records
returns c = (rw (← c.text_length.ensures.0), omega (arith, c.text_length.ensures.1))
