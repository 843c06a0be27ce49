use native.Mathlib.Omega.{arith}
use Rattle.screen_bytes.proofs.Putting.{put-within}
use Rattle.screen_elements.specs.Lines.{element_line}
use Rattle.screen_elements.proofs.WorkedLines.{as_it_is}
use Rattle.screen_elements.proofs.put_element_line.Goals as goal

pub returns-in-Some : goal.returns-in-Some
unfolding element_line
returns-in-Some c = rw (c.in-Some.is, ← c.value_count-n.ensures.0) (put-within _ (omega (arith, c.value_count-n.ensures.1)) c.put_filled.ensures)

pub returns-in-None : goal.returns-in-None
returns-in-None c = rw (c.in-None.is, as_it_is) (put-within _ (omega arith) c.put_text.ensures)
