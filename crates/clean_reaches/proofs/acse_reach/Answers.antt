use mathlib.Core.Path.{◌∙◌, sym, ap}
use Rattle.acse_apdus.specs.Apdus.{reply_of}
use Rattle.message_runs.specs.Runs.{clean_reach}
use Rattle.clean_reaches.specs.Reaches.{reach_of}
use Rattle.clean_reaches.proofs.acse_reach.Goals as goal

pub returns-in-Heard : goal.returns-in-Heard
returns-in-Heard c = c.clean.ensures _ ∙ ap clean_reach (sym (c.read_apdu-apdu.ensures.is ∙ ap reply_of c.in-Heard.is))

pub returns-in-RanOut : goal.returns-in-RanOut
unfolding reach_of clean_reach
returns-in-RanOut c = sym (ap clean_reach (c.read_apdu-apdu.ensures.is ∙ ap reply_of c.in-RanOut.is))

pub returns-in-Badly : goal.returns-in-Badly
unfolding reach_of clean_reach
returns-in-Badly c = sym (ap clean_reach (c.read_apdu-apdu.ensures.is ∙ ap reply_of c.in-Badly.is))
