-- The invariant of the loop: the records still to come decide.
use mathlib.Core.Path.{◌≡◌}
use Rattle.record_views.specs.View.{records_from}
use Rattle.screen_text.specs.Text.{number, phrased}
use Rattle.screen_text.proofs.have_phrases.Given as goal

abbrev pub invariant-loop-i : goal.invariant-loop-i
invariant-loop-i l = phrased l.down l.up 0 (records_from 0 l.words) ≡ phrased l.down l.up (number l.d) (records_from l.i l.words)
