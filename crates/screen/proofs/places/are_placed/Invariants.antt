-- The invariant of the loop: the records still to come decide, from the place of the one before them on.
use mathlib.Core.Path.{◌≡◌}
use Rattle.record_views.specs.View.{records_from}
use Rattle.screen.specs.Placed.{placed}
use Rattle.screen.proofs.places.are_placed.Given as goal

abbrev pub invariant-loop-i : goal.invariant-loop-i
invariant-loop-i l = placed 0 (records_from 0 l.words) ≡ placed l.low (records_from l.i l.words)
