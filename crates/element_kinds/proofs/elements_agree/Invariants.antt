-- The invariant of the loop: the records still to come decide.
use mathlib.Core.Path.{◌≡◌}
use Rattle.record_views.specs.View.{records_from}
use Rattle.element_kinds.specs.Agreed.{agreed}
use Rattle.element_kinds.proofs.elements_agree.Given as goal

abbrev pub invariant-loop-i : goal.invariant-loop-i
invariant-loop-i l = agreed (records_from 0 l.words) ≡ agreed (records_from l.i l.words)
