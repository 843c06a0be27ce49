-- The invariant of the loop: the records still to come decide.
use mathlib.Core.Path.{◌≡◌}
use Rattle.record_views.specs.View.{records_from}
use Rattle.element_kinds.specs.Agreed.{later_agree}
use Rattle.element_kinds.specs.Kinds.{byte_of}
use Rattle.element_kinds.proofs.later_agree.Given as goal

abbrev pub invariant-loop-i : goal.invariant-loop-i
invariant-loop-i l = later_agree l.index (byte_of l.kind) (records_from l.from l.words) ≡ later_agree l.index (byte_of l.kind) (records_from l.i l.words)
