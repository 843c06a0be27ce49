-- The invariant of the loop: the records still to come lead where all of them do.
use mathlib.Core.Path.{◌≡◌}
use Rattle.record_views.specs.View.{records_from}
use Rattle.record_grammar.specs.Heard.{start, walked}
use Rattle.record_grammar.proofs.hearing.hear.Given as goal

abbrev pub invariant-loop-i : goal.invariant-loop-i
invariant-loop-i l = walked l.rows start (records_from 0 l.words) ≡ walked l.rows l.s (records_from l.i l.words)
