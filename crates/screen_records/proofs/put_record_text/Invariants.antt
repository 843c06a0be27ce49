-- The invariant: the characters before this one are put.
use Rattle.screen_bytes.specs.Put.{Put}
use Rattle.screen_records.specs.Fields.{characters}
use Rattle.record_views.specs.View.{records_from}
use Rattle.screen_records.proofs.put_record_text.Given as goal

abbrev pub invariant-loop-j : goal.invariant-loop-j
invariant-loop-j l = Put l.j l.initial.out l.out l.at l.m (characters (records_from l.i l.words) l.j)
