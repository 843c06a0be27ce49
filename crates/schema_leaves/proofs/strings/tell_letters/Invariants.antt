use Rattle.std.proofs.Common.{◌-◌, ◌≤◌}
use Rattle.schema_tables.specs.Entry.{top}
use Rattle.schema_leaves.proofs.LetterLaws.{Upto}
use Rattle.schema_leaves.proofs.strings.tell_letters.Given as goal

abbrev pub invariant-loop-i : goal.invariant-loop-i
invariant-loop-i l = (l.m ≤ top) × Upto l.s l.tag l.start l.at l.len l.initial.words l.words l.n l.m l.i

abbrev pub decreases-loop-i : goal.decreases-loop-i
decreases-loop-i l = l.len - l.i
