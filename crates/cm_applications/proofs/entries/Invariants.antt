-- The loop keeps that so many entries were read and told.
use Prim.Native.Nat.{◌≤◌, ◌*◌, ◌-◌}
use Rattle.cursor.specs.Formats.{Times}
use Rattle.told_fields.specs.Does.{Does}
use Rattle.cm_applications.specs.Applications.{entry_of}
use Rattle.cm_applications.proofs.entries.Given as goal

abbrev pub invariant-loop-i : goal.invariant-loop-i
invariant-loop-i l = (l.i ≤ l.count) × Does (l.i * 3) 0 (Times (entry_of l.addressed l.tag) 1 l.i l.s) l.initial.z l.z l.initial.words l.words
