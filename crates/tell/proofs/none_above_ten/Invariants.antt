-- The loop keeps that what the test says of the characters that are left, it says of all.
use mathlib.Core.Path.{◌≡◌}
use Rattle.tell.proofs.NumeralLaws.{Test}
use Rattle.tell.proofs.none_above_ten.Given as goal

abbrev pub invariant-loop-i : goal.invariant-loop-i
invariant-loop-i l = Test l.s l.x.at l.x.len 0 ≡ Test l.s l.x.at l.x.len l.i
