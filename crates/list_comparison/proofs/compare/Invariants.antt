-- The invariant of the loop: the first i records are alike, and the list has their words.
use Prim.Native.Nat.{◌*◌, ◌≤◌}
use lib.ListN.{length}
use Rattle.list_comparison.proofs.LoopLaws.{Upto}
use Rattle.list_comparison.proofs.compare.Given as goal

abbrev pub invariant-loop-i : goal.invariant-loop-i
invariant-loop-i l = (l.i * 5 ≤ length l.list) × Upto l.words l.count l.list l.i
