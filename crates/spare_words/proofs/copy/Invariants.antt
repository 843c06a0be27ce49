-- The invariant of each loop: since it began, the words of `from` up to i were copied.
use Prim.Native.Nat.{◌-◌, ◌≤◌}
use lib.ListN.{length}
use Rattle.spare_words.proofs.CopyLaws.{Copied}
use Rattle.spare_words.proofs.copy.Given as goal

abbrev pub invariant-loop-i : goal.invariant-loop-i
invariant-loop-i l = (l.initial.i ≤ l.i) × Copied l.from l.initial.to l.to l.i

abbrev pub decreases-loop-i : goal.decreases-loop-i
decreases-loop-i l = length l.from - l.i

abbrev pub invariant-loop-i-2 : goal.invariant-loop-i-2
invariant-loop-i-2 l = (l.initial.i ≤ l.i) × Copied l.from l.initial.to l.to l.i

abbrev pub decreases-loop-i-2 : goal.decreases-loop-i-2
decreases-loop-i-2 l = length l.from - l.i

abbrev pub invariant-loop-i-3 : goal.invariant-loop-i-3
invariant-loop-i-3 l = (l.initial.i ≤ l.i) × Copied l.from l.initial.to l.to l.i

abbrev pub decreases-loop-i-3 : goal.decreases-loop-i-3
decreases-loop-i-3 l = length l.from - l.i

abbrev pub invariant-loop-i-4 : goal.invariant-loop-i-4
invariant-loop-i-4 l = (l.initial.i ≤ l.i) × Copied l.from l.initial.to l.to l.i

abbrev pub decreases-loop-i-4 : goal.decreases-loop-i-4
decreases-loop-i-4 l = length l.from - l.i
