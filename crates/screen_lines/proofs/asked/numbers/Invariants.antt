-- The invariant: no more words than there are. The measure is what is left of the text.
use Rattle.std.proofs.Common.{◌≤◌, length}
use Rattle.screen_lines.proofs.asked.numbers.Given as goal

abbrev pub invariant-loop-rest : goal.invariant-loop-rest
invariant-loop-rest l = l.count ≤ length l.words

abbrev pub decreases-loop-rest : goal.decreases-loop-rest
decreases-loop-rest l = length l.rest
