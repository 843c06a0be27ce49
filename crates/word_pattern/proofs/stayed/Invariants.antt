-- The invariant of the loop: the words behind the records and before i have the pattern.
use Rattle.std.proofs.Common.{◌≡◌, ℕ, ◌+◌, ◌*◌, ◌≤◌, ◌<◌, get_or}
use Rattle.word_pattern.specs.Pattern.{first}
use Rattle.word_pattern.proofs.stayed.Given as goal

abbrev pub invariant-loop-i : goal.invariant-loop-i
invariant-loop-i l = (k : ℕ) → l.records * 5 ≤ k → k < l.i → get_or l.words k 0 ≡ first + k
