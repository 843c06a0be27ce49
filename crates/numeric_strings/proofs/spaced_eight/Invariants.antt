-- The loop keeps that r has the octets that are done, and rest the others.
use Rattle.numeric_strings.proofs.SpacingLaws.{Left}
use Rattle.numeric_strings.proofs.spaced_eight.Given as goal

abbrev pub invariant-loop-k : goal.invariant-loop-k
invariant-loop-k l = Left l.v l.r l.rest l.k
