use Rattle.schema_nodes.proofs.TestLaws.{Rest}
use Rattle.schema_nodes.proofs.depth.+within.Given as goal

abbrev pub decreases-within : goal.decreases-within
decreases-within l = l.left

abbrev pub invariant-loop-i : goal.invariant-loop-i
invariant-loop-i l = Rest l.nodes l.left l.k l.named.first l.named.count l.i
