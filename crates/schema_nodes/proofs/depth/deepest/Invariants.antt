use Rattle.schema_nodes.proofs.DepthLaws.{Upto}
use Rattle.schema_nodes.proofs.depth.deepest.Given as goal

abbrev pub invariant-loop-i : goal.invariant-loop-i
invariant-loop-i l = Upto l.depths l.first l.d l.i
