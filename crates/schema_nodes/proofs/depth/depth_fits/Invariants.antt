use Rattle.schema_nodes.proofs.DepthLaws.{Kept}
use Rattle.schema_nodes.proofs.depth.depth_fits.Given as goal

abbrev pub invariant-loop-k : goal.invariant-loop-k
invariant-loop-k l = Kept l.nodes l.depths l.k
