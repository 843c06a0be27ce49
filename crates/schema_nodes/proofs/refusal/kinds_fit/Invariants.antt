use Rattle.std.proofs.Common.{◌≡◌, true}
use Rattle.schema_tables.specs.Tests.{below, node_fits}
use Rattle.schema_nodes.proofs.refusal.kinds_fit.Given as goal

abbrev pub invariant-loop-k : goal.invariant-loop-k
invariant-loop-k l = below (λ j. node_fits l.nodes j) l.k ≡ true
