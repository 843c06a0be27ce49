use Rattle.schema_nodes.proofs.NodeLaws.{node_in, node_out}
use Rattle.schema_nodes.proofs.node.node_at.Goals as goal

pub returns-then-k-nodes : goal.returns-then-k-nodes
returns-then-k-nodes c = node_in _ c.args.k _ c.if-k-nodes.true c.node_of.ensures

pub returns : goal.returns
returns c = node_out _ c.args.k _ c.if-k-nodes.false c.node_of-2.ensures
