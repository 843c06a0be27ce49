use Rattle.message_nodes.specs.Table.{table}
use Rattle.message_nodes.proofs.node.Goals as goal

-- the nodes that are read are the table's
pub returns : goal.returns
unfolding table
returns c = c.node_at.ensures
