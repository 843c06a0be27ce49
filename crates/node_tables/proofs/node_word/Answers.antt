-- `node_tables::node_word` meets its contract.
use native.Mathlib.Omega.{arith}
use Rattle.node_tables.proofs.NodeLaws.{node_in, node_out}
use Rattle.node_tables.proofs.node_word.Goals as goal

pub returns-then-i-nodes : goal.returns-then-i-nodes
returns-then-i-nodes c = node_in _ c.args.k c.args.j

pub returns-else-i-nodes : goal.returns-else-i-nodes
returns-else-i-nodes c = node_out _ c.args.k c.args.j c.if-i-nodes.false

pub returns-else-k-lt1000000 : goal.returns-else-k-lt1000000
returns-else-k-lt1000000 c = node_out _ c.args.k c.args.j (omega (arith, c.if-k-lt1000000.false, c.requires.0))
