-- The words of a node.
use Rattle.std.proofs.Common.{ℕ, ◌+◌, ◌*◌, ◌/◌, ◌<◌, ◌≤◌, List, length, get_or, add-zero, le-ltb, lt-ltb}
use Rattle.schema_nodes.specs.declared.node.Node.{Node}
use Rattle.schema_tables.specs.Nodes.{nodes, node_word}
use Rattle.schema_nodes.specs.Row.{HasWords, IsNode}

pub node_in : (N : List ℕ) (k : ℕ) (n : Node) → k < length N / 4 → HasWords (get_or N (k * 4) 0) (get_or N (k * 4 + 1) 0) (get_or N (k * 4 + 2) 0) (get_or N (k * 4 + 3) 0) n → IsNode N k n
unfolding node_word nodes
node_in N k n h x = record { words = rw (lt-ltb k (length N / 4) h, add-zero (k * 4)) x }

pub node_out : (N : List ℕ) (k : ℕ) (n : Node) → length N / 4 ≤ k → HasWords 0 0 0 0 n → IsNode N k n
unfolding node_word nodes
node_out N k n h x = record { words = rw (le-ltb k (length N / 4) h) x }
