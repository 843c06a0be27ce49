-- A node by its numbers.
use Rattle.std.specs.Prelude.{◌≡◌, List, ℕ}
use Rattle.node_tables.specs.declared.Node.{Node}
use Rattle.node_tables.specs.Nodes.{node_word}

abbrev pub IsNode : List ℕ → ℕ → Node → Type 0
IsNode N k n = n ≡ record { kind = node_word N k 0; a = node_word N k 1; b = node_word N k 2; c = node_word N k 3; d = node_word N k 4; e = node_word N k 5 }
