-- A node by its words: the kind, and what a node of that kind takes of the three numbers a, b and c.
use Rattle.std.specs.Prelude.{◌≡◌, ℕ, ◌≤◌, List}
use Rattle.schema_nodes.specs.declared.node.Leaf.TheVariants.{Number, Name, Text, Bits}
use Rattle.schema_nodes.specs.declared.node.Node.{Node}
use Rattle.schema_nodes.specs.declared.node.Node.TheVariants.{Leaf as leaf, Sequence, Choice, Optional, Unread, NoReader, Unlisted, Extension, Headed, Other, Unknown}
use Rattle.schema_tables.specs.Nodes.{node_word}

abbrev pub HasWords : ℕ → ℕ → ℕ → ℕ → Node → Type 0
HasWords kind a b c (leaf (Number tag lowest highest)) = (kind ≡ 0) × (tag ≡ a) × (lowest ≡ b) × (highest ≡ c)
HasWords kind a b c (leaf (Name tag highest)) = (kind ≡ 1) × (tag ≡ a) × (highest ≡ b)
HasWords kind a b c (leaf (Text tag fewest most)) = (kind ≡ 2) × (tag ≡ a) × (fewest ≡ b) × (most ≡ c)
HasWords kind a b c (leaf (Bits tag count)) = (kind ≡ 3) × (tag ≡ a) × (count ≡ b)
HasWords kind a b c (Sequence first count) = (kind ≡ 4) × (first ≡ a) × (count ≡ b)
HasWords kind a b c (Choice tag first count) = (kind ≡ 5) × (tag ≡ a) × (first ≡ b) × (count ≡ c)
HasWords kind a b c (Optional node) = (kind ≡ 6) × (node ≡ a)
HasWords kind a b c (Unread tag) = (kind ≡ 7) × (tag ≡ a)
HasWords kind a b c NoReader = kind ≡ 8
HasWords kind a b c Unlisted = kind ≡ 9
HasWords kind a b c (Extension node tag) = (kind ≡ 10) × (node ≡ a) × (tag ≡ b)
HasWords kind a b c (Headed tag node) = (kind ≡ 11) × (tag ≡ a) × (node ≡ b)
HasWords kind a b c (Other node) = (kind ≡ 12) × (node ≡ a)
HasWords kind a b c Unknown = 13 ≤ kind

pub record IsNode (N : List ℕ) (k : ℕ) (n : Node) : Type 0 where
  pub words : HasWords (node_word N k 0) (node_word N k 1) (node_word N k 2) (node_word N k 3) n
