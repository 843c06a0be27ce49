-- What a node names, and whether its kind is known and its range not empty: by its kind.
use Rattle.std.specs.Prelude.{Bool, true, false, ℕ, leb}
use Rattle.schema_nodes.specs.declared.node.Leaf.{Leaf}
use Rattle.schema_nodes.specs.declared.node.Leaf.TheVariants.{Number, Name, Text, Bits}
use Rattle.schema_nodes.specs.declared.node.Node.{Node}
use Rattle.schema_nodes.specs.declared.node.Node.TheVariants.{Leaf as leaf, Sequence, Choice, Optional, Extension, Headed, Other, Unknown}
use Rattle.schema_tables.specs.Tests.{range_fits}

abbrev pub first_named : Node → ℕ
first_named (Sequence first count) = first
first_named (Choice tag first count) = first
first_named (Optional node) = node
first_named (Extension node tag) = node
first_named (Headed tag node) = node
first_named (Other node) = node
first_named n = 0

abbrev pub count_named : Node → ℕ
count_named (Sequence first count) = count
count_named (Choice tag first count) = count
count_named (Optional node) = 1
count_named (Extension node tag) = 1
count_named (Headed tag node) = 1
count_named (Other node) = 1
count_named n = 0

abbrev pub leaf_fits : Leaf → Bool
leaf_fits (Number tag lowest highest) = range_fits lowest highest
leaf_fits (Name tag highest) = range_fits 0 highest
leaf_fits (Text tag fewest most) = leb fewest most
leaf_fits (Bits tag count) = true

abbrev pub fits : Node → Bool
fits (leaf l) = leaf_fits l
fits (Choice tag first count) = leb 1 count
fits Unknown = false
fits n = true
