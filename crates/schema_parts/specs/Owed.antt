-- What is owed of nodes, whatever the nodes mean that they name.
use Rattle.std.specs.Prelude.{◌≡◌, List, [], ℕ, ◌+◌, ◌≤◌}
use Rattle.atn.specs.Format.{Fmt, num, name, span, bad}
use Rattle.atn.specs.Messages.{ia5}
use Rattle.atn.specs.Reading.{stop, flags, unread_marks}
use Rattle.schema_tables.specs.Nodes.{members_from}
use Rattle.schema_nodes.specs.declared.node.Leaf.{Leaf}
use Rattle.schema_nodes.specs.declared.node.Leaf.TheVariants.{Number, Name, Text, Bits}
use Rattle.schema_leaves.specs.declared.Step.{Step}
use Rattle.schema_leaves.specs.Came.{Came}

-- the format of a part that holds no others
abbrev pub leaf_format : Leaf → Fmt
leaf_format (Number tag lowest highest) = num tag lowest highest
leaf_format (Name tag highest) = name tag highest
leaf_format (Text tag fewest most) = ia5 tag fewest most
leaf_format (Bits tag count) = span tag 1 count count

-- the reading stopped, badly formed
pub record Refuses (m : ℕ) (a z : Step) : Type 0 where
  pub stops : (w : List ℕ) → a.c.at ≤ a.c.end → Came (stop bad a.c.at [] m) a w z w

-- the number of presence bits of n members from node k on
pub record Presence (N : List ℕ) (k n r : ℕ) : Type 0 where
  pub bits : (F : ℕ → Fmt) → r ≡ flags (members_from F N k n)

-- from the place at on, their presence bits lie before l
pub record Ahead (N : List ℕ) (k n at l : ℕ) : Type 0 where
  pub room : (F : ℕ → Fmt) → at + flags (members_from F N k n) ≤ l

-- the marks of those that are not read
pub record Unread (N : List ℕ) (k n : ℕ) (b : ℕ → ℕ) (at r : ℕ) : Type 0 where
  pub marks : (F : ℕ → Fmt) → r ≡ unread_marks (members_from F N k n) b at
