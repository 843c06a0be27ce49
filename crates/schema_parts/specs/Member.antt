-- A member of a sequence by its kind.
use Rattle.std.specs.Prelude.{[], ◌∷◌, ℕ}
use Rattle.atn.specs.Format.{Fmt}
use Rattle.atn.specs.Reading.{Ans, rec, ok, mark, fork, read, unread_mark}
use Rattle.schema_nodes.specs.declared.node.Node.{Node}
use Rattle.schema_nodes.specs.declared.node.Node.TheVariants.{Optional, Unread}

-- its presence bits
abbrev pub flag_of : Node → ℕ
flag_of (Optional node) = 1
flag_of (Unread tag) = 1
flag_of n = 0

-- its marks, from the presence bit at q
abbrev pub mark_of : Node → (ℕ → ℕ) → ℕ → ℕ
mark_of (Unread tag) b q = unread_mark (b q)
mark_of n b q = 0

-- the reading of node k, n; the presence bit stands at q
abbrev pub member_read : (ℕ → Fmt) → Node → ℕ → (ℕ → ℕ) → ℕ → ℕ → ℕ → Ans
member_read F (Optional node) k b e q at = fork (b q) (ok at [] 0) (read (F node) (0, 0) b e at)
member_read F (Unread tag) k b e q at = fork (b q) (ok at [] 0) (ok at (rec tag 0 1 0 at ∷ []) (mark 4))
member_read F n k b e q at = read (F k) (0, 0) b e at
