-- Parts that hold no others.
use mathlib.Core.Path.{◌≡◌, refl, ◌∙◌}
use mathlib.Core.List.{List, [], ◌∷◌}
use Prim.Native.Nat.{ℕ, ◌≤◌}
use native.Mathlib.Omega.{arith}
use borrow.Author.Tests.{eq-eqb}
use Rattle.atn.specs.Format.{Fmt, bad}
use Rattle.atn.specs.Reading.{rec, ok, stop, or, mark}
use Rattle.cursor.specs.declared.place.Cursor.{Cursor}
use Rattle.cursor.specs.Place.{put, stopped, marked}
use Rattle.schema_tables.specs.Nodes.{node_word, format_of}
use Rattle.schema_nodes.specs.declared.node.Leaf.{Leaf}
use Rattle.schema_nodes.specs.declared.node.Leaf.TheVariants.{Number, Name, Text, Bits}
use Rattle.schema_nodes.specs.declared.node.Node.TheVariants.{Leaf as leaf}
use Rattle.schema_nodes.specs.Row.{IsNode}
use Rattle.schema_parts.specs.Owed.{leaf_format}
use Rattle.capped_records.specs.Place.{Put}
use Rattle.schema_leaves.specs.declared.Step.{Step}
use Rattle.schema_leaves.specs.Came.{Came}
use Rattle.schema_leaves.proofs.CameLaws.{at, came_stopped, came_told}
use Rattle.schema_leaves.proofs.NumberLaws.{goes_marked}

-- the format of a node by its words
pub leaf_is : (F : ℕ → Fmt) (N : List ℕ) (k : ℕ) (l : Leaf) → IsNode N k (leaf l) → format_of F N k (node_word N k 0) (node_word N k 1) (node_word N k 2) (node_word N k 3) ≡ leaf_format l
unfolding format_of
leaf_is F N k (Number tag lowest highest) i = rw (i.words.0, i.words.1, i.words.2, i.words.3)
leaf_is F N k (Name tag highest) i = rw (i.words.0, i.words.1, i.words.2)
leaf_is F N k (Text tag fewest most) i = rw (i.words.0, i.words.1, i.words.2, i.words.3)
leaf_is F N k (Bits tag count) i = rw (i.words.0, i.words.1, i.words.2)

pub refused : (a : Step) {c : Cursor} (m : ℕ) → a.c.why ≡ 0 → c ≡ stopped a.c 5 m → (w : List ℕ) → a.c.at ≤ a.c.end → Came (stop bad a.c.at [] m) a w (at c 0) w
unfolding stopped
refused a {c} m z e w l =
    let u : c ≡ put a.c a.c.at 5 (or a.c.marks m) = e ∙ rw (eq-eqb a.c.why 0 z) in
    came_stopped bad m (λ f. omega arith) l (rw u refl) refl (rw u refl) refl

pub noted-unread : (a : Step) {c : Cursor} (t : ℕ) {k : ℕ} {w w' : List ℕ} → a.c.why ≡ 0 → a.c.at ≤ a.c.end → c ≡ marked a.c 8 → Put w w' a.n k (rec t 0 1 0 a.c.at) → Came (ok a.c.at (rec t 0 1 0 a.c.at ∷ []) (mark 4)) a w (at c k) w'
unfolding mark
noted-unread a t z l e h = came_told 8 (rec t 0 1 0 a.c.at) l (goes_marked a.c 8 z e) h
