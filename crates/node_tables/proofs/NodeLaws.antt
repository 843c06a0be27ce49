-- The numbers of a node.
use mathlib.Core.Path.{◌≡◌, refl, sym}
use mathlib.Core.List.{List}
use Prim.Native.Nat.{ℕ, ◌+◌, ◌*◌, ◌≤◌}
use lib.ListN.{length, get_or, get_or-eq_default}
use Rattle.node_tables.specs.Nodes.{node_word}

pub node_in : (N : List ℕ) (k j : ℕ) → get_or N (k * 6 + j) 0 ≡ node_word N k j
unfolding node_word
node_in N k j = refl

pub node_out : (N : List ℕ) (k j : ℕ) → length N ≤ k * 6 + j → 0 ≡ node_word N k j
unfolding node_word
node_out N k j h = sym (get_or-eq_default N 0 h)
