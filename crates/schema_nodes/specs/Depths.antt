-- The greatest of the depths of nodes that stand one after another, as far as it matters: above 16 it is 17.
use Rattle.std.specs.Prelude.{◌≡◌, ℕ, ◌≤◌, leb, List, nat_le, slice_index}
use Rattle.schema_tables.specs.Tests.{each}

pub record Deepest (D : List ℕ) (first count r : ℕ) : Type 0 where
  pub small : r ≤ 17
  pub all : (g : ℕ) → g ≤ 16 → nat_le r g ≡ each (λ j. leb (slice_index D j) g) first count
