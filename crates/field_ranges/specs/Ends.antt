-- The ends of a row of the table.
use Rattle.std.specs.Prelude.{ℕ}
use Rattle.field_ranges.specs.Ranges.{row_at}

unfoldable pub lowest : ℕ → ℕ
lowest k = (row_at k).lo

unfoldable pub highest : ℕ → ℕ
highest k = (row_at k).hi
