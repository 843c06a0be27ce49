-- The alternatives of a choice, where they stand one after another in a table of nodes.
use Rattle.std.specs.Prelude.{ℕ, zero, suc}
use Rattle.atn.specs.Format.{Fmt, Alts, none_left, ◌∥◌}

-- n alternatives, from node k on
unfoldable pub alternatives_from : (ℕ → Fmt) → ℕ → ℕ → Alts
alternatives_from F k zero = none_left
alternatives_from F k (suc n) = F k ∥ alternatives_from F (suc k) n
