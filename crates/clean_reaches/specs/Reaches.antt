-- A reach, in the words of the definition.
use Rattle.std.proofs.Math.Option.{Option, none, some}
use Rattle.std.specs.Prelude.{ℕ, Some, None}
use Rattle.std.specs.Prelude.{Option as Maybe}

unfoldable pub reach_of : Maybe ℕ → Option ℕ
reach_of (Some p) = some p
reach_of None = none
