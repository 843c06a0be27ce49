-- A refusal of a run by its number, and the numbers needed, which only 20 has.
use Rattle.std.specs.Prelude.{ℕ}
use Rattle.message_runs.specs.declared.Refusal.{Refusal}
use Rattle.message_runs.specs.declared.Refusal.TheVariants.{TooLong, UnfitTables, UnknownDirection, TooFewNumbers}

abbrev pub number : Refusal → ℕ
number TooLong = 1
number UnfitTables = 2
number UnknownDirection = 3
number (TooFewNumbers n) = 20

abbrev pub need : Refusal → ℕ
need (TooFewNumbers n) = n
need r = 0
