-- How many words records take.
use Rattle.std.specs.Prelude.{ℕ, ◌*◌, [], ◌∷◌}
use Rattle.atn.specs.Reading.{rec}
use Rattle.atn.specs.Entries.{need}

-- the words of a record, whichever it is
unfoldable pub size : ℕ
size = need (rec 0 0 0 0 0 ∷ [])

-- the words of n records
unfoldable pub space : ℕ → ℕ
space n = n * size
