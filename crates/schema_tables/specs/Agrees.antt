-- "the tables for document 01's argument readers, the satellite channel apart, agree with them on every input, refusals included".
use Rattle.std.specs.Prelude.{◌≡◌, List, ℕ}
use Rattle.x691.specs.Bits.{uint}
use Rattle.atn.specs.Format.{Fmt}
use Rattle.atn.specs.Reading.{Ctx, read}
use Rattle.schema_tables.specs.Nodes.{meaning}

-- the frequency at the place `at` of the bits b is a satellite channel: the last of its four alternatives
abbrev pub Channel : (ℕ → ℕ) → ℕ → Type 0
Channel b at = uint b at 2 ≡ 3

-- the table N reads as f does, inside whatever it stands, from the place `at` of the bits b, in a window that ends at e: the same place behind it, records and marks, or the same stop
abbrev pub Reads : List ℕ → Fmt → Ctx → (ℕ → ℕ) → ℕ → ℕ → Type 0
Reads N f x b e at = read (meaning N) x b e at ≡ read f x b e at
