-- The integrity check as a reading: a function of the window's end and the place.
use Rattle.std.specs.Prelude.{false, List, ℕ}
use Rattle.x691.specs.Bits.{bit_of}
use Rattle.atn.specs.Format.{soft, any_span}
use Rattle.atn.specs.Reading.{Ans, read}
use Rattle.atn.specs.Tags as tag

unfoldable pub integrity : List ℕ → ℕ → ℕ → Ans
integrity s e p = read (soft 7 false (any_span tag.integrity_check 1)) (0, 0) (bit_of s) e p
