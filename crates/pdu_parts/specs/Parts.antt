-- Reasons and the extension as readings: functions of the window's end and the place.
use Rattle.std.specs.Prelude.{List, ℕ}
use Rattle.x691.specs.Bits.{bit_of}
use Rattle.atn.specs.Messages.{ext_reason, extension_alternative}
use Rattle.atn.specs.Reading.{Ans, read}
use Rattle.field_ranges.specs.Ends.{highest}

unfoldable pub reason_at : ℕ → ℕ → List ℕ → ℕ → ℕ → Ans
reason_at row t s e p = read (ext_reason t (highest row)) (0, 0) (bit_of s) e p

unfoldable pub extension_at : List ℕ → ℕ → ℕ → Ans
extension_at s e p = read extension_alternative (0, 0) (bit_of s) e p
