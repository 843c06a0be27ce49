-- The message choices as readings: functions of the window's end and the place.
use Rattle.std.specs.Prelude.{List, ℕ, zero, suc}
use Rattle.x691.specs.Bits.{bit_of}
use Rattle.atn.specs.Entries.{pdus}
use Rattle.atn.specs.Reading.{Ans, read}

-- the bits of its index
unfoldable pub index_bits : ℕ → ℕ
index_bits zero = 2
index_bits (suc d) = 3

unfoldable pub pdu_at : ℕ → List ℕ → List ℕ → List ℕ → ℕ → ℕ → Ans
pdu_at d down up s e p = read (pdus d down up) (0, 0) (bit_of s) e p
