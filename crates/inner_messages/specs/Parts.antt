-- What stands in inner strings as readings: functions of the window's end and the place.
use Rattle.std.specs.Prelude.{false, List, ℕ}
use Rattle.x691.specs.Bits.{bit_of}
use Rattle.atn.specs.Format.{inner}
use Rattle.atn.specs.Messages.{atc_message}
use Rattle.atn.specs.Reading.{Ans, laxly, read}
use Rattle.message.specs.Data.{data_at}

-- a message in its inner string
unfoldable pub inner_at : List ℕ → List ℕ → ℕ → ℕ → Ans
inner_at table s e p = read (inner (atc_message table)) (0, 0) (bit_of s) e p

-- data that may be given up
unfoldable pub lax_data : List ℕ → List ℕ → ℕ → ℕ → Ans
lax_data table s e p = laxly 7 false (data_at table s e p)
