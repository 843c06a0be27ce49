-- The data of a message and the message as readings: functions of the window's end and the place.
use Rattle.std.specs.Prelude.{List, [], ℕ}
use Rattle.x691.specs.Bits.{bit_of}
use Rattle.atn.specs.Messages.{constrained_data, message_data, atc_message}
use Rattle.atn.specs.Reading.{Ans, ok, fork, read}

unfoldable pub data_at : List ℕ → List ℕ → ℕ → ℕ → Ans
data_at table s e p = read (message_data table) (0, 0) (bit_of s) e p

unfoldable pub message_at : List ℕ → List ℕ → ℕ → ℕ → Ans
message_at table s e p = read (atc_message table) (0, 0) (bit_of s) e p

-- the constrained data, if it is there
unfoldable pub constrained_at : ℕ → List ℕ → ℕ → ℕ → Ans
constrained_at has s e p = fork has (ok p [] 0) (read constrained_data (0, 0) (bit_of s) e p)
