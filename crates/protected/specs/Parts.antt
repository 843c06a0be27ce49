-- The parts of a protected message as readings: functions of the window's end and the place.
use Rattle.std.specs.Prelude.{List, [], ◌∷◌, ℕ}
use Rattle.x691.specs.Bits.{bit_of}
use Rattle.atn.specs.Format.{skipped}
use Rattle.atn.specs.Messages.{protected_message}
use Rattle.atn.specs.Reading.{rec, Ans, ok, fork, read}
use Rattle.atn.specs.Tags as tag
use Rattle.inner_messages.specs.Parts.{inner_at}

-- the octets of an algorithm, if they are there; the inner message, or the record that there is none
unfoldable pub algorithm : ℕ → List ℕ → ℕ → ℕ → Ans
algorithm has s e p = fork has (ok p [] 0) (read (skipped 4) (0, 0) (bit_of s) e p)

unfoldable pub message_part : ℕ → List ℕ → List ℕ → ℕ → ℕ → Ans
message_part has table s e p = fork has (ok p (rec tag.empty 0 1 0 p ∷ []) 0) (inner_at table s e p)

unfoldable pub protected : List ℕ → List ℕ → ℕ → ℕ → Ans
protected table s e p = read (protected_message table) (0, 0) (bit_of s) e p
