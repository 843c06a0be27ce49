-- The first legs of a clearance.
use Rattle.std.specs.Prelude.{List, ℕ}
use Rattle.x691.specs.Bits.{bit_of}
use Rattle.atn.specs.Reading.{Ans, times, read}
use Rattle.atn.specs.Messages as message

-- i legs, with the places 1 to i in the clearance
abbrev pub legs_of : List ℕ → ℕ → ℕ → ℕ → Ans
legs_of s i e p = times (λ j q. read message.leg (0, j) (bit_of s) e q) 1 i p
