-- The fields of the header as readings: functions of the window's end and the place.
use Rattle.std.specs.Prelude.{List, [], ◌∷◌, ℕ}
use Rattle.x691.specs.Bits.{bit_of}
use Rattle.atn.specs.Format.{num}
use Rattle.atn.specs.Messages.{date_time_group}
use Rattle.atn.specs.Reading.{Ans, ok, rec, fork, read}
use Rattle.atn.specs.Tags as tag
use Rattle.field_ranges.specs.Ends.{lowest, highest}

unfoldable pub number_field : ℕ → ℕ → List ℕ → ℕ → ℕ → Ans
number_field row t s e p = read (num t (lowest row) (highest row)) (0, 0) (bit_of s) e p

unfoldable pub maybe_number_field : ℕ → ℕ → ℕ → List ℕ → ℕ → ℕ → Ans
maybe_number_field has row t s e p = fork has (ok p [] 0) (number_field row t s e p)

unfoldable pub date_time_field : List ℕ → ℕ → ℕ → Ans
date_time_field s e p = read date_time_group (0, 0) (bit_of s) e p

unfoldable pub acknowledgment_field : ℕ → List ℕ → ℕ → ℕ → Ans
acknowledgment_field has s e p = fork has (ok p (rec tag.logical_ack 0 1 0 p ∷ []) 0) (read (num tag.logical_ack 0 1) (0, 0) (bit_of s) e p)
