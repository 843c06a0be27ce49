-- How long the header of a message is.
use Rattle.std.specs.Prelude.{ℕ, ◌+◌, ◌*◌, ◌/◌, ◌%◌}

-- the bits behind the presence bits h: an identification of six, a reference of six if the first is set, a date and time of 33, and an acknowledgment of one if the second is set
unfoldable pub header_bits : ℕ → ℕ
header_bits h = 39 + h / 2 * 6 + h % 2
