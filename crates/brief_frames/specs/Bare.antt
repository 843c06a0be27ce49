-- What the first bits of a frame are that names no message.
use Rattle.std.specs.Prelude.{◌≡◌, ◌⊎◌, List, ℕ, ◌≤◌, length}
use Rattle.x691.specs.Bits.{bit_of, uint}
use Rattle.pdus.specs.Pdus.{index_bits}

-- the alternatives without a message are the reasons, and of the uplink what is no alternative
abbrev pub Apart : ℕ → ℕ → Type 0
Apart d index = (index ≤ 1) ⊎ ((d ≡ 1) × (5 ≤ index))

-- no bit is there, the extension bit is set, or the index is that of such an alternative
pub data Bare (d : ℕ) (s : List ℕ) : Type 0 where
  empty : length s ≡ 0 → Bare d s
  extended : uint (bit_of s) 0 1 ≡ 1 → Bare d s
  apart : Apart d (uint (bit_of s) 1 (index_bits d)) → Bare d s
