-- What it is for a message to be written as the bits that it was read from.
use Rattle.std.specs.Prelude.{◌≡◌, List, ℕ, ◌-◌, ◌*◌, ◌%◌, ◌≤◌, ◌<◌, length}
use Rattle.x691.specs.Bits.{bit_of, uint}

-- the first n bits are the same
pub record SameBits (a b : List ℕ) (n : ℕ) : Type 0 where
  pub at : (k : ℕ) → k < n → bit_of a k ≡ bit_of b k

-- n bits are written, as many as were read; both stand in their bytes and are the same, and the rest of the last byte written is 0
pub record SameMessage (written : List ℕ) (n : ℕ) (frame : List ℕ) (reach : ℕ) : Type 0 where
  pub as_many : n ≡ reach
  pub stands : n ≤ length written * 8
  pub stood : n ≤ length frame * 8
  pub padded : uint (bit_of written) n ((8 - n % 8) % 8) ≡ 0
  pub bits : SameBits written frame n
