-- What the first bits of a frame are that is a send, or a start of the uplink, in the form that most have.
use Rattle.std.specs.Prelude.{◌≡◌, ◌⊎◌, List, ℕ, zero, suc, ◌+◌, ◌*◌, ◌≤◌, ◌<◌, length}
use Rattle.x691.specs.Bits.{bit_of, uint}
use Rattle.pdus.specs.Pdus.{index_bits}
use Rattle.sends.specs.declared.Send.{Send}

-- the table of the direction
unfoldable pub table_of : ℕ → List ℕ → List ℕ → List ℕ
table_of zero down up = down
table_of (suc d) down up = up

-- the alternatives that are a protected message and nothing else: a send, and of the uplink a start
abbrev pub Protected : ℕ → ℕ → Type 0
Protected d index = (index ≡ 3) ⊎ ((index ≡ 2) × (d ≡ 0 → ⊥))

-- a length at p, in its shortest form, and the bit behind it: "each length below 16,384 and in its shortest form" (X.691, 11.9)
pub data Shortest (b : ℕ → ℕ) (p n q : ℕ) : Type 0 where
  one_octet : n < 128 → uint b p 8 ≡ n → q ≡ p + 8 → Shortest b p n q
  two_octets : 128 ≤ n → n < 16384 → uint b p 16 ≡ 32768 + n → q ≡ p + 16 → Shortest b p n q

-- the choice's extension bit is clear, then its index; of the protected message the extension bit is clear, there is no algorithm, and there is a message; then the length of its string, which begins at `at`
pub record Sends (d : ℕ) (s : List ℕ) (r : Send) : Type 0 where
  pub named : Protected d r.index
  pub head : uint (bit_of s) 0 (index_bits d + 4) ≡ r.index * 8 + 1
  pub sized : Shortest (bit_of s) (index_bits d + 4) r.count r.at
  pub held : r.at ≤ length s * 8
