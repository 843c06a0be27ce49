-- The characters of a word, the first in the highest octet, as X.680 has them.
use Rattle.std.specs.Prelude.{cond, ℕ, zero, suc, ◌+◌, ◌-◌, ◌*◌, ◌/◌, ◌%◌, ◌^◌, eqb}

-- the digit 0 was the first unit, which is the space; each other is one less
unfoldable pub spaced_octet : ℕ → ℕ
spaced_octet x = cond (eqb x 0) 0 (cond (eqb x 48) 32 (x - 1))

-- the k lowest octets of v, the highest first
unfoldable pub spaced_octets : ℕ → ℕ → ℕ
spaced_octets zero v = 0
spaced_octets (suc k) v = spaced_octet (v / 256 ^ k) * 256 ^ k + spaced_octets k (v % 256 ^ k)
