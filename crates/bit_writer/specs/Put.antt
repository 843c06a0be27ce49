-- Bits put into a list of bytes. A bit's place counts from the top of the first byte.
use Rattle.std.specs.Prelude.{List, [], ◌∷◌, ℕ, suc, ◌+◌, ◌-◌, ◌*◌, ◌/◌, ◌%◌, ◌^◌, get_or, set}

-- the byte v with its bit i, from the top, made x, of which only whether it is odd counts
unfoldable pub in_byte : ℕ → ℕ → ℕ → ℕ
in_byte v i x = v / 2 ^ (8 - i) * 2 ^ (8 - i) + x % 2 * 2 ^ (7 - i) + v % 2 ^ (7 - i)

-- bit p of the bytes made x; past the last byte nothing changes
unfoldable pub set_bit : List ℕ → ℕ → ℕ → List ℕ
set_bit s p x = set s (p / 8) (in_byte (get_or s (p / 8) 0) (p % 8) x)

-- these bits from place p on
unfoldable pub set_bits : List ℕ → ℕ → List ℕ → List ℕ
set_bits s p [] = s
set_bits s p (x ∷ xs) = set_bits (set_bit s p x) (suc p) xs
