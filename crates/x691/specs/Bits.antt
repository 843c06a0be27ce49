-- Bits, and the numbers that they spell.
use Rattle.std.specs.Prelude.{◌≡◌, List, [], ◌∷◌, ℕ, zero, suc, ◌+◌, ◌-◌, ◌*◌, ◌/◌, ◌%◌, ◌^◌, get_or}

-- the bits of a list of bytes, from the top of each byte; behind the last byte all are 0
unfoldable pub bit_of : List ℕ → ℕ → ℕ
bit_of s i = get_or s (i / 8) 0 / 2 ^ (7 - i % 8) % 2

-- the number that the n bits from `at` on spell, the first bit the highest (X.691 10.3)
unfoldable pub uint : (ℕ → ℕ) → ℕ → ℕ → ℕ
uint b at zero = 0
uint b at (suc n) = b at * 2 ^ n + uint b (suc at) n

-- v as n bits, the highest first (X.691 10.3)
unfoldable pub bits_of : ℕ → ℕ → List ℕ
bits_of zero v = []
bits_of (suc n) v = v / 2 ^ n ∷ bits_of n (v % 2 ^ n)

-- from the place `at` on stand these bits
unfoldable pub Spells : (ℕ → ℕ) → ℕ → List ℕ → Type 0
Spells b at [] = Unit {0}
Spells b at (x ∷ xs) = (b at ≡ x) × Spells b (suc at) xs

-- n bits from the place q on, as a list
unfoldable pub stretch : (ℕ → ℕ) → ℕ → ℕ → List ℕ
stretch b q zero = []
stretch b q (suc n) = b q ∷ stretch b (suc q) n
