-- Laws of the bits of a number.
use mathlib.Core.Path.{◌≡◌}
use mathlib.Core.List.{List, [], ◌∷◌, ◌++◌}
use Prim.Native.Nat.{ℕ, zero, suc, ◌+◌, ◌/◌, ◌%◌, ◌^◌, ◌<◌}
use native.Mathlib.Nat.{zero-add, suc-add, add_comm, mod-lt, mod-eq_of_lt}
use native.Mathlib.Numerals.{one-add}
use lib.Pow.{pow_pos, shr-shr, shr_lt, field, mod-mod-pow}
use Rattle.x691.specs.Bits.{bits_of}
use Rattle.x691.specs.Range.{All}

-- the first m bits apart
pub bits_of-join : (m n v : ℕ) → v < 2 ^ (m + n) → bits_of (m + n) v ≡ bits_of m (v / 2 ^ n) ++ bits_of n (v % 2 ^ n)
unfolding bits_of
bits_of-join zero n v h = let l : v < 2 ^ n = rw zero-add at h in rw (zero-add, mod-eq_of_lt l)
bits_of-join (suc m) n v h =
    rw (suc-add, bits_of, bits_of-join m n (v % 2 ^ (m + n)) (mod-lt v (pow_pos (m + n))), field v m n, mod-mod-pow v m n, shr-shr v n m, add_comm n m)

-- each is 0 or 1
pub bits_of-below : (n v : ℕ) → v < 2 ^ n → All (λ c. c < 2) (bits_of n v)
unfolding bits_of
bits_of-below zero v h = tt
bits_of-below (suc n) v h = (shr_lt 1 n (rw one-add h), bits_of-below n (v % 2 ^ n) (mod-lt v (pow_pos n)))

pub below-join : (n : ℕ) (xs ys : List ℕ) → All (λ c. c < n) xs → All (λ c. c < n) ys → All (λ c. c < n) (xs ++ ys)
below-join n [] ys h k = k
below-join n (x ∷ xs) ys h k = (h.0, below-join n xs ys h.1 k)
