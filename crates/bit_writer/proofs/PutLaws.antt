-- Laws of bits put, for every number of them.
use mathlib.Core.Path.{◌≡◌, refl, sym, ap, ◌∙◌}
use mathlib.Core.List.{List, [], ◌∷◌, ◌++◌}
use Prim.Native.Nat.{ℕ, zero, suc, ◌+◌, ◌*◌, ◌/◌, ◌%◌, ◌≤◌, ◌<◌}
use native.Mathlib.Nat.{add-zero, add-suc, suc-add, mod-eq_of_lt}
use native.Mathlib.Numerals.{add-one}
use native.Mathlib.Omega.{arith}
use lib.ListN.{length, take, drop, get_or}
use lib.Seq.{drop-set-lt, take-set-le}
use Rattle.x691.specs.Bits.{bit_of, bits_of, Spells}
use Rattle.x691.specs.Range.{All}
use Rattle.bit_writer.specs.Put.{set_bit, set_bits}
use Rattle.bit_writer.proofs.OneBit.{set_bit-length, set_bit-twice, set_bit_swap, set_bit-bit, set_bit-before, set_bit-after, set_bit-bytes}

-- bits side by side
pub set_bits-join : (s : List ℕ) (p : ℕ) (xs ys : List ℕ) → set_bits s p (xs ++ ys) ≡ set_bits (set_bits s p xs) (p + length xs) ys
unfolding set_bits
set_bits-join s p [] ys = rw add-zero
set_bits-join s p (x ∷ xs) ys = rw (add-suc, ← suc-add) (set_bits-join (set_bit s p x) (suc p) xs ys)

pub set_bits-length : (s : List ℕ) (p : ℕ) (xs : List ℕ) → length (set_bits s p xs) ≡ length s
unfolding set_bits
set_bits-length s p [] = refl
set_bits-length s p (x ∷ xs) = set_bits-length (set_bit s p x) (suc p) xs ∙ set_bit-length s p x

-- the first bit apart
pub set_bits-cons : (s : List ℕ) (p x : ℕ) (xs : List ℕ) → set_bits s p (x ∷ xs) ≡ set_bits (set_bit s p x) (p + 1) xs
unfolding set_bits
set_bits-cons s p x xs = rw add-one

-- into no bytes
pub set_bits-none : (p : ℕ) (xs : List ℕ) → set_bits [] p xs ≡ []
unfolding set_bits set_bit
set_bits-none p [] = refl
set_bits-none p (x ∷ xs) = set_bits-none (suc p) xs

-- a number of one bit
pub set_bits-one : (s : List ℕ) (p x : ℕ) → set_bits s p (bits_of 1 x) ≡ set_bit s p x
unfolding set_bits bits_of
set_bits-one s p x = ap (set_bit s p) (omega arith)

-- a bit put after those behind it
pub set_bits_under : (s : List ℕ) (p q y : ℕ) (ys : List ℕ) → p < q → set_bit (set_bits s q ys) p y ≡ set_bits (set_bit s p y) q ys
unfolding set_bits
set_bits_under s p q y [] h = refl
set_bits_under s p q y (z ∷ ys) h = set_bits_under (set_bit s q z) p (suc q) y ys (omega arith) ∙ ap (λ (l : List ℕ). set_bits l (suc q) ys) (sym (set_bit_swap s p q y z h))

-- and put again
pub set_bits_again : (s : List ℕ) (p q x y : ℕ) (ys : List ℕ) → p < q → set_bit (set_bits (set_bit s p x) q ys) p y ≡ set_bits (set_bit s p y) q ys
set_bits_again s p q x y ys h = set_bits_under (set_bit s p x) p q y ys h ∙ ap (λ (l : List ℕ). set_bits l q ys) (set_bit-twice s p x y)

-- one among several put again
pub set_bits_instead : (s : List ℕ) (p : ℕ) (xs : List ℕ) (x y : ℕ) (ys : List ℕ) → set_bit (set_bits s p (xs ++ x ∷ ys)) (p + length xs) y ≡ set_bits s p (xs ++ y ∷ ys)
unfolding set_bits
set_bits_instead s p xs x y ys =
    rw (set_bits-join s p xs (x ∷ ys), set_bits-join s p xs (y ∷ ys))
    (set_bits_again (set_bits s p xs) (p + length xs) (suc (p + length xs)) x y ys (omega arith))

-- the bits before and behind are as they were
pub set_bits-before : (s : List ℕ) (p : ℕ) (xs : List ℕ) (q : ℕ) → q < p → bit_of (set_bits s p xs) q ≡ bit_of s q
unfolding set_bits
set_bits-before s p [] q h = refl
set_bits-before s p (x ∷ xs) q h = set_bits-before (set_bit s p x) (suc p) xs q (omega arith) ∙ set_bit-before s p x q h

pub set_bits-after : (s : List ℕ) (p : ℕ) (xs : List ℕ) (q : ℕ) → p + length xs ≤ q → bit_of (set_bits s p xs) q ≡ bit_of s q
unfolding set_bits
set_bits-after s p [] q h = refl
set_bits-after s p (x ∷ xs) q h = set_bits-after (set_bit s p x) (suc p) xs q (omega arith) ∙ set_bit-after s p x q (omega arith)

-- the bits put are there
pub set_bits-bit : (s : List ℕ) (p : ℕ) (xs : List ℕ) (i : ℕ) → i < length xs → p + length xs ≤ length s * 8 → bit_of (set_bits s p xs) (p + i) ≡ get_or xs i 0 % 2
unfolding set_bits
set_bits-bit s p [] i l h = absurd (omega arith)
set_bits-bit s p (x ∷ xs) zero l h = rw add-zero (set_bits-before (set_bit s p x) (suc p) xs p (omega arith) ∙ set_bit-bit s p x (omega arith))
set_bits-bit s p (x ∷ xs) (suc i) l h = rw (add-suc, ← suc-add) (set_bits-bit (set_bit s p x) (suc p) xs i (omega arith) (omega (arith, set_bit-length s p x)))

pub set_bits_spells : (s : List ℕ) (p : ℕ) (xs : List ℕ) → All (λ c. c < 2) xs → p + length xs ≤ length s * 8 → Spells (bit_of (set_bits s p xs)) p xs
unfolding set_bits Spells
set_bits_spells s p [] b h = tt
set_bits_spells s p (x ∷ xs) b h = (
  set_bits-before (set_bit s p x) (suc p) xs p (omega arith) ∙ set_bit-bit s p x (omega arith) ∙ mod-eq_of_lt b.0,
  set_bits_spells (set_bit s p x) (suc p) xs b.1 (omega (arith, set_bit-length s p x)),
)

-- whole bytes before and behind are as they were
pub set_bits-front : (k : ℕ) (s : List ℕ) (p : ℕ) (xs : List ℕ) → 8 * k ≤ p → take k (set_bits s p xs) ≡ take k s
unfolding set_bits set_bit
set_bits-front k s p [] h = refl
set_bits-front k s p (x ∷ xs) h = set_bits-front k (set_bit s p x) (suc p) xs (omega arith) ∙ take-set-le k s (p / 8) _ (omega arith)

pub set_bits-behind : (k : ℕ) (s : List ℕ) (p : ℕ) (xs : List ℕ) → p + length xs ≤ 8 * k → drop k (set_bits s p xs) ≡ drop k s
unfolding set_bits set_bit
set_bits-behind k s p [] h = refl
set_bits-behind k s p (x ∷ xs) h = set_bits-behind k (set_bit s p x) (suc p) xs (omega arith) ∙ drop-set-lt k s (p / 8) _ (omega arith)

-- bytes stay bytes
pub set_bits-bytes : (s : List ℕ) (p : ℕ) (xs : List ℕ) → ((i : ℕ) → get_or s i 0 < 256) → (i : ℕ) → get_or (set_bits s p xs) i 0 < 256
unfolding set_bits
set_bits-bytes s p [] h i = h i
set_bits-bytes s p (x ∷ xs) h i = set_bits-bytes (set_bit s p x) (suc p) xs (set_bit-bytes s p x h) i
