-- Laws of bits and of the numbers that they spell.
use mathlib.Core.Path.{◌≡◌, refl, sym, ap}
use mathlib.Core.List.{List, [], ◌∷◌, ◌++◌}
use Prim.Native.Nat.{ℕ, zero, suc, ◌+◌, ◌-◌, ◌*◌, ◌/◌, ◌%◌, ◌^◌, ◌≤◌, ◌<◌}
use native.Mathlib.Nat.{add-suc, suc-add, add-zero, mod-lt}
use native.Mathlib.Numerals.{add-one}
use native.Mathlib.Omega.{arith}
use lib.ListN.{length, get_or}
use lib.Arith.{digits_lt}
use lib.Pow.{split, high, low, pow_pos}
use Rattle.x691.specs.Bits.{bit_of, uint, bits_of, Spells}

-- what the theorems ask of the bits of a frame: each is 0 or 1, and equal bytes give equal bits
pub bit_of-lt : (s : List ℕ) (i : ℕ) → bit_of s i < 2
unfolding bit_of
bit_of-lt s i = omega arith

pub bit_of_agree : (s t : List ℕ) (n : ℕ) → ((i : ℕ) → i < n → get_or s i 0 ≡ get_or t i 0) → (i : ℕ) → i < n * 8 → bit_of s i ≡ bit_of t i
unfolding bit_of
bit_of_agree s t n h i l = rw (h (i / 8) (omega arith))

pub length-bits_of : (n v : ℕ) → length (bits_of n v) ≡ n
unfolding bits_of
length-bits_of zero v = refl
length-bits_of (suc n) v = ap suc (length-bits_of n (v % 2 ^ n))

pub spells_join : (b : ℕ → ℕ) (at : ℕ) (xs ys : List ℕ) → Spells b at xs → Spells b (at + length xs) ys → Spells b at (xs ++ ys)
unfolding Spells
spells_join b at [] ys p q = rw add-zero at q
spells_join b at (x ∷ xs) ys p q = (p.0, spells_join b (suc at) xs ys p.1 (rw (add-suc, ← suc-add) at q))

pub spells_fst : (b : ℕ → ℕ) (at : ℕ) (xs ys : List ℕ) → Spells b at (xs ++ ys) → Spells b at xs
unfolding Spells
spells_fst b at [] ys p = tt
spells_fst b at (x ∷ xs) ys p = (p.0, spells_fst b (suc at) xs ys p.1)

pub spells_snd : (b : ℕ → ℕ) (at : ℕ) (xs ys : List ℕ) → Spells b at (xs ++ ys) → Spells b (at + length xs) ys
unfolding Spells
spells_snd b at [] ys p = rw add-zero p
spells_snd b at (x ∷ xs) ys p = rw (add-suc, ← suc-add) (spells_snd b (suc at) xs ys p.1)

pub uint-lt : (b : ℕ → ℕ) → ((i : ℕ) → b i < 2) → (at n : ℕ) → uint b at n < 2 ^ n
unfolding uint
uint-lt b h at zero = omega arith
uint-lt b h at (suc n) = omega (arith, digits_lt (h at) (uint-lt b h (suc at) n))

-- a number that fits n bits is read back from its bits
pub uint_back : (b : ℕ → ℕ) (at n v : ℕ) → v < 2 ^ n → Spells b at (bits_of n v) → uint b at n ≡ v
unfolding uint bits_of Spells
uint_back b at zero v h s = omega arith
uint_back b at (suc n) v h s = rw (s.0, uint_back b (suc at) n (v % 2 ^ n) (mod-lt v (pow_pos n)) s.1) (split v n)

-- what is read is spelt there
pub uint_spells : (b : ℕ → ℕ) → ((i : ℕ) → b i < 2) → (at n : ℕ) → Spells b at (bits_of n (uint b at n))
unfolding uint bits_of Spells
uint_spells b h at zero = tt
uint_spells b h at (suc n) =
    let l : uint b (suc at) n < 2 ^ n = uint-lt b h (suc at) n in
    (sym (high (b at) n l), rw (low (b at) n l) (uint_spells b h (suc at) n))

-- reading looks only at its places
pub uint_agree : (b c : ℕ → ℕ) (at n : ℕ) → ((i : ℕ) → at ≤ i → i < at + n → b i ≡ c i) → uint b at n ≡ uint c at n
unfolding uint
uint_agree b c at zero h = refl
uint_agree b c at (suc n) h = rw (h at (omega arith) (omega arith), uint_agree b c (suc at) n (λ i l u. h i (omega arith) (omega arith)))

pub uint-one : (b : ℕ → ℕ) (at : ℕ) → uint b at 1 ≡ b at
unfolding uint
uint-one b at = omega arith

-- one bit more
pub more : (b : ℕ → ℕ) (at n : ℕ) → uint b at (suc n) ≡ uint b at n * 2 + b (at + n)
unfolding uint
more b at zero = rw (add-zero at) (omega arith)
more b at (suc n) = rw (add-suc at n, ← (suc-add at n)) (let z : 2 ^ suc n ≡ 2 ^ n * 2 = omega arith in omega (arith, more b (suc at) n, ap (λ (x : ℕ). b at * x) z))

pub uint-more : (b : ℕ → ℕ) (at n : ℕ) → uint b at (n + 1) ≡ uint b at n * 2 + b (at + n)
uint-more b at n = rw add-one (more b at n)
