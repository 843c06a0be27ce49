-- Laws of the numbers that bits spell, each for every width.
use Rattle.std.proofs.Common.{◌≡◌, ℕ, zero, suc, ◌+◌, ◌-◌, ◌*◌, ◌/◌, ◌%◌, ◌^◌, ◌<◌, ◌≤◌, Bool, true, false, leb, List, get_or, take, drop, refl, ap, add-zero, add_assoc, add-suc, mod-eq_of_lt, mul_assoc, one-mul, pow-suc, add-one, arith, lit<, get_or-drop, get_or-take, pow_pos, shr-shr, le-leb}
use native.Mathlib.Nat.{pow-le-pow_right}
use lib.Pow.{mod-pow-add, high, low, pow-lt}
use borrow.Author.Tests.{lt-leb}
use Rattle.x691.specs.Bits.{bit_of, uint}
use Rattle.x691.proofs.BitLaws.{bit_of-lt, uint-lt, more}

pub uint-below : (s : List ℕ) (at n : ℕ) → uint (bit_of s) at n < 2 ^ n
uint-below s at n = uint-lt (bit_of s) (bit_of-lt s) at n

-- and so below 2 ^ w for every w that is at least n
pub uint-below-wide : (w : ℕ) (s : List ℕ) (at n : ℕ) → n ≤ w → uint (bit_of s) at n < 2 ^ w
uint-below-wide w s at n h = omega (arith, uint-below s at n, pow-le-pow_right {n = 2} (lit< tt) h)

nothing : (b : ℕ → ℕ) (at : ℕ) → uint b at 0 ≡ 0
unfolding uint
nothing b at = refl

-- bits side by side
pub uint-split : (b : ℕ → ℕ) (at m n : ℕ) → uint b at (m + n) ≡ uint b at m * 2 ^ n + uint b (at + m) n
uint-split b at m zero = rw (add-zero m, nothing b (at + m)) (omega arith)
uint-split b at m (suc n) =
    rw (add-suc, more b at (m + n), more b (at + m) n, pow-suc)
    (omega (arith, uint-split b at m n, ap b (add_assoc at m n), mul_assoc (uint b at m) (2 ^ n) 2))

-- the same bits k places on spell the same number
pub uint_moved : (b c : ℕ → ℕ) (k at n : ℕ) → ((i : ℕ) → at ≤ i → i < at + n → b i ≡ c (k + i)) → uint b at n ≡ uint c (k + at) n
unfolding uint
uint_moved b c k at zero h = refl
uint_moved b c k at (suc n) h = rw (h at (omega arith) (omega arith), uint_moved b c k (suc at) n (λ i l u. h i (omega arith) (omega arith)), add-suc)

-- a part of a frame, m octets from octet a on, has the frame's bits
pub bit_of-part : (s : List ℕ) (a m p : ℕ) → p < 8 * m → bit_of (take m (drop a s)) p ≡ bit_of s (8 * a + p)
unfolding bit_of
bit_of-part s a m p h =
    let e : (8 * a + p) / 8 ≡ a + p / 8 = omega arith in
    let f : (8 * a + p) % 8 ≡ p % 8 = omega arith in
    let g : p / 8 < m = omega arith in
    rw (get_or-take, get_or-drop, e, f)

-- n bits out of a longer run, behind o others and before r
pub uint-within : (s : List ℕ) (at o n r : ℕ) → uint (bit_of s) (at + o) n ≡ uint (bit_of s) at (o + n + r) / 2 ^ r % 2 ^ n
uint-within s at o n r =
    let b = bit_of s in
    rw (uint-split b at (o + n) r, high (uint b at (o + n)) r (uint-below s (at + (o + n)) r), uint-split b at o n, low (uint b at o) n (uint-below s (at + o) n))

-- the machine's `1 << n`, by whose remainder the code keeps n bits
pub one_shl : (n : ℕ) → n < 64 → 1 * 2 ^ n % 2 ^ 64 ≡ 2 ^ n
one_shl n h = rw one-mul (mod-eq_of_lt (pow-lt h))

pub one-shl_pos : (n : ℕ) → n < 64 → 0 < 1 * 2 ^ n % 2 ^ 64
one-shl_pos n h = rw (one_shl n h) (pow_pos n)

-- the code's shift: size - n less skip, as the machine subtracts and modulo 64, where v has the bits. It is 64 for no bits only.
pub shifted : (v size skip n : ℕ) {w : ℕ} → w < 2 ^ 64 → size ≤ 64 → skip + n ≤ size → (w + skip) % 2 ^ 64 ≡ size - n
    → v / 2 ^ (w % 64) % 2 ^ n ≡ v / 2 ^ (size - (skip + n)) % 2 ^ n
shifted v size skip zero {w} k l b e = omega arith
shifted v size skip (suc n) {w} k l b e = let f : w % 64 ≡ size - (skip + suc n) = omega arith in rw f

-- r, cut out of v, the number of the k octets from octet i on, behind the first o bits
pub uint-cut : (s : List ℕ) (at n i o k : ℕ) {v r : ℕ} → at ≡ 8 * i + o → o + n ≤ 8 * k → v ≡ uint (bit_of s) (8 * i) (8 * k)
    → (o + n ≤ 8 * k → r ≡ v / 2 ^ (8 * k - (o + n)) % 2 ^ n) → r ≡ uint (bit_of s) at n
uint-cut s at n i o k e l v r =
    let f : o + n + (8 * k - (o + n)) ≡ 8 * k = omega arith in
    rw (r l, e, v, uint-within s (8 * i) o n (8 * k - (o + n)), f)

-- whole octets side by side
pub octets-join : (s : List ℕ) (i j k : ℕ) → uint (bit_of s) (8 * i) (8 * j) * 2 ^ (8 * k) + uint (bit_of s) (8 * (i + j)) (8 * k) ≡ uint (bit_of s) (8 * i) (8 * (j + k))
octets-join s i j k =
    let e : 8 * (j + k) ≡ 8 * j + 8 * k = omega arith in
    let f : 8 * i + 8 * j ≡ 8 * (i + j) = omega arith in
    rw (e, uint-split (bit_of s) (8 * i) (8 * j) (8 * k), f)

-- one more digit of a quotient
digit : (x k n : ℕ) → x / 2 ^ suc k % 2 ^ n * 2 + x / 2 ^ k % 2 ≡ x / 2 ^ k % 2 ^ suc n
digit x k n = rw (← add-one n, mod-pow-add (x / 2 ^ k) n 1, shr-shr x k 1, add-one k)

-- n bits that lie within one octet
within-octet : (s : List ℕ) (p n : ℕ) → p % 8 + n ≤ 8 → uint (bit_of s) p n ≡ get_or s (p / 8) 0 / 2 ^ (8 - (p % 8 + n)) % 2 ^ n
unfolding bit_of
within-octet s p zero h = omega (arith, uint-below s p 0)
within-octet s p (suc n) h =
    let e : (p + n) / 8 ≡ p / 8 = omega arith in
    let f : 7 - (p + n) % 8 ≡ 8 - (p % 8 + suc n) = omega arith in
    let g : 8 - (p % 8 + n) ≡ suc (8 - (p % 8 + suc n)) = omega arith in
    rw (more (bit_of s) p n, within-octet s p n (omega arith), e, f, g) (digit (get_or s (p / 8) 0) (8 - (p % 8 + suc n)) n)

-- the eight bits of an octet spell it
pub uint-octet : (s : List ℕ) (i : ℕ) → get_or s i 0 < 256 → uint (bit_of s) (8 * i) 8 ≡ get_or s i 0
uint-octet s i h =
    let e : 8 * i / 8 ≡ i = omega arith in
    let f : 8 - (8 * i % 8 + 8) ≡ 0 = omega arith in
    rw (within-octet s (8 * i) 8 (omega arith), e, f) (omega arith)

-- four octets
pub four-octets : (s : List ℕ) (i : ℕ) → ((k : ℕ) → get_or s k 0 < 256)
    → (get_or s i 0 * 256 + get_or s (i + 1) 0) * 65536 + (get_or s (i + 2) 0 * 256 + get_or s (i + 3) 0) ≡ uint (bit_of s) (8 * i) 32
four-octets s i g =
    let octet : (k : ℕ) → uint (bit_of s) (8 * k) 8 ≡ get_or s k 0 = λ k. uint-octet s k (g k) in
    let e : i + 2 + 1 ≡ i + 3 = omega arith in
    omega (arith, octet i, octet (i + 1), octet (i + 2), octet (i + 3), octets-join s i 1 1, rw e at (octets-join s (i + 2) 1 1), octets-join s i 2 2)

-- a test that is true where a ≤ b and false where not
pub leb_tells : (t : Bool) (a b : ℕ) → (t ≡ true → a ≤ b) → (t ≡ false → b < a) → t ≡ leb a b
leb_tells true a b f g = rw (le-leb a b (f refl))
leb_tells false a b f g = rw (lt-leb a b (g refl))
