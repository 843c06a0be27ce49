-- Bits of one number replaced: the n bits above its lowest k made those of x.
use mathlib.Core.Path.{◌≡◌, sym, ap, ◌∙◌}
use Prim.Native.Nat.{ℕ, zero, suc, ◌+◌, ◌-◌, ◌*◌, ◌/◌, ◌%◌, ◌^◌, ◌≤◌, ◌<◌}
use native.Mathlib.Nat.{suc-add, zero-add, add-zero, add_comm, add_assoc, add-mul, mul_assoc, mul_comm, mod-lt, pow-suc}
use native.Mathlib.Numerals.{add-one}
use native.Mathlib.Omega.{arith}
use lib.Pow.{pow_pos, pow-add, shr-shr, shr_lt, mod-pow-add, split, high}
use lib.Arith.{digits_lt}

unfoldable pub replaced : ℕ → ℕ → ℕ → ℕ → ℕ
replaced v k n x = v / 2 ^ (k + n) * 2 ^ (k + n) + x * 2 ^ k + v % 2 ^ k

shr-suc : (v k : ℕ) → v / 2 ^ suc k ≡ v / 2 / 2 ^ k
shr-suc v k = ap (λ (e : ℕ). v / 2 ^ e) (omega arith) ∙ sym (shr-shr v 1 k)

-- the lowest bit apart, which is not among those replaced
half : (v k n x : ℕ) → replaced v (suc k) n x ≡ replaced (v / 2) k n x * 2 + v % 2
unfolding replaced
half v k n x =
    let c : v % 2 ^ suc k ≡ v / 2 % 2 ^ k * 2 + v % 2 = rw (← add-one k) (mod-pow-add v k 1) in
    rw (suc-add, shr-suc v (k + n), c, pow-suc 2 (k + n), pow-suc 2 k)
    (omega (arith, mul_assoc (v / 2 / 2 ^ (k + n)) (2 ^ (k + n)) 2, mul_assoc x (2 ^ k) 2))

half_div : (v k n x : ℕ) → replaced v (suc k) n x / 2 ≡ replaced (v / 2) k n x
half_div v k n x = omega (arith, half v k n x)

half_mod : (v k n x : ℕ) → replaced v (suc k) n x % 2 ≡ v % 2
half_mod v k n x = omega (arith, half v k n x)

-- the lowest bits
lowest : (v n x : ℕ) → replaced v 0 n x ≡ v / 2 ^ n * 2 ^ n + x
unfolding replaced
lowest v n x = rw zero-add (omega arith)

digits : (q a p b : ℕ) → q * (p * 2) + (a * p + b) ≡ (q * 2 + a) * p + b
digits q a p b = rw (add-mul, mul_assoc q 2 p, mul_comm 2 p) (omega arith)

above : (v n a : ℕ) → replaced v n 1 a / 2 ^ n ≡ v / 2 ^ suc n * 2 + a
unfolding replaced
above v n a =
    rw (add-one, pow-suc 2 n)
    (ap (λ (w : ℕ). w / 2 ^ n) (add_assoc _ _ _ ∙ digits (v / (2 ^ n * 2)) a (2 ^ n) (v % 2 ^ n)) ∙ high (v / (2 ^ n * 2) * 2 + a) n (mod-lt v (pow_pos n)))

-- a bit, and n bits below it, are n + 1 bits
pub replaced-more : (v k n a b : ℕ) → replaced (replaced v (k + n) 1 a) k n b ≡ replaced v k (suc n) (a * 2 ^ n + b)
replaced-more v zero n a b = rw (zero-add, lowest (replaced v n 1 a) n b, lowest v (suc n), above, pow-suc 2 n) (sym (digits (v / (2 ^ n * 2)) a (2 ^ n) b))
replaced-more v (suc k) n a b = rw (suc-add, half (replaced v (suc (k + n)) 1 a), half_div, half_mod, replaced-more (v / 2) k n a b, half v k (suc n))

-- a bit again
pub bit_again : (v k x y : ℕ) → x < 2 → replaced (replaced v k 1 x) k 1 y ≡ replaced v k 1 y
bit_again v zero x y h = rw (lowest (replaced v 0 1 x), lowest v 1 x, lowest v 1 y) (omega arith)
bit_again v (suc k) x y h = rw (half (replaced v (suc k) 1 x), half_div, half_mod, bit_again (v / 2) k x y h, half v k 1 y)

-- two bits in either order
pub bits_swap : (v k l x y : ℕ) → l < k → y < 2 → replaced (replaced v k 1 x) l 1 y ≡ replaced (replaced v l 1 y) k 1 x
bits_swap v zero l x y h u = absurd (omega arith)
bits_swap v (suc k) zero x y h u =
    let e : replaced v 0 1 y / 2 ≡ v / 2 = omega (arith, lowest v 1 y) in
    rw (lowest (replaced v (suc k) 1 x), half_div, half (replaced v 0 1 y), e) (omega (arith, lowest v 1 y))
bits_swap v (suc k) (suc l) x y h u =
    rw (half (replaced v (suc k) 1 x), half_div, half_mod, half (replaced v (suc l) 1 y), half_div v l, half_mod v l, bits_swap (v / 2) k l x y (omega arith) u)

-- the bit that was put, and another
pub bit-put : (v k x : ℕ) → x < 2 → replaced v k 1 x / 2 ^ k % 2 ≡ x
bit-put v zero x h = omega (arith, lowest v 1 x)
bit-put v (suc k) x h = rw (shr-suc, half_div) (bit-put (v / 2) k x h)

pub bit-higher : (v k l x : ℕ) → k < l → x < 2 → replaced v k 1 x / 2 ^ l % 2 ≡ v / 2 ^ l % 2
bit-higher v k zero x h u = absurd (omega arith)
bit-higher v zero (suc l) x h u =
    let e : replaced v 0 1 x / 2 ≡ v / 2 = omega (arith, lowest v 1 x) in
    rw (shr-suc (replaced v 0 1 x) l, e, shr-suc v l)
bit-higher v (suc k) (suc l) x h u = rw (shr-suc (replaced v (suc k) 1 x) l, half_div, shr-suc v l) (bit-higher (v / 2) k l x (omega arith) u)

pub bit-lower : (v k l x : ℕ) → l < k → replaced v k 1 x / 2 ^ l % 2 ≡ v / 2 ^ l % 2
bit-lower v zero l x h = absurd (omega arith)
bit-lower v (suc k) zero x h = omega (arith, half_mod v k 1 x)
bit-lower v (suc k) (suc l) x h = rw (shr-suc (replaced v (suc k) 1 x) l, half_div, shr-suc v l) (bit-lower (v / 2) k l x (omega arith))

-- no bit replaced
pub replaced-none : (v k : ℕ) → replaced v k 0 0 ≡ v
unfolding replaced
replaced-none v k = rw add-zero (omega (arith, split v k))

-- a number of w bits keeps to them
pub replaced-lt : (w v k n x : ℕ) → k + n ≤ w → v < 2 ^ w → x < 2 ^ n → replaced v k n x < 2 ^ w
unfolding replaced
replaced-lt w v k n x h l u =
    let e : w ≡ w - (k + n) + (k + n) = omega arith in
    let f : x * 2 ^ k + v % 2 ^ k < 2 ^ (k + n) = rw (add_comm k n, pow-add 2 n k) (digits_lt u (mod-lt v (pow_pos k))) in
    let g : v / 2 ^ (k + n) < 2 ^ (w - (k + n)) = shr_lt (w - (k + n)) (k + n) (rw (← e) l) in
    let r : 2 ^ w ≡ 2 ^ (w - (k + n)) * 2 ^ (k + n) = ap (λ (z : ℕ). 2 ^ z) e ∙ pow-add 2 (w - (k + n)) (k + n) in
    rw (r, add_assoc) (digits_lt g f)
