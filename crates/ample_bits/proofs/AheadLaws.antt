-- What is cut off a word that has bits at its top.
use mathlib.Core.Path.{◌≡◌, refl, sym, ap, ◌∙◌}
use mathlib.Core.List.{List}
use Prim.Native.Nat.{ℕ, zero, suc, ◌+◌, ◌-◌, ◌*◌, ◌/◌, ◌%◌, ◌^◌, ◌≤◌}
use native.Mathlib.Nat.{add-zero, zero-mul, zero-div, mul-mod_left}
use native.Mathlib.Omega.{arith}
use lib.ListN.{length, get_or-eq_default}
use lib.Pow.{mod-pow-add, shr-shr, shl-shr, field, high, low}
use Rattle.x691.specs.Bits.{bit_of, uint}
use Rattle.per.proofs.Laws.{uint-below, uint-split}
use Rattle.ample_bits.specs.Ahead.{Ahead}

module _ {s : List ℕ} {p j v : ℕ} (a : Ahead s p j v) where
  -- the first n are the n bits from p on
  pub first-spelt : (n : ℕ) → n ≤ j → v / 2 ^ (64 - n) ≡ uint (bit_of s) p n
  first-spelt n h =
      let b = bit_of s in
      let e : 64 - n ≡ 64 - j + (j - n) = omega (arith, a.most) in
      let f : j ≡ n + (j - n) = omega arith in
      ap (λ (x : ℕ). v / 2 ^ x) e ∙ sym (shr-shr v (64 - j) (j - n)) ∙ ap (λ (x : ℕ). x / 2 ^ (j - n)) (a.spelt ∙ ap (λ (x : ℕ). uint b p x) f ∙ uint-split b p n (j - n))
      ∙ high (uint b p n) (j - n) (uint-below s (p + n) (j - n))

  -- behind the first k stand those from p + k on
  pub behind-ahead : (k : ℕ) → k ≤ j → Ahead s (p + k) (j - k) (v * 2 ^ k % 2 ^ 64)
  behind-ahead k h =
      let b = bit_of s in
      let m : ℕ = j - k in
      let e : 64 ≡ m + (64 - m) = omega (arith, a.most) in
      let f : 64 - m ≡ k + (64 - j) = omega (arith, a.most) in
      let g : j ≡ k + m = omega arith in
      record {
        most = omega (arith, a.most);
        spelt =
            ap (λ (x : ℕ). v * 2 ^ k % 2 ^ x / 2 ^ (64 - m)) e ∙ field (v * 2 ^ k) m (64 - m)
            ∙ ap (λ (x : ℕ). x % 2 ^ m) (ap (λ (x : ℕ). v * 2 ^ k / 2 ^ x) f ∙ sym (shr-shr (v * 2 ^ k) k (64 - j)) ∙ ap (λ (x : ℕ). x / 2 ^ (64 - j)) (shl-shr v k) ∙ a.spelt ∙ ap (λ (x : ℕ). uint b p x) g ∙ uint-split b p k m)
            ∙ low (uint b p k) m (uint-below s (p + k) m);
      }

-- the same at a place and in a word that are called otherwise
pub ahead-next : {s : List ℕ} {p j v q b : ℕ} (k : ℕ) → Ahead s p j v → q ≡ p + k → b ≡ v * 2 ^ k % 2 ^ 64 → k ≤ j → Ahead s q (j - k) b
ahead-next k a e f h = rw (e, f) (behind-ahead a k h)

pub ahead_fewer : {s : List ℕ} {p j v : ℕ} (k : ℕ) → Ahead s p j v → k ≤ j → Ahead s p k v
ahead_fewer k a h = record { most = omega (arith, a.most); spelt = first-spelt a k h }

-- a word that is 64 bits as a number
whole : {s : List ℕ} {p v : ℕ} → v ≡ uint (bit_of s) p 64 → Ahead s p 64 v
whole {v = v} q = record { most = omega arith; spelt = all ∙ q }
  where
    all : v / 2 ^ (64 - 64) ≡ v
    all = omega arith

-- of eight whole octets, behind the first o bits
pub octets-ahead : (s : List ℕ) (i o : ℕ) {v : ℕ} → o ≤ 7 → v ≡ uint (bit_of s) (8 * i) 64 → Ahead s (8 * i + o) 57 (v * 2 ^ o % 2 ^ 64)
octets-ahead s i o h q = ahead_fewer 57 (behind-ahead (whole q) o (omega arith)) (omega arith)

---------------------------------------------------------------- behind the end

bit-behind : (s : List ℕ) (p : ℕ) → length s * 8 ≤ p → bit_of s p ≡ 0
unfolding bit_of
bit-behind s p h = rw (get_or-eq_default s 0 {n = p / 8} (omega arith), zero-div (2 ^ (7 - p % 8)))

none-behind : (s : List ℕ) (p n : ℕ) → length s * 8 ≤ p → uint (bit_of s) p n ≡ 0
unfolding uint
none-behind s p zero h = refl
none-behind s p (suc n) h = rw (bit-behind s p h, none-behind s (suc p) n (omega arith), zero-mul (2 ^ n))

-- a word without bits
pub ahead_none : (s : List ℕ) (p : ℕ) → length s * 8 ≤ p → Ahead s p 57 0
ahead_none s p h = record { most = omega arith; spelt = zero-div (2 ^ 7) ∙ sym (none-behind s p 57 h) }

-- the last 64 bits of a frame less the first d, and behind them the d that it has not
pub ahead_edge : (s : List ℕ) (p d : ℕ) {v : ℕ} → v ≡ uint (bit_of s) p 64 → length s * 8 ≤ p + 64 → d ≤ 64 → Ahead s (p + d) 64 (v * 2 ^ d % 2 ^ 64)
ahead_edge s p d {v} q l h =
    let b = bit_of s in
    let m : ℕ = 64 - d in
    let e : 64 ≡ d + m = omega arith in
    let f : 64 ≡ m + d = omega arith in
    let w : v % 2 ^ m ≡ uint b (p + d) m = ap (λ (x : ℕ). x % 2 ^ m) (q ∙ ap (λ (x : ℕ). uint b p x) e ∙ uint-split b p d m) ∙ low (uint b p d) m (uint-below s (p + d) m) in
    let up : v * 2 ^ d % 2 ^ 64 ≡ v % 2 ^ m * 2 ^ d = ap (λ (x : ℕ). v * 2 ^ d % 2 ^ x) f ∙ mod-pow-add (v * 2 ^ d) m d ∙ rw (shl-shr v d, mul-mod_left v (2 ^ d)) (add-zero _) in
    let all : uint b (p + d) 64 ≡ uint b (p + d) m * 2 ^ d = ap (λ (x : ℕ). uint b (p + d) x) f ∙ uint-split b (p + d) m d ∙ rw (none-behind s (p + d + m) d (omega arith)) (add-zero _) in
    whole (up ∙ rw w (sym all))
