-- Eight characters as one number.
use mathlib.Core.Path.{◌≡◌, refl, sym, ap, ◌∙◌}
use mathlib.Core.List.{List}
use Prim.Native.Nat.{ℕ, zero, suc, min, ◌+◌, ◌-◌, ◌*◌, ◌/◌, ◌%◌, ◌^◌, ◌≤◌, ◌<◌}
use native.Mathlib.Nat.{zero-mul, suc-mul, mul-zero, mul-suc, mul-le-mul_right, add-zero, add-suc, add-mul, pow-suc, div-one, zero-min, min-zero, suc-min-suc, suc-sub-suc}
use native.Mathlib.Omega.{arith}
use lib.ListN.{length}
use lib.Arith.{digits_lt}
use lib.Pow.{pow-add, pow_mono, high, low, shr-shr, shl_exact}
use Rattle.x691.specs.Bits.{bit_of, uint}
use Rattle.per.proofs.Laws.{uint-below, uint-split}
use Rattle.atn.specs.Reading.{octets, coded, units}
use Rattle.tell.specs.declared.characters.Run.{Run}
use Rattle.tell.specs.Characters.{counted, Spelt, widened}
use Rattle.tell.proofs.WideningLaws.{ones, widened_fewer}

pow-octets : (j : ℕ) → 256 ^ j ≡ 2 ^ (8 * j)
pow-octets zero = refl
pow-octets (suc j) = rw (mul-suc 8 j, pow-add 2 (8 * j) 8, pow-suc 256 j, pow-octets j)

ones_shifted : (k j : ℕ) → ones 8 (k + j) / 2 ^ (8 * j) ≡ ones 8 k
unfolding ones
ones_shifted k zero = rw add-zero (div-one (ones 8 k))
ones_shifted k (suc j) =
    let e : 8 * suc j ≡ 8 + 8 * j = omega arith in
    rw (e, add-suc, ← shr-shr (ones 8 (k + j) * 2 ^ 8 + 1) 8 (8 * j), high (ones 8 (k + j)) 8 {lo = 1} (omega arith)) (ones_shifted k j)

-- k of the eight
ones_fewer : (k : ℕ) → k ≤ 8 → ones 8 8 / 2 ^ (64 - 8 * k) ≡ ones 8 k
ones_fewer k h =
    let e : k + (8 - k) ≡ 8 = omega arith in
    let f : 8 * (8 - k) ≡ 64 - 8 * k = omega arith in
    rw (e, f) at (ones_shifted k (8 - k))

module _ (s : List ℕ) (c w : ℕ) where
  abbrev characters : ℕ → ℕ → List ℕ
  characters at n = coded c (units (bit_of s) w at n)

  -- the last character apart
  octets-more : (at k : ℕ) → octets (suc k) (characters at (suc k)) ≡ octets k (characters at k) * 256 + (c + uint (bit_of s) (at + k * w) w)
  unfolding octets coded units
  octets-more at zero = rw (zero-mul w, add-zero at) (omega arith)
  octets-more at (suc k) =
      let e : at + w + k * w ≡ at + suc k * w = omega (arith, suc-mul k w) in
      rw (← e, pow-suc 256 k) (omega (arith, octets-more (at + w) k))

  octets-below : (at k : ℕ) → c + 2 ^ w ≤ 256 → octets k (characters at k) < 2 ^ (8 * k)
  unfolding octets
  octets-below at zero h = omega arith
  octets-below at (suc k) h =
      rw (octets-more at k, mul-suc 8 k, pow-add 2 (8 * k) 8) (digits_lt (octets-below at k h) (omega (arith, uint-below s (at + k * w) w)))

  -- all characters are read as one number
  octets-widened : (at k : ℕ) → octets k (characters at k) ≡ widened w 8 k (uint (bit_of s) at (k * w)) + c * ones 8 k
  unfolding octets widened ones
  octets-widened at zero = rw mul-zero
  octets-widened at (suc k) =
      let u = uint (bit_of s) (at + k * w) w in
      let q : u < 2 ^ w = uint-below s (at + k * w) w in
      rw (octets-more at k, octets-widened at k, suc-mul k w, uint-split (bit_of s) at (k * w) w, high (uint (bit_of s) at (k * w)) w q, low (uint (bit_of s) at (k * w)) w q)
      (omega arith)

  -- of n characters m are there, or more
  octets_there : (at n m : ℕ) → octets n (characters at m) ≡ octets (min n m) (characters at (min n m)) * 256 ^ (n - m)
  unfolding octets coded units
  octets_there at zero m = rw (zero-min m, zero-mul)
  octets_there at (suc n) zero = rw (min-zero (suc n), zero-mul)
  octets_there at (suc n) (suc m) =
      let e : 256 ^ n ≡ 256 ^ min n m * 256 ^ (n - m) = ap (λ (j : ℕ). 256 ^ j) (omega arith) ∙ pow-add 256 (min n m) (n - m) in
      rw (suc-min-suc n m, suc-sub-suc n m, e) (omega (arith, octets_there (at + w) n m))

---------------------------------------------------------------- the k characters that are there of the eight from i on

-- their bits are in the frame, at places in a word, and fit a word
pub record Placed (s : List ℕ) (r : Run) (i k : ℕ) : Type 0 where
  pub there : r.at + i * r.width + k * r.width ≤ length s * 8
  pub fits : r.at + i * r.width + k * r.width < 2 ^ 64
  pub few : k * r.width ≤ 8 * r.width
  pub word : 8 * r.width ≤ 64

-- x, eight octets with the k lowest not yet moved up, becomes the eight characters
pub record Packed (s : List ℕ) (r : Run) (i k x : ℕ) : Type 0 where
  pub fits : x + r.first * (ones 8 8 / 2 ^ (64 - 8 * k)) < 2 ^ 64
  pub all : (x + r.first * (ones 8 8 / 2 ^ (64 - 8 * k))) * 2 ^ (64 - 8 * k) % 2 ^ 64 ≡ octets 8 (counted s r i)

module _ (s : List ℕ) (r : Run) (i : ℕ) {k : ℕ} (z : Spelt s r) (h : i < r.len) (e : k ≡ min 8 (r.len - i)) where
  pub eight-placed : Placed s r i k
  eight-placed =
      let l : (i + k) * r.width ≤ r.len * r.width = mul-le-mul_right {m = i + k} {n = r.len} r.width (omega arith) in
      record {
        there = omega (arith, add-mul i k r.width, z.there);
        fits = omega (arith, add-mul i k r.width, z.fits);
        few = mul-le-mul_right {m = k} {n = 8} r.width (omega arith);
        word = omega (arith, z.narrow);
      }

  abbrev here : List ℕ
  here = characters s r.first r.width (r.at + i * r.width) k

  pub eight-packed : {v x : ℕ} → v ≡ uint (bit_of s) (r.at + i * r.width) (k * r.width) → x ≡ widened r.width 8 8 v → Packed s r i k x
  unfolding counted
  eight-packed {x = x} f g =
      let p = r.at + i * r.width in
      let there : 8 - k + k ≡ 8 = omega arith in
      let fewer : widened r.width 8 8 _ ≡ widened r.width 8 k _ = rw there at (widened_fewer r.width 8 (8 - k) k (uint-below s p (k * r.width))) in
      let sum : x + r.first * (ones 8 8 / 2 ^ (64 - 8 * k)) ≡ octets k here = rw (g, f, fewer, ones_fewer k (omega arith)) (sym (octets-widened s r.first r.width p k)) in
      let below : octets k here < 2 ^ (8 * k) = octets-below s r.first r.width p k z.octet in
      let missing : 8 * (8 - (r.len - i)) ≡ 64 - 8 * k = omega arith in
      record {
        fits = omega (arith, sum, below, pow_mono {i = 8 * k} {j = 64} (omega arith));
        all =
            rw
            (sum, shl_exact (8 * k) (64 - 8 * k) 64 below (omega arith), octets_there s r.first r.width p 8 (r.len - i), pow-octets (8 - (r.len - i)), missing, ← e);
      }
