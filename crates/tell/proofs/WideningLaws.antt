-- Numbers in a row that are put into more bits: bounds, and how halves are moved apart.
use mathlib.Core.Path.{◌≡◌, refl}
use Prim.Native.Nat.{ℕ, zero, suc, ◌+◌, ◌-◌, ◌*◌, ◌/◌, ◌%◌, ◌^◌, ◌≤◌, ◌<◌}
use native.Mathlib.Nat.{mod-lt, mod-eq_of_lt, zero-div, zero-mod, zero-mul, mul-zero, mul-suc, suc-mul, add-zero, add-suc, suc-add, lt_of_lt_of_le}
use native.Mathlib.Omega.{arith}
use lib.Arith.{digits_lt}
use lib.Pow.{pow_pos, pow_mono, pow-add, shl_lt, shr_lt, shr-shr, mod-pow-add, ones_lt, suc_ones}
use lib.Bits.{bit_and, and_block, and_mask, and_zero_r}
use Rattle.tell.specs.Characters.{widened}

pub widened-below : (w l n v : ℕ) → w ≤ l → widened w l n v < 2 ^ (l * n)
unfolding widened
widened-below w l zero v h = rw mul-zero (omega arith)
widened-below w l (suc n) v h =
    rw (mul-suc, pow-add) (digits_lt (widened-below w l n (v / 2 ^ w) h) (lt_of_lt_of_le (mod-lt v (pow_pos w)) (pow_mono h)))

widened-zero : (w l n : ℕ) → widened w l n 0 ≡ 0
unfolding widened
widened-zero w l zero = refl
widened-zero w l (suc n) = rw (zero-div, zero-mod, widened-zero w l n, zero-mul)

-- j zeros in front of the others
pub widened_fewer : (w l j k : ℕ) {v : ℕ} → v < 2 ^ (k * w) → widened w l (j + k) v ≡ widened w l k v
unfolding widened
widened_fewer w l j zero {v} h = let e : v ≡ 0 = omega (arith, rw zero-mul at h) in rw (e, add-zero) (widened-zero w l j)
widened_fewer w l j (suc k) {v} h = rw (add-suc, widened_fewer w l j k (shr_lt (k * w) w (rw suc-mul at h)))

---------------------------------------------------------------- halves moved apart

-- n ones, in l bits each
unfoldable pub ones : ℕ → ℕ → ℕ
ones l zero = 0
ones l (suc n) = ones l n * 2 ^ l + 1

-- the mask of the higher half of 2 w bits, and what it finds
abbrev pub half : ℕ → ℕ
half w = (2 ^ w - 1) * 2 ^ w

half_below : (w : ℕ) → half w < 2 ^ (w + w)
half_below w = shl_lt w w (ones_lt w)

half_found : (w v : ℕ) → bit_and (v % 2 ^ (w + w)) (half w) ≡ v / 2 ^ w % 2 ^ w * 2 ^ w
half_found w v =
    let h = v / 2 ^ w % 2 ^ w in
    let l : h < 2 ^ w = mod-lt (v / 2 ^ w) (pow_pos w) in
    rw
    (mod-pow-add v w w, ← add-zero (half w), and_block w h (2 ^ w - 1) (v % 2 ^ w) 0 (mod-lt v (pow_pos w)) (pow_pos w), and_mask h w, mod-eq_of_lt l, and_zero_r, add-zero)

pow_more : (w g : ℕ) → 2 ^ (w + g) ≡ 2 ^ w * (2 ^ g - 1) + 2 ^ w
pow_more w g = rw (pow-add, ← mul-suc, suc_ones)

-- with p * g + p for the power of w + g
moved : (x a h o p g : ℕ)
    → x * ((p * g + p) * (p * g + p)) + (h * p + o) + (a * ((p * g + p) * (p * g + p)) + h * p) * g ≡ ((x + a * g) * (p * g + p) + h) * (p * g + p) + o
moved x a h o p g = omega arith

-- the higher half of each of n numbers, which stand in 2 (w + g) bits each, moves up by g
abbrev pub apart : ℕ → ℕ → ℕ → ℕ → ℕ
apart w g n x = x + bit_and x (half w * ones (w + g + (w + g)) n) * (2 ^ g - 1)

-- so n numbers of 2 w bits become twice as many of w bits
pub halved : (w g n v : ℕ) → apart w g n (widened (w + w) (w + g + (w + g)) n v) ≡ widened w (w + g) (n + n) v
unfolding widened ones
halved w g zero v = rw zero-mul
halved w g (suc n) v =
    let l = w + g in
    let x = widened (w + w) (l + l) n (v / 2 ^ (w + w)) in
    let m = half w * ones (l + l) n in
    let e : half w * (ones (l + l) n * 2 ^ (l + l) + 1) ≡ m * 2 ^ (l + l) + half w = omega arith in
    let wide : 2 ^ (w + w) ≤ 2 ^ (l + l) = pow_mono (omega arith) in
    rw
    (e, and_block (l + l) x m (v % 2 ^ (w + w)) (half w) (omega (arith, wide, mod-lt v (pow_pos (w + w)))) (omega (arith, wide, half_below w)), half_found w v, mod-pow-add v w w, pow-add 2 l l, suc-add, add-suc, shr-shr v w w, ← halved w g n (v / 2 ^ (w + w)), pow_more w g)
    (moved x (bit_and x m) (v / 2 ^ w % 2 ^ w) (v % 2 ^ w) (2 ^ w) (2 ^ g - 1))
