-- Laws of the fewest bits that hold a number.
use Rattle.std.proofs.Common.{◌≡◌, ℕ, zero, suc, ◌+◌, ◌/◌, ◌^◌, ◌<◌, ◌≤◌, refl, pow-suc, arith, ne_eqb}
use lib.Count.{count_leading_zeros}
use Rattle.x691.specs.Encoding.{width, width_in}

none : (k : ℕ) → width_in k 0 ≡ 0
unfolding width_in
none zero = refl
none (suc k) = refl

half : (k d : ℕ) → width_in (suc k) (suc d) ≡ suc (width_in k (suc d / 2))
unfolding width_in
half k d = rw (ne_eqb (suc d) 0 (λ e. omega arith), width_in)

-- k, the most halvings that width_in makes, does not cut it short
leading : (w k d : ℕ) → d < 2 ^ w → d ≤ k → count_leading_zeros w d + width_in k d ≡ w
unfolding count_leading_zeros width_in
leading zero k zero h l = rw (none k) (omega arith)
leading zero k (suc d) h l = absurd (omega arith)
leading (suc w) k zero h l = rw (none k) (omega arith)
leading (suc w) zero (suc d) h l = absurd (omega arith)
leading (suc w) (suc k) (suc d) h l =
    omega (arith, half k d, leading w k (suc d / 2) (omega (arith, pow-suc 2 w)) (omega arith))

-- of w bits, those above a number's width are zeros
pub width_leading : (w d : ℕ) → d < 2 ^ w → count_leading_zeros w d + width d ≡ w
unfolding width
width_leading w d h = leading w d d h (omega arith)

-- what fits w bits is no wider
pub width-le : (w d : ℕ) → d < 2 ^ w → width d ≤ w
width-le w d h = omega (arith, width_leading w d h)
