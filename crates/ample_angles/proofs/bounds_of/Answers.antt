use native.Mathlib.Omega.{arith}
use Rattle.x691.specs.Types.{extent}
use Rattle.x691.specs.Encoding.{width, width_in}
use Rattle.ample_angles.proofs.AngleLaws.{wide_by, angle-by}
use Rattle.ample_angles.proofs.bounds_of.Goals as goal

pub returns-then-left-eq1 : goal.returns-then-left-eq1
unfolding extent width width_in
returns-then-left-eq1 c =
    let most = c.extent-most.ensures in
    let wide = c.width-wide.ensures.0 in
    let degrees = c.extent-degrees.ensures in
    let narrow = c.width-narrow.ensures.0 in
    (omega arith, omega (arith, most), wide_by most wide, omega (arith, wide), omega (arith, wide), omega (arith, degrees), wide_by degrees narrow, omega (arith, narrow), omega (arith, narrow), λ q. angle-by 42 most degrees, λ q. absurd (q c.if-left-eq1.true))

pub returns : goal.returns
unfolding extent width width_in
returns c =
    let most = c.extent-most-2.ensures in
    let wide = c.width-wide-2.ensures.0 in
    let degrees = c.extent-degrees-2.ensures in
    let narrow = c.width-narrow-2.ensures.0 in
    (omega arith, omega (arith, most), wide_by most wide, omega (arith, wide), omega (arith, wide), omega (arith, degrees), wide_by degrees narrow, omega (arith, narrow), omega (arith, narrow), λ q. absurd (c.if-left-eq1.false q), λ q. angle-by 35 most degrees)
