use mathlib.Core.Path.{refl}
use native.Mathlib.Omega.{arith}
use Rattle.x691.specs.Types.{extent}
use Rattle.x691.specs.Encoding.{width, width_in}
use Rattle.passed_arguments.proofs.PlaceLaws.{thousandths, hundredths, seconds}
use Rattle.passed_arguments.proofs.places.angle_bits.Goals as goal

pub overflow_add-result : goal.overflow_add-result
overflow_add-result c = omega (arith, c.requires.0)

pub overflow_add-result-then-form-eq0 : goal.overflow_add-result-then-form-eq0
overflow_add-result-then-form-eq0 c = omega (arith, c.width.ensures.1, c.requires.0)

pub returns-then-form-eq0 : goal.returns-then-form-eq0
unfolding extent width width_in
returns-then-form-eq0 c = (omega (arith, c.width.ensures.0, c.requires.0), λ z. thousandths c.first-form.ensures c.args.wide c.args.narrow c.if-form-eq0.true c.width.ensures.0)

pub overflow_add-result-then-form-eq1 : goal.overflow_add-result-then-form-eq1
overflow_add-result-then-form-eq1 c = omega (arith, c.requires.1)

pub overflow_add-result-then-form-eq1-2 : goal.overflow_add-result-then-form-eq1-2
overflow_add-result-then-form-eq1-2 c = omega (arith, c.width-then-form-eq1.ensures.1, c.requires.1)

pub overflow_add-result-then-form-eq1-3 : goal.overflow_add-result-then-form-eq1-3
overflow_add-result-then-form-eq1-3 c = omega (arith, c.width-then-form-eq1-2.ensures.1, c.width-then-form-eq1.ensures.1, c.requires.1)

pub returns-then-form-eq1 : goal.returns-then-form-eq1
unfolding extent width width_in
returns-then-form-eq1 c =
    let h = c.width-then-form-eq1.ensures.0 in
    (omega (arith, c.width-then-form-eq1-2.ensures.0, h, c.requires.1), λ z. hundredths c.first-form.ensures c.args.wide c.args.narrow c.if-form-eq1.true h c.width-then-form-eq1-2.ensures.0)

pub overflow_add-result-then-form-eq2 : goal.overflow_add-result-then-form-eq2
overflow_add-result-then-form-eq2 c = omega (arith, c.requires.1)

pub overflow_mul-result : goal.overflow_mul-result
overflow_mul-result c = omega (arith, c.width-then-form-eq2.ensures.1)

pub overflow_add-result-then-form-eq2-2 : goal.overflow_add-result-then-form-eq2-2
overflow_add-result-then-form-eq2-2 c = omega (arith, c.width-then-form-eq2.ensures.1, c.requires.1)

pub overflow_add-result-then-form-eq2-3 : goal.overflow_add-result-then-form-eq2-3
overflow_add-result-then-form-eq2-3 c = omega (arith, c.width-then-form-eq2-2.ensures.1, c.width-then-form-eq2.ensures.1, c.requires.1)

pub returns-then-form-eq2 : goal.returns-then-form-eq2
unfolding extent width width_in
returns-then-form-eq2 c =
    let h = c.width-then-form-eq2.ensures.0 in
    (omega (arith, c.width-then-form-eq2-2.ensures.0, h, c.requires.1), λ z. seconds c.first-form.ensures c.args.wide c.args.narrow c.if-form-eq2.true h c.width-then-form-eq2-2.ensures.0)

pub returns : goal.returns
returns c = (omega arith, λ z. absurd (z refl))
