use mathlib.Core.Path.{refl, ◌∙◌}
use native.Mathlib.Omega.{arith}
use Rattle.x691.specs.Types.{extent}
use Rattle.x691.specs.Encoding.{width, width_in}
use Rattle.passed_arguments.proofs.ArgumentLaws.{of_byte, nothing, position, speed, speed_type, speed-types, level, degrees, frequency, code, traffic_type, clearance_type, error_information, facility_function, procedure, runway, coordinates, departure}
use Rattle.passed_arguments.proofs.pass_argument.Goals as goal

pub pass_position-requires : goal.pass_position-requires
pass_position-requires c = let a = c.requires in (a.0, omega (arith, a.1), a.2)

pub pass_quantity-requires : goal.pass_quantity-requires
pass_quantity-requires c = (omega arith, omega arith, omega arith, omega (arith, c.requires.1))

pub pass_name-requires : goal.pass_name-requires
unfolding extent width width_in
pass_name-requires c = (refl, omega arith, omega arith, omega (arith, c.requires.1))

pub pass_triple-requires : goal.pass_triple-requires
pass_triple-requires c = c.requires.1

pub pass_quantity-requires-in-5 : goal.pass_quantity-requires-in-5
pass_quantity-requires-in-5 c = (omega arith, omega arith, omega arith, omega (arith, c.requires.1))

pub pass_quantity-requires-in-6 : goal.pass_quantity-requires-in-6
pass_quantity-requires-in-6 c = (omega arith, omega arith, omega arith, omega (arith, c.requires.1))

pub pass_quantity-requires-in-7 : goal.pass_quantity-requires-in-7
pass_quantity-requires-in-7 c = (omega arith, omega arith, omega arith, omega (arith, c.requires.1))

pub overflow_mul-result : goal.overflow_mul-result
overflow_mul-result c = omega (arith, c.width.ensures.1, c.requires.1)

pub overflow_add-result : goal.overflow_add-result
overflow_add-result c = omega (arith, c.width.ensures.1, c.requires.1)

pub pass_name-requires-in-9 : goal.pass_name-requires-in-9
unfolding extent width width_in
pass_name-requires-in-9 c = (refl, omega arith, omega arith, omega (arith, c.requires.1))

pub pass_name-requires-in-10 : goal.pass_name-requires-in-10
unfolding extent width width_in
pass_name-requires-in-10 c = (refl, omega arith, omega arith, omega (arith, c.requires.1))

pub pass_name-requires-in-11 : goal.pass_name-requires-in-11
unfolding extent width width_in
pass_name-requires-in-11 c = (refl, omega arith, omega arith, omega (arith, c.requires.1))

pub pass_name-requires-in-12 : goal.pass_name-requires-in-12
unfolding extent width width_in
pass_name-requires-in-12 c = (refl, omega arith, omega arith, omega (arith, c.requires.1))

pub pass_procedure-requires : goal.pass_procedure-requires
pass_procedure-requires c = c.requires

pub unless_far-requires : goal.unless_far-requires
unless_far-requires c = omega (arith, c.requires.1)

pub overflow_add-result-in-14 : goal.overflow_add-result-in-14
overflow_add-result-in-14 c = omega (arith, c.width-in-14.ensures.1, c.requires.1)

pub overflow_add-result-in-14-2 : goal.overflow_add-result-in-14-2
overflow_add-result-in-14-2 c = omega (arith, c.width-in-14-2.ensures.1, c.width-in-14.ensures.1, c.requires.1)

pub pass_pair-requires : goal.pass_pair-requires
pass_pair-requires c = omega (arith, c.requires.1)

pub pass_departure-requires : goal.pass_departure-requires
pass_departure-requires c = c.requires

pub unless_far-requires-in-16 : goal.unless_far-requires-in-16
unless_far-requires-in-16 c = omega (arith, c.requires.1)

pub returns-in-0 : goal.returns-in-0
returns-in-0 c = λ z. of_byte c.in-0.is nothing

pub returns-in-1 : goal.returns-in-1
returns-in-1 c = λ z. of_byte c.in-1.is (position (c.pass_position.ensures z))

pub returns-in-2 : goal.returns-in-2
returns-in-2 c = λ z. of_byte c.in-2.is (speed c.requires.2 (c.pass_quantity.ensures z))

pub returns-in-3 : goal.returns-in-3
returns-in-3 c = λ z. of_byte c.in-3.is (speed_type c.requires.2 (c.pass_name.ensures z))

pub returns-in-4 : goal.returns-in-4
returns-in-4 c = λ z. of_byte c.in-4.is (speed-types c.requires.2 (c.pass_triple.ensures z))

pub returns-in-5 : goal.returns-in-5
returns-in-5 c = λ z. of_byte c.in-5.is (level c.requires.2 (c.pass_quantity-in-5.ensures z))

pub returns-in-6 : goal.returns-in-6
returns-in-6 c = λ z. of_byte c.in-6.is (degrees c.requires.2 (c.pass_quantity-in-6.ensures z))

pub returns-in-7 : goal.returns-in-7
returns-in-7 c = λ z. of_byte c.in-7.is (frequency c.requires.2 (c.pass_quantity-in-7.ensures z))

pub returns-in-8 : goal.returns-in-8
returns-in-8 c = λ z. of_byte c.in-8.is (code c.width.ensures.0)

pub returns-in-9 : goal.returns-in-9
returns-in-9 c = λ z. of_byte c.in-9.is (traffic_type c.requires.2 (c.pass_name-in-9.ensures z))

pub returns-in-10 : goal.returns-in-10
returns-in-10 c = λ z. of_byte c.in-10.is (clearance_type c.requires.2 (c.pass_name-in-10.ensures z))

pub returns-in-11 : goal.returns-in-11
returns-in-11 c = λ z. of_byte c.in-11.is (error_information c.requires.2 (c.pass_name-in-11.ensures z))

pub returns-in-12 : goal.returns-in-12
returns-in-12 c = λ z. of_byte c.in-12.is (facility_function c.requires.2 (c.pass_name-in-12.ensures z))

pub returns-in-13 : goal.returns-in-13
returns-in-13 c = λ z.
    let e = c.unless_far.ensures z in
    of_byte c.in-13.is (procedure e (c.pass_procedure.ensures (λ o. z (e.0 ∙ o))))

pub returns-in-14 : goal.returns-in-14
returns-in-14 c = λ z. of_byte c.in-14.is (runway c.width-in-14.ensures.0 c.width-in-14-2.ensures.0)

pub returns-in-15 : goal.returns-in-15
returns-in-15 c = λ z. of_byte c.in-15.is (coordinates c.requires.2 (c.pass_pair.ensures z))

pub returns-in-16 : goal.returns-in-16
returns-in-16 c = λ z.
    let e = c.unless_far-in-16.ensures z in
    of_byte c.in-16.is (departure e (c.pass_departure.ensures (λ o. z (e.0 ∙ o))))

pub returns-in_default : goal.returns-in_default
returns-in_default c = λ z. absurd (z refl)
