use mathlib.Core.Path.{refl, ◌∙◌}
use native.Mathlib.Omega.{arith}
use Rattle.x691.specs.Types.{extent}
use Rattle.x691.specs.Encoding.{width, width_in}
use Rattle.ample_bits.proofs.AheadLaws.{first-spelt, ahead_fewer}
use Rattle.passed_arguments.proofs.PlaceLaws.{departure, flight_size}
use Rattle.passed_arguments.proofs.places.pass_departure.Goals as goal

pub first-requires-2 : goal.first-requires-2
unfolding extent width width_in
first-requires-2 c = (omega (arith, c.width-wide.ensures.0), omega (arith, c.width-wide.ensures.1))

pub overflow_add-size : goal.overflow_add-size
unfolding extent width width_in
overflow_add-size c = omega (arith, (flight_size c.requires.2 c.behind.ensures c.first-2.ensures (omega (arith, c.width-wide.ensures.0))).1)

pub overflow_add-p : goal.overflow_add-p
unfolding extent width width_in
overflow_add-p c = omega (arith, c.requires.1, c.width-wide.ensures.0)

pub overflow_add-p-2 : goal.overflow_add-p-2
unfolding extent width width_in
overflow_add-p-2 c = omega (arith, c.requires.1, c.width-wide.ensures.0)

pub overflow_mul-p : goal.overflow_mul-p
unfolding extent width width_in
overflow_mul-p c = omega (arith, (flight_size c.requires.2 c.behind.ensures c.first-2.ensures (omega (arith, c.width-wide.ensures.0))).1)

pub overflow_add-p-3 : goal.overflow_add-p-3
unfolding extent width width_in
overflow_add-p-3 c = omega (arith, c.requires.1, c.width-wide.ensures.0, (flight_size c.requires.2 c.behind.ensures c.first-2.ensures (omega (arith, c.width-wide.ensures.0))).1)

pub rest-requires : goal.rest-requires
unfolding extent width width_in
rest-requires c = (c.requires.0, omega (arith, c.requires.1, c.width-wide.ensures.0, (flight_size c.requires.2 c.behind.ensures c.first-2.ensures (omega (arith, c.width-wide.ensures.0))).1))

pub pass_position-requires : goal.pass_position-requires
unfolding extent width width_in
pass_position-requires c = (c.requires.0, omega (arith, c.requires.1, c.width-wide.ensures.0, (flight_size c.requires.2 c.behind.ensures c.first-2.ensures (omega (arith, c.width-wide.ensures.0))).1), ahead_fewer 45 c.rest.ensures (omega arith))

pub returns : goal.returns
unfolding extent width width_in
returns c = λ z.
    let h = c.requires.2 in
    departure (c.first.ensures ∙ first-spelt h 2 (omega arith)) c.if-first-ne0.false c.width-wide.ensures.0 (omega (arith, (flight_size c.requires.2 c.behind.ensures c.first-2.ensures (omega (arith, c.width-wide.ensures.0))).0)) (c.pass_position.ensures z)

pub returns-then-first-ne0 : goal.returns-then-first-ne0
returns-then-first-ne0 c = λ z. absurd (z refl)
