use mathlib.Core.Path.{refl, sym, ◌∙◌}
use native.Mathlib.Omega.{arith}
use Rattle.x691.specs.Types.{extent}
use Rattle.x691.specs.Encoding.{width, width_in}
use Rattle.ample_bits.proofs.AheadLaws.{first-spelt, ahead-next, ahead_fewer}
use Rattle.passed_arguments.proofs.PlaceLaws.{position-named, position-airport, position-placed, has-spelt, size-spelt, fields_bare, fields_placed}
use Rattle.passed_arguments.proofs.places.pass_position.Goals as goal

pub overflow_add-p : goal.overflow_add-p
overflow_add-p c = omega (arith, c.requires.1)

pub overflow_add-result : goal.overflow_add-result
overflow_add-result c = omega (arith, c.requires.1)

pub returns-then-kind-eq2 : goal.returns-then-kind-eq2
returns-then-kind-eq2 c = λ z. position-airport (c.first-kind.ensures ∙ first-spelt c.requires.2 3 (omega arith)) c.if-kind-eq2.true

pub pass_pair-requires : goal.pass_pair-requires
pass_pair-requires c = omega (arith, c.requires.1)

pub returns-then-kind-eq3 : goal.returns-then-kind-eq3
returns-then-kind-eq3 c = λ z.
    let h = c.requires.2 in
    position-placed (c.first-kind.ensures ∙ first-spelt h 3 (omega arith)) c.if-kind-eq3.true (c.pass_pair.ensures z _ (ahead_fewer 28 (ahead-next 3 h refl c.behind-a.ensures (omega arith)) (omega arith)))

pub overflow_sub-wide : goal.overflow_sub-wide
unfolding extent width width_in
overflow_sub-wide c = omega (arith, c.width.ensures.0, c.if-kind-gt3.false)

pub first-requires : goal.first-requires
unfolding extent width width_in
first-requires c = (omega (arith, c.width.ensures.0, c.if-kind-gt3.false, c.if-kind-eq3.false, c.if-kind-eq2.false), omega (arith, c.width.ensures.1))

pub overflow_add-size : goal.overflow_add-size
unfolding extent width width_in
overflow_add-size c = omega (arith, (size-spelt c.requires.2 c.behind-a.ensures c.behind.ensures c.first.ensures (omega (arith, c.width.ensures.0))).1)

pub overflow_add-q : goal.overflow_add-q
overflow_add-q c = omega (arith, c.requires.1)

pub overflow_add-q-2 : goal.overflow_add-q-2
overflow_add-q-2 c = omega (arith, c.requires.1, c.width.ensures.1)

pub overflow_mul-q : goal.overflow_mul-q
unfolding extent width width_in
overflow_mul-q c = omega (arith, (size-spelt c.requires.2 c.behind-a.ensures c.behind.ensures c.first.ensures (omega (arith, c.width.ensures.0))).1)

pub overflow_add-q-3 : goal.overflow_add-q-3
unfolding extent width width_in
overflow_add-q-3 c = omega (arith, c.requires.1, c.width.ensures.1, (size-spelt c.requires.2 c.behind-a.ensures c.behind.ensures c.first.ensures (omega (arith, c.width.ensures.0))).1)

pub first-requires-2 : goal.first-requires-2
first-requires-2 c = (omega arith, omega arith)

pub returns-then-first-eq0 : goal.returns-then-first-eq0
unfolding extent width width_in
returns-then-first-eq0 c = λ z.
    let w = c.width.ensures.0 in
    let i = c.first-kind in
    let f = c.behind-a.ensures in
    let k = size-spelt c.requires.2 f c.behind.ensures c.first.ensures (omega (arith, w)) in
    position-named i.result (i.ensures ∙ first-spelt c.requires.2 3 (omega arith)) (omega (arith, c.if-kind-gt3.false, c.if-kind-eq3.false, c.if-kind-eq2.false)) (omega (arith, w)) (omega (arith, k.0)) (omega (arith, k.1)) (omega arith) (omega arith)
    (fields_bare (sym c.if-first-eq0.true ∙ has-spelt c.requires.2 f c.first-2.ensures))

pub rest-requires : goal.rest-requires
unfolding extent width width_in
rest-requires c = (c.requires.0, omega (arith, c.requires.1, c.width.ensures.1, (size-spelt c.requires.2 c.behind-a.ensures c.behind.ensures c.first.ensures (omega (arith, c.width.ensures.0))).1))

pub pass_pair-requires-2 : goal.pass_pair-requires-2
unfolding extent width width_in
pass_pair-requires-2 c = omega (arith, c.requires.1, c.width.ensures.1, (size-spelt c.requires.2 c.behind-a.ensures c.behind.ensures c.first.ensures (omega (arith, c.width.ensures.0))).1)

pub returns : goal.returns
unfolding extent width width_in
returns c = λ z.
    let w = c.width.ensures.0 in
    let i = c.first-kind in
    let f = c.behind-a.ensures in
    let k = size-spelt c.requires.2 f c.behind.ensures c.first.ensures (omega (arith, w)) in
    position-named i.result (i.ensures ∙ first-spelt c.requires.2 3 (omega arith)) (omega (arith, c.if-kind-gt3.false, c.if-kind-eq3.false, c.if-kind-eq2.false)) (omega (arith, w)) (omega (arith, k.0)) (omega (arith, k.1)) (omega arith) (omega arith)
    (fields_placed (has-spelt c.requires.2 f c.first-2.ensures) c.if-first-eq0.false (c.pass_pair-2.ensures z _ (ahead_fewer 28 c.rest.ensures (omega arith))))

pub returns-then-kind-gt3 : goal.returns-then-kind-gt3
returns-then-kind-gt3 c = λ z. absurd (z refl)
