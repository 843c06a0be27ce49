use mathlib.Core.Path.{refl, sym, ◌∙◌}
use native.Mathlib.Omega.{arith}
use Rattle.x691.specs.Types.{extent}
use Rattle.x691.specs.Encoding.{width, width_in}
use Rattle.x691.proofs.BitLaws.{uint-one}
use Rattle.ample_bits.proofs.AheadLaws.{first-spelt}
use Rattle.passed_arguments.proofs.PlaceLaws.{procedure-named, procedure_kind, procedure_size, transition-absent, transition-present, transition_size}
use Rattle.passed_arguments.proofs.places.pass_procedure.Goals as goal

pub first-requires : goal.first-requires
unfolding extent width width_in
first-requires c = (omega (arith, c.width-wide.ensures.0), omega (arith, c.width-wide.ensures.1))

pub behind-requires : goal.behind-requires
unfolding extent width width_in
behind-requires c = omega (arith, c.width-wide.ensures.0)

pub first-requires-2 : goal.first-requires-2
unfolding extent width width_in
first-requires-2 c = (omega (arith, c.width-long.ensures.0), omega (arith, c.width-long.ensures.1))

pub overflow_add-size : goal.overflow_add-size
unfolding extent width width_in
overflow_add-size c = omega (arith, (procedure_size c.requires.2 c.behind-a.ensures c.width-wide.result c.behind.ensures c.first-2.ensures (omega (arith, c.width-wide.ensures.0, c.width-long.ensures.0)) (omega (arith, c.width-long.ensures.0))).1)

pub overflow_add-p : goal.overflow_add-p
unfolding extent width width_in
overflow_add-p c = omega (arith, c.requires.1, c.width-wide.ensures.0, c.width-long.ensures.0)

pub overflow_add-p-2 : goal.overflow_add-p-2
unfolding extent width width_in
overflow_add-p-2 c = omega (arith, c.requires.1, c.width-wide.ensures.0, c.width-long.ensures.0)

pub overflow_add-p-3 : goal.overflow_add-p-3
unfolding extent width width_in
overflow_add-p-3 c = omega (arith, c.requires.1, c.width-wide.ensures.0, c.width-long.ensures.0)

pub overflow_mul-p : goal.overflow_mul-p
unfolding extent width width_in
overflow_mul-p c = omega (arith, (procedure_size c.requires.2 c.behind-a.ensures c.width-wide.result c.behind.ensures c.first-2.ensures (omega (arith, c.width-wide.ensures.0, c.width-long.ensures.0)) (omega (arith, c.width-long.ensures.0))).1)

pub overflow_add-p-4 : goal.overflow_add-p-4
unfolding extent width width_in
overflow_add-p-4 c = omega (arith, c.requires.1, c.width-wide.ensures.0, c.width-long.ensures.0, (procedure_size c.requires.2 c.behind-a.ensures c.width-wide.result c.behind.ensures c.first-2.ensures (omega (arith, c.width-wide.ensures.0, c.width-long.ensures.0)) (omega (arith, c.width-long.ensures.0))).1)

pub returns-then-first-eq0 : goal.returns-then-first-eq0
unfolding extent width width_in
returns-then-first-eq0 c = λ z.
    let h = c.requires.2 in
    let f = c.behind-a.ensures in
    let w = c.width-wide.ensures.0 in
    let d = c.width-long.ensures.0 in
    let k = procedure_size c.requires.2 c.behind-a.ensures c.width-wide.result c.behind.ensures c.first-2.ensures (omega (arith, c.width-wide.ensures.0, c.width-long.ensures.0)) (omega (arith, c.width-long.ensures.0)) in
    let b = c.first-3.ensures ∙ first-spelt h 1 (omega arith) ∙ uint-one _ _ in
    procedure-named w d (procedure_kind h f c.width-wide.result c.first.ensures (omega (arith, w))) (omega (arith, c.if-first.false)) (omega (arith, k.0))
    (transition-absent (sym c.if-first-eq0.true ∙ b))

pub rest-requires : goal.rest-requires
unfolding extent width width_in
rest-requires c = (c.requires.0, omega (arith, c.requires.1, c.width-wide.ensures.0, c.width-long.ensures.0, (procedure_size c.requires.2 c.behind-a.ensures c.width-wide.result c.behind.ensures c.first-2.ensures (omega (arith, c.width-wide.ensures.0, c.width-long.ensures.0)) (omega (arith, c.width-long.ensures.0))).1))

pub first-requires-4 : goal.first-requires-4
unfolding extent width width_in
first-requires-4 c = (omega (arith, c.width-short.ensures.0), omega (arith, c.width-short.ensures.1))

pub overflow_add-more : goal.overflow_add-more
unfolding extent width width_in
overflow_add-more c = omega (arith, (transition_size c.rest.ensures c.first-4.ensures (omega (arith, c.width-short.ensures.0))).1)

pub overflow_add-result : goal.overflow_add-result
unfolding extent width width_in
overflow_add-result c = omega (arith, c.requires.1, c.width-wide.ensures.0, c.width-long.ensures.0, (procedure_size c.requires.2 c.behind-a.ensures c.width-wide.result c.behind.ensures c.first-2.ensures (omega (arith, c.width-wide.ensures.0, c.width-long.ensures.0)) (omega (arith, c.width-long.ensures.0))).1, c.width-short.ensures.0)

pub overflow_mul-result : goal.overflow_mul-result
unfolding extent width width_in
overflow_mul-result c = omega (arith, (transition_size c.rest.ensures c.first-4.ensures (omega (arith, c.width-short.ensures.0))).1)

pub overflow_add-result-2 : goal.overflow_add-result-2
unfolding extent width width_in
overflow_add-result-2 c = omega (arith, c.requires.1, c.width-wide.ensures.0, c.width-long.ensures.0, (procedure_size c.requires.2 c.behind-a.ensures c.width-wide.result c.behind.ensures c.first-2.ensures (omega (arith, c.width-wide.ensures.0, c.width-long.ensures.0)) (omega (arith, c.width-long.ensures.0))).1, c.width-short.ensures.0, (transition_size c.rest.ensures c.first-4.ensures (omega (arith, c.width-short.ensures.0))).1)

pub returns : goal.returns
unfolding extent width width_in
returns c = λ z.
    let h = c.requires.2 in
    let f = c.behind-a.ensures in
    let w = c.width-wide.ensures.0 in
    let d = c.width-long.ensures.0 in
    let k = procedure_size c.requires.2 c.behind-a.ensures c.width-wide.result c.behind.ensures c.first-2.ensures (omega (arith, c.width-wide.ensures.0, c.width-long.ensures.0)) (omega (arith, c.width-long.ensures.0)) in
    let b = c.first-3.ensures ∙ first-spelt h 1 (omega arith) ∙ uint-one _ _ in
    procedure-named w d (procedure_kind h f c.width-wide.result c.first.ensures (omega (arith, w))) (omega (arith, c.if-first.false)) (omega (arith, k.0))
    (transition-present b c.if-first-eq0.false c.width-short.ensures.0 (omega (arith, (transition_size c.rest.ensures c.first-4.ensures (omega (arith, c.width-short.ensures.0))).0)))

pub returns-then-first : goal.returns-then-first
returns-then-first c = λ z. absurd (z refl)
