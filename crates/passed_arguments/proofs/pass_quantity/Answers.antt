use mathlib.Core.Path.{refl, ◌∙◌}
use native.Mathlib.Omega.{arith}
use Rattle.ample_bits.proofs.AheadLaws.{first-spelt}
use Rattle.passed_arguments.proofs.PassedLaws.{within_more, within-row, row-wide}
use Rattle.passed_arguments.proofs.pass_quantity.Goals as goal

pub first-kind-requires : goal.first-kind-requires
first-kind-requires c = (c.requires.0, omega (arith, c.requires.1))

pub overflow_add-row : goal.overflow_add-row
overflow_add-row c = omega (arith, c.if-kinds-kind.false, c.requires.2)

pub range_at-range-requires : goal.range_at-range-requires
range_at-range-requires c = omega (arith, c.if-kinds-kind.false, c.requires.2)

pub overflow_add-result : goal.overflow_add-result
overflow_add-result c = omega (arith, c.requires.1, c.requires.3)

pub overflow_add-result-2 : goal.overflow_add-result-2
overflow_add-result-2 c = omega (arith, c.requires.1, c.requires.3, c.width.ensures.1)

pub returns : goal.returns
returns c = λ z t u fs s q h.
    let r = c.range_at-range.ensures in
    let f = c.first-kind in
    within_more (omega arith) (omega (arith, c.requires.1, c.width.ensures.1))
    (within-row t u c.args.row c.args.kinds fs c.args.wide c.width.result f.result q (f.ensures ∙ first-spelt h c.args.wide (omega arith)) (omega (arith, c.if-kinds-kind.false)) (row-wide r.0 r.1 c.width.ensures.0))

pub returns-then-kinds-kind : goal.returns-then-kinds-kind
returns-then-kinds-kind c = λ z. absurd (z refl)
