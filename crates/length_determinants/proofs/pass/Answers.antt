use native.Mathlib.Omega.{arith}
use Rattle.length_determinants.proofs.LengthLaws.{passes_stuck, passes_over, passes-short, passes_off}
use Rattle.length_determinants.proofs.pass.Goals as goal

pub returns-then-c-ne0 : goal.returns-then-c-ne0
returns-then-c-ne0 c = passes_stuck _ _ c.if-c-ne0.true

pub returns-then-n-left : goal.returns-then-n-left
returns-then-n-left c = passes_over _ _ c.if-c-ne0.false c.if-at-end.true c.if-n-left.true

pub ran_out-why-requires : goal.ran_out-why-requires
ran_out-why-requires c = omega (arith, c.requires)

pub returns-then-at-end : goal.returns-then-at-end
returns-then-at-end c = passes-short _ _ c.if-c-ne0.false c.if-at-end.true c.if-n-left.false c.ran_out-why.ensures

pub returns : goal.returns
returns c = passes_off _ _ c.if-at-end.false
