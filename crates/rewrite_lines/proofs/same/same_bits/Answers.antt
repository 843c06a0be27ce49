use mathlib.Core.Path.{refl}
use mathlib.Core.Bool.{false≢true}
use native.Mathlib.Omega.{arith}
use borrow.Author.Rules.{rules}
use Rattle.rewrite_lines.proofs.SameLaws.{none_yet, one_more, all_of, bit_of_both, both_of_bit}
use Rattle.rewrite_lines.proofs.same.same_bits.Goals as goal

pub loop-i-init : goal.loop-i-init
loop-i-init c = (search rules, search rules, none_yet _ _)

pub returns-then-uint : goal.returns-then-uint
returns-then-uint c = (λ e. absurd (false≢true e), λ h. absurd (c.if-uint.true (both_of_bit _ _ c.loop-i.i _ _ (c.uint.ensures.0 (omega (arith, c.loop-i.invariant.0, c.loop-i-test.true))) (c.uint-in-loop-i.ensures.0 (omega (arith, c.loop-i.invariant.1, c.loop-i-test.true))) (h.at c.loop-i.i c.loop-i-test.true))))

pub loop-i-preserved : goal.loop-i-preserved
loop-i-preserved c = (c.loop-i.invariant.0, c.loop-i.invariant.1, one_more _ _ c.loop-i.i c.loop-i.invariant.2 (bit_of_both _ _ c.loop-i.i _ _ (c.uint.ensures.0 (omega (arith, c.loop-i.invariant.0, c.loop-i-test.true))) (c.uint-in-loop-i.ensures.0 (omega (arith, c.loop-i.invariant.1, c.loop-i-test.true))) c.if-uint.false))

pub returns : goal.returns
returns c = (λ e. all_of _ _ _ c.loop-i.i c.loop-i-test.false c.loop-i.invariant.2, λ h. refl)

pub uint-requires : goal.uint-requires
uint-requires c = omega arith

pub uint-requires-in-loop-i : goal.uint-requires-in-loop-i
uint-requires-in-loop-i c = omega arith
