use mathlib.Core.Path.{refl, sym, ◌∙◌}
use native.Mathlib.Omega.{arith}
use Rattle.record_views.proofs.ViewLaws.{far_below}
use Rattle.element_kinds.proofs.KindLaws.{agreed-step, agreed-end}
use Rattle.element_kinds.proofs.elements_agree.Goals as goal

pub loop-i-init : goal.loop-i-init
loop-i-init c = refl

pub element_agrees-requires : goal.element_agrees-requires
element_agrees-requires c = far_below c.args.words.now _ (rw c.records_in-i-end.ensures at c.loop-i-test.true) (omega arith)

pub loop-i-preserved : goal.loop-i-preserved
loop-i-preserved c = let e = c.args in let l = c.loop-i in l.invariant ∙ (rw c.if-not-element_agrees.false at (agreed-step e.words.now l.i (rw c.records_in-i-end.ensures at c.loop-i-test.true) c.element_agrees.ensures))

pub returns-then-not-element_agrees : goal.returns-then-not-element_agrees
returns-then-not-element_agrees c = let e = c.args in let l = c.loop-i in sym (l.invariant ∙ (rw c.if-not-element_agrees.true at (agreed-step e.words.now l.i (rw c.records_in-i-end.ensures at c.loop-i-test.true) c.element_agrees.ensures)))

pub returns : goal.returns
returns c = let e = c.args in let l = c.loop-i in sym (l.invariant ∙ agreed-end e.words.now l.i (rw c.records_in-i-end.ensures at c.loop-i-test.false))
