use mathlib.Core.Path.{refl, sym, ◌∙◌}
use native.Mathlib.Omega.{arith}
use Rattle.record_views.proofs.ViewLaws.{far_below}
use Rattle.element_kinds.specs.Kinds.{byte_of}
use Rattle.element_kinds.proofs.KindLaws.{later-step, later-end}
use Rattle.element_kinds.proofs.later_agree.Goals as goal

pub loop-i-init : goal.loop-i-init
loop-i-init c = refl

pub one_agrees-requires : goal.one_agrees-requires
one_agrees-requires c = far_below c.args.words.now _ (rw c.records_in-i-end.ensures at c.loop-i-test.true) (omega arith)

pub loop-i-preserved : goal.loop-i-preserved
loop-i-preserved c = let e = c.args in let l = c.loop-i in l.invariant ∙ (rw c.if-not-one_agrees.false at (later-step e.words.now e.index (byte_of e.kind) l.i (rw c.records_in-i-end.ensures at c.loop-i-test.true) c.one_agrees.ensures))

pub returns-then-not-one_agrees : goal.returns-then-not-one_agrees
returns-then-not-one_agrees c = let e = c.args in let l = c.loop-i in sym (l.invariant ∙ (rw c.if-not-one_agrees.true at (later-step e.words.now e.index (byte_of e.kind) l.i (rw c.records_in-i-end.ensures at c.loop-i-test.true) c.one_agrees.ensures)))

pub returns : goal.returns
returns c = let e = c.args in let l = c.loop-i in sym (l.invariant ∙ later-end e.words.now e.index (byte_of e.kind) l.i (rw c.records_in-i-end.ensures at c.loop-i-test.false))
