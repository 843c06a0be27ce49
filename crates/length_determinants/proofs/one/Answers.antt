use mathlib.Core.Path.{◌∙◌}
use mathlib.Core.Logic.{inl, inr}
use borrow.Author.Tests.{le-leb, lt-leb}
use Rattle.atn.specs.Reading.{unless, mark}
use Rattle.cursor.proofs.Laws.{marked-nil}
use Rattle.length_determinants.proofs.LengthLaws.{head_short, head_long, head_part, head_bad}
use Rattle.length_determinants.proofs.one.Goals.{then-m-ge1+else-m-le4, else-m-ge1}
use Rattle.length_determinants.proofs.one.Goals as goal

-- the short form
pub returns-then-form-eq0 : goal.returns-then-form-eq0
returns-then-form-eq0 c =
    head_short c.requires c.bits-form.ensures c.if-form-eq0.true c.known-n.ensures

-- the long form, from 128 on and below
pub returns-then-n-ge128 : goal.returns-then-n-ge128
unfolding unless
returns-then-n-ge128 c =
    let n = c.known-n-then-more-eq0 in
    head_long c.requires c.bits-form.ensures c.if-form-eq0.false c.bits-more.ensures c.if-more-eq0.true n.ensures (marked-nil n.result.c ∙ rw (le-leb 128 n.result.v c.if-n-ge128.true))

pub returns-then-more-eq0 : goal.returns-then-more-eq0
unfolding unless mark
returns-then-more-eq0 c =
    let n = c.known-n-then-more-eq0 in
    head_long c.requires c.bits-form.ensures c.if-form-eq0.false c.bits-more.ensures c.if-more-eq0.true n.ensures (c.mark-m.ensures ∙ rw (lt-leb 128 n.result.v c.if-n-ge128.false))

-- a fragment
pub returns-then-m-le4 : goal.returns-then-m-le4
returns-then-m-le4 c =
    head_part c.requires c.bits-form.ensures c.if-form-eq0.false c.bits-more.ensures c.if-more-eq0.false c.known-m.ensures c.if-m-ge1.true c.if-m-le4.true c.mark-f.ensures

pub returns : goal.returns
returns c =
    head_bad c.requires c.bits-form.ensures c.if-form-eq0.false c.bits-more.ensures c.if-more-eq0.false c.known-m.ensures
    (elim c.if-m-ge1.branch [ then-m-ge1+else-m-le4 w ↦ inr w.if-m-le4.false | else-m-ge1 w ↦ inl w.if-m-ge1.false ])
    c.stop-f.ensures
