use mathlib.Core.Path.{◌∙◌, sym}
use native.Mathlib.Omega.{arith}
use borrow.Author.Tests.{leb-true, leb-false}
use Rattle.length_determinants.proofs.LengthLaws.{measures_in, measures_off, measures_lost}
use Rattle.length_determinants.proofs.any_form.Goals as goal

pub count-requires : goal.count-requires
count-requires c =
    let inside = leb-true _ _ (sym c.holds.ensures ∙ c.if-holds.true) in
    (c.requires, (c.if-at-end.true, inside), omega arith)

pub returns-then-holds : goal.returns-then-holds
returns-then-holds c =
    let inside = leb-true _ _ (sym c.holds.ensures ∙ c.if-holds.true) in
    measures_in c.requires inside c.count.ensures

pub returns-else-holds : goal.returns-else-holds
returns-else-holds c = measures_lost (leb-false _ _ (sym c.holds.ensures ∙ c.if-holds.false))

pub returns-else-at-end : goal.returns-else-at-end
returns-else-at-end c = measures_off c.if-at-end.false
