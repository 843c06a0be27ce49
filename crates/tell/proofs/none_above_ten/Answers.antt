use mathlib.Core.Path.{refl, sym, ◌∙◌}
use Prim.Native.Nat.{◌<◌, ◌-◌}
use native.Mathlib.Omega.{arith}
use Rattle.tell.proofs.NumeralLaws.{test_goes, test_fails, test_holds, test_all}
use Rattle.tell.proofs.none_above_ten.Goals as goal

pub loop-i-init : goal.loop-i-init
loop-i-init c = refl

pub overflow_add-x : goal.overflow_add-x
overflow_add-x c = omega (arith, c.loop-i-test.true, c.requires.1.fits)

pub returns-then-wide-gt10 : goal.returns-then-wide-gt10
returns-then-wide-gt10 c =
    let i : c.loop-i.i < c.args.x.len = c.loop-i-test.true in
    let e = c.wide.ensures.0 (omega (arith, c.requires.1.there)) in
    sym (test_all c.args.s.now c.args.x.at c.args.x.len ∙ c.loop-i.invariant ∙ test_fails c.args.s.now c.args.x.at c.args.x.len _ _ i e c.if-wide-gt10.true)

pub loop-i-preserved : goal.loop-i-preserved
loop-i-preserved c =
    let i : c.loop-i.i < c.args.x.len = c.loop-i-test.true in
    let e = c.wide.ensures.0 (omega (arith, c.requires.1.there)) in
    c.loop-i.invariant ∙ test_goes c.args.s.now c.args.x.at c.args.x.len _ _ i e c.if-wide-gt10.false

pub returns : goal.returns
returns c =
    sym (test_all c.args.s.now c.args.x.at c.args.x.len ∙ c.loop-i.invariant ∙ test_holds c.args.s.now c.args.x.at c.args.x.len _ c.loop-i-test.false)
