use mathlib.Core.Path.{refl, sym, ◌∙◌}
use Prim.Native.Nat.{◌*◌}
use native.Mathlib.Omega.{arith}
use Rattle.list_comparison.proofs.AlikeLaws.{other, same}
use Rattle.list_comparison.proofs.LoopLaws.{slices, upto_more, is-missing, is_incomplete, is_different, are_too_many, are_the_same}
use Rattle.list_comparison.proofs.compare.Goals as goal

pub loop-i-init : goal.loop-i-init
loop-i-init c = (omega arith, λ R e. refl)

pub returns-then-left-eq0 : goal.returns-then-left-eq0
returns-then-left-eq0 c R e = let v = c.loop-i.invariant in is-missing _ _ _ c.requires _ v.1 R e c.loop-i-test.true (omega (arith, c.if-left-eq0.true))

pub returns-then-left-lt-WORDS : goal.returns-then-left-lt-WORDS
returns-then-left-lt-WORDS c R e = let v = c.loop-i.invariant in is_incomplete _ _ _ c.requires _ v.1 R e c.loop-i-test.true (omega (arith, v.0, c.if-left-eq0.false)) (omega (arith, c.if-left-lt-WORDS.true))

pub returns-then-ne : goal.returns-then-ne
returns-then-ne c R e = let v = c.loop-i.invariant in is_different _ _ _ c.requires _ v.1 R e c.loop-i-test.true (omega (arith, c.if-left-lt-WORDS.false)) (sym (slices c.args.words.now c.args.list.now (c.loop-i.i * 5) (omega (arith, c.requires, c.loop-i-test.true)) (omega (arith, v.0, c.if-left-lt-WORDS.false))) ∙ other c.ne.ensures c.if-ne.true)

pub loop-i-preserved : goal.loop-i-preserved
loop-i-preserved c = let v = c.loop-i.invariant in (omega (arith, c.if-left-lt-WORDS.false), upto_more _ _ _ c.requires _ v.1 c.loop-i-test.true (omega (arith, c.if-left-lt-WORDS.false)) (sym (slices c.args.words.now c.args.list.now (c.loop-i.i * 5) (omega (arith, c.requires, c.loop-i-test.true)) (omega (arith, v.0, c.if-left-lt-WORDS.false))) ∙ same c.ne.ensures c.if-ne.false))

pub returns-then-count-list : goal.returns-then-count-list
returns-then-count-list c R e = let v = c.loop-i.invariant in are_too_many _ _ _ c.requires _ v.1 R e c.loop-i-test.false c.loop-i.auto.i-end c.if-count-list.true

pub returns : goal.returns
returns c R e = let v = c.loop-i.invariant in are_the_same _ _ _ c.requires _ v.1 R e c.loop-i-test.false c.loop-i.auto.i-end c.if-count-list.false
