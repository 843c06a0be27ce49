use mathlib.Core.Path.{◌≡◌, refl}
use Prim.Native.Nat.{ℕ, ◌-◌, ◌*◌, ◌≤◌}
use native.Mathlib.Omega.{arith}
use Rattle.per.proofs.Laws.{one_shl, one-shl_pos}
use Rattle.pens.proofs.GotLaws.{went_off}
use Rattle.pens.proofs.PenLaws.{writes_still}
use Rattle.write_texts.proofs.WordWrites.{word_turn, word_ends, word_goes_on}
use Rattle.write_texts.proofs.word.write_word.Goals as goal

all_left : (k : ℕ) → k - 0 ≡ k
all_left k = omega arith

no_more : (a b : ℕ) → a ≤ b → a - b ≡ 0
no_more a b h = omega arith

pub loop-i-init : goal.loop-i-init
loop-i-init c = λ T m r Z x. rw (all_left c.args.k) at x

pub nonzero_rem-rest : goal.nonzero_rem-rest
nonzero_rem-rest c = one-shl_pos _ (omega arith)

pub returns-in_err-q : goal.returns-in_err-q
returns-in_err-q c =
    λ T m.
    rw (went_off _ c.from_residual.result c.from_residual.ensures.1) (c.loop-i.invariant T m _ _ (word_turn _ _ T m c.args.k c.loop-i.i c.loop-i.rest _ _ _ _ _ _ c.loop-i-test.true c.requires.1 (c.in_err-q.ensures T m) (writes_still _ _ _ _ _ _ _ _ refl refl)))

pub loop-i-preserved : goal.loop-i-preserved
loop-i-preserved c =
    λ T m r Z x. c.loop-i.invariant T m r Z (word_turn _ _ T m c.args.k c.loop-i.i c.loop-i.rest _ _ _ _ _ _ c.loop-i-test.true c.requires.1 (c.in_ok-q.ensures T m) (rw (one_shl ((7 - c.loop-i.i) * 8) (omega arith)) at x))

pub returns-then-rest-eq0 : goal.returns-then-rest-eq0
returns-then-rest-eq0 c = λ T m. c.loop-i.invariant T m _ _ (rw (no_more _ _ c.loop-i-test.false) (word_ends _ _ T m _ _ _ _ c.if-rest-eq0.true))

pub returns : goal.returns
returns c = λ T m. c.loop-i.invariant T m _ _ (rw (no_more _ _ c.loop-i-test.false) (word_goes_on _ _ T m _ _ _ _ _ _ c.if-rest-eq0.false refl))
