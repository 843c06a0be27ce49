use mathlib.Core.Path.{◌≡◌, refl, ◌∙◌}
use mathlib.Core.Bool.{false≢true}
use Prim.Native.Nat.{◌+◌, ◌-◌}
use native.Mathlib.Omega.{arith}
use borrow.Author.Tests.{leb-true}
use Rattle.ample_bits.proofs.AheadLaws.{first-spelt, ahead-next, ahead_fewer}
use Rattle.elements.proofs.UnlistedLaws.{stands_first, stands_next, stands_fails}
use Rattle.elements.proofs.unlisted.names_unlisted.Goals as goal

pub index_width-width-requires : goal.index_width-width-requires
index_width-width-requires c = (c.requires.3, c.requires.4)

pub returns-then-width-eq0 : goal.returns-then-width-eq0
returns-then-width-eq0 c q = absurd (false≢true q)

pub loop-word-init : goal.loop-word-init
loop-word-init c = (omega arith, c.requires.5, omega arith, c.requires.2, λ m i n h. stands_first _ i _)

pub first-index-requires : goal.first-index-requires
first-index-requires c = (omega (arith, c.if-width-eq0.false), omega (arith, c.index_width-width.ensures.1))

pub overflow_add-q : goal.overflow_add-q
overflow_add-q c = omega (arith, c.loop-word.invariant.2, c.loop-word.invariant.1, c.requires.1, c.requires.6, c.index_width-width.ensures.1)

pub returns-then-table-index : goal.returns-then-table-index
returns-then-table-index c q =
    λ m i n.
    let l = c.loop-word.invariant in
    let held = leb-true _ _ q in
    stands_fails _ i _ c.index_width-width.ensures.0 (c.first-index.ensures ∙ first-spelt l.3 _ (omega (arith, c.index_width-width.ensures.1))) held (l.4 m i n (omega arith)) (omega (arith, l.0, l.1)) c.if-table-index.true

pub returns-then-count-k : goal.returns-then-count-k
returns-then-count-k c q = absurd (false≢true q)

pub behind-requires : goal.behind-requires
behind-requires c = omega (arith, c.index_width-width.ensures.1)

pub bounds-table-index : goal.bounds-table-index
bounds-table-index c = omega (arith, c.if-table-index.false)

pub pass_argument-p-requires : goal.pass_argument-p-requires
pass_argument-p-requires c = (c.requires.0, omega (arith, c.loop-word.invariant.2, c.loop-word.invariant.1, c.requires.1, c.requires.6, c.index_width-width.ensures.1), ahead_fewer 45 (ahead-next _ c.loop-word.invariant.3 refl c.behind.ensures (omega (arith, c.index_width-width.ensures.1))) (omega (arith, c.index_width-width.ensures.1)))

pub returns-then-p-eq0 : goal.returns-then-p-eq0
returns-then-p-eq0 c q = absurd (false≢true q)

pub rest-v-requires : goal.rest-v-requires
rest-v-requires c = (c.requires.0, omega (arith, (c.pass_argument-p.ensures c.if-p-eq0.false).near, c.loop-word.invariant.2, c.loop-word.invariant.1, c.requires.1, c.requires.6, c.index_width-width.ensures.1))

pub overflow_add-k : goal.overflow_add-k
overflow_add-k c = omega (arith, c.if-count-k.false, c.requires.6)

pub loop-word-smaller : goal.loop-word-smaller
loop-word-smaller c = omega (arith, c.if-count-k.false)

pub loop-word-preserved : goal.loop-word-preserved
loop-word-preserved c =
    let l = c.loop-word.invariant in
    let a = c.pass_argument-p.ensures c.if-p-eq0.false in
    let w = c.index_width-width.ensures in (
      omega arith,
      omega (arith, c.if-count-k.false),
      omega (arith, a.near, l.2, l.0, w.1),
      ahead_fewer 53 c.rest-v.ensures (omega arith),
      λ m i n h. (let e : c.loop-word.k + 1 - 1 ≡ c.loop-word.k - 1 + 1 = omega (arith, l.0) in
          let forth = (a.sure (0, 0)).forth in
          rw e (stands_next _ i _ w.0 (c.first-index.ensures ∙ first-spelt l.3 _ (omega (arith, w.1))) (omega arith) (l.4 m i n (omega arith)) (omega (arith, l.0, l.1, c.if-count-k.false)) (omega (arith, c.if-table-index.false)) a h)),
    )
