use mathlib.Core.Path.{refl, ◌∙◌}
use mathlib.Core.List.{List}
use Prim.Native.Nat.{ℕ, ◌+◌, ◌-◌, ◌≤◌}
use native.Mathlib.Omega.{arith}
use Rattle.per.proofs.Laws.{uint-below}
use Rattle.atn.specs.Reading.{or}
use Rattle.records.proofs.Sizes.{space_grows}
use Rattle.records.proofs.Telling.{told-within, room_next}
use Rattle.ample_bits.specs.Ahead.{Ahead}
use Rattle.ample_bits.proofs.AheadLaws.{first-spelt, ahead-next, ahead_fewer}
use Rattle.ample_readings.proofs.AmpleLaws.{ample_done, room_of}
use Rattle.ample_angles.proofs.PairLaws.{pair-none, left-all, left-next, left_last}
use Rattle.ample_angles.proofs.read_pair.Goals as goal
use Rattle.ample_angles.proofs.read_pair.Goals.{Else-x-eq0}

pub store-m-requires : goal.store-m-requires
store-m-requires c = room_next _ (room_of 11 c.args.n c.args.words.now (omega (arith, c.requires.0)) (omega arith) c.requires.1)

pub returns-then-has-eq0 : goal.returns-then-has-eq0
returns-then-has-eq0 c =
    ample_done (record {
      recs = _;
      sure = λ i. pair-none (c.first-has.ensures ∙ first-spelt c.ahead-word.ensures 2 (omega arith)) c.if-has-eq0.true;
      near = omega arith;
      told = told-within 11 (omega arith) c.store-m.ensures;
    })

pub loop-left-init : goal.loop-left-init
loop-left-init c =
    let h = c.ahead-word.ensures in
    let u = c.first-has.ensures ∙ first-spelt h 2 (omega arith) in
    (omega (arith, c.if-has-eq0.false), omega (arith, u, uint-below c.args.s.now c.args.at 2), omega arith, λ _. (refl, refl), omega arith, refl, left-all u, ahead_fewer _ (ahead-next 2 h refl c.behind-v.ensures (omega arith)) (omega arith))

pub angle-x-requires : goal.angle-x-requires
angle-x-requires c =
    let i = c.loop-left.invariant in
    let t = c.store-m.ensures in
    let w = c.bounds_of-by.ensures in
    let e : c.loop-left.k + 5 ≤ c.args.n + 11 = omega (arith, i.2, t.few) in
    (omega (arith, e, c.requires.0), omega (arith, c.requires.1, t.room, i.5, space_grows e), omega (arith, i.4, c.requires.2), w.0, w.1, w.2, w.3, w.4, w.5, w.6, w.7, w.8)

angle-ahead : (s : List ℕ) {p v : ℕ} (at : ℕ) → Ahead s p (at + 57 - p) v → p ≤ at + 26 → Ahead s p 24 v
angle-ahead s at a l = ahead_fewer 24 a (omega (arith, l))

pub shape_of-words-then-left-ne3 : goal.shape_of-words-then-left-ne3
shape_of-words-then-left-ne3 c =
    omega (arith, (c.angle-x.ensures _ (angle-ahead c.args.s.now c.args.at c.loop-left.invariant.7 c.loop-left.invariant.4)).room, c.loop-left.invariant.5, c.store-m.ensures.room)

pub returns-then-left-ne3 : goal.returns-then-left-ne3
unfolding or
returns-then-left-ne3 c =
    let w = c.bounds_of-by.ensures in
    let i = c.loop-left.invariant in
    left_last c.loop-left.left i.6 i.0 (omega (arith, i.1, c.if-left-ne3.true)) w.9 w.10 c.store-m.ensures (c.angle-x.ensures _ (angle-ahead c.args.s.now c.args.at c.loop-left.invariant.7 c.loop-left.invariant.4))

pub shape_of-words-then-x-eq0 : goal.shape_of-words-then-x-eq0
shape_of-words-then-x-eq0 c =
    omega (arith, (c.angle-x.ensures _ (angle-ahead c.args.s.now c.args.at c.loop-left.invariant.7 c.loop-left.invariant.4)).room, c.loop-left.invariant.5, c.store-m.ensures.room)

pub returns-then-x-eq0 : goal.returns-then-x-eq0
returns-then-x-eq0 c =
    c.loop-left.invariant.6.none c.if-left-ne3.false _ _ _ _ c.store-m.ensures (c.angle-x.ensures _ (angle-ahead c.args.s.now c.args.at c.loop-left.invariant.7 c.loop-left.invariant.4)) c.if-x-eq0.true

-- the latitude ends behind its start, 24 bits at most
latitude-long : (c : Else-x-eq0) → (c.loop-left.p ≤ c.angle-x.result.at) × (c.angle-x.result.at ≤ c.loop-left.p + 24)
latitude-long c =
    let d = (c.angle-x.ensures _ (angle-ahead c.args.s.now c.args.at c.loop-left.invariant.7 c.loop-left.invariant.4)).done c.if-x-eq0.false in
    ((d.sure 0).forth, d.near)

pub overflow_sub-x : goal.overflow_sub-x
overflow_sub-x c = (latitude-long (goal.at.overflow_sub-x c).Else-x-eq0).0

pub behind-v-requires-in-loop-left : goal.behind-v-requires-in-loop-left
behind-v-requires-in-loop-left c = omega (arith, (latitude-long (goal.at.behind-v-requires-in-loop-left c).Else-x-eq0).1)

pub loop-left-smaller : goal.loop-left-smaller
loop-left-smaller c = omega (arith, c.if-left-ne3.false)

pub loop-left-preserved : goal.loop-left-preserved
loop-left-preserved c =
    let i = c.loop-left.invariant in
    let e = c.if-left-ne3.false in
    let h = i.3 e in
    let d = (c.angle-x.ensures _ (angle-ahead c.args.s.now c.args.at c.loop-left.invariant.7 c.loop-left.invariant.4)).done c.if-x-eq0.false in
    let k = latitude-long (goal.at.loop-left-preserved c).Else-x-eq0 in
    let v = ahead-next {q = c.angle-x.result.at} (c.angle-x.result.at - c.loop-left.p) i.7 (omega (arith, k.0)) c.behind-v-in-loop-left.ensures (omega (arith, k.1, h.1)) in
    (omega arith, omega arith, omega (arith, h.0, d.told.few), λ q. absurd (omega (arith, q)), omega (arith, h.1, d.near), omega (arith, i.5, d.told.room), left-next i.6 e (c.bounds_of-by.ensures.10 (λ q. omega (arith, q, e))) d, ahead_fewer _ v (omega (arith, k.0)))
