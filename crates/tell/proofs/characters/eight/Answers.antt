use Rattle.std.proofs.Common.{◌∙◌}
use Rattle.std.proofs.Math.Nat.{min_comm}
use native.Mathlib.Omega.{arith}
use lib.Pow.{pow_mono}
use Rattle.tell.proofs.WideningLaws.{ones}
use Rattle.tell.proofs.EightLaws.{Placed, Packed, eight-placed, eight-packed}
use Rattle.tell.proofs.characters.eight.Goals as goal
use Rattle.tell.proofs.characters.eight.Goals.{After-min-k, After-spread-v}

placed : (c : After-min-k) → let a = c.args in Placed a.s.now a.r a.i c.min-k.result
placed c = eight-placed c.args.s.now c.args.r c.args.i c.requires.1 c.requires.0 (c.min-k.ensures ∙ min_comm _ _)

packed : (c : After-spread-v) → let a = c.args in Packed a.s.now a.r a.i c.min-k.result c.spread-v.result
packed c =
    eight-packed c.args.s.now c.args.r c.args.i c.requires.1 c.requires.0 (c.min-k.ensures ∙ min_comm _ _)
    (c.wide.ensures.0 (omega (arith, (eight-placed c.args.s.now c.args.r c.args.i c.requires.1 c.requires.0 (c.min-k.ensures ∙ min_comm _ _)).there))) c.spread-v.ensures

pub overflow_mul-i : goal.overflow_mul-i
overflow_mul-i c = omega (arith, placed (goal.at.overflow_mul-i c).After-min-k)

pub overflow_add-r : goal.overflow_add-r
overflow_add-r c = omega (arith, placed (goal.at.overflow_add-r c).After-min-k)

pub overflow_mul-k : goal.overflow_mul-k
overflow_mul-k c = omega (arith, placed (goal.at.overflow_mul-k c).After-min-k)

pub wide-requires : goal.wide-requires
wide-requires c = omega (arith, placed (goal.at.wide-requires c).After-min-k)

pub spread-v-requires : goal.spread-v-requires
spread-v-requires c = (c.requires.1.narrow, omega (arith, c.wide.ensures.1, pow_mono (placed (goal.at.spread-v-requires c).After-min-k).few))

pub overflow_mul-result : goal.overflow_mul-result
unfolding ones
overflow_mul-result c = omega (arith, (packed (goal.at.overflow_mul-result c).After-spread-v).fits)

pub overflow_add-result : goal.overflow_add-result
unfolding ones
overflow_add-result c = omega (arith, (packed (goal.at.overflow_add-result c).After-spread-v).fits)

pub returns : goal.returns
unfolding ones
returns c = (packed (goal.at.returns c).After-spread-v).all
