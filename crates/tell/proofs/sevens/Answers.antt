use Rattle.std.proofs.Common.{◌∙◌}
use Rattle.std.proofs.Math.Nat.{min_comm}
use native.Mathlib.Omega.{arith}
use lib.Pow.{pow_mono}
use Rattle.tell.proofs.TextsTold.{sevens_of, spelt-text, sevens-told}
use Rattle.tell.proofs.EightLaws.{Placed, eight-placed}
use Rattle.tell.proofs.sevens.Goals as goal
use Rattle.tell.proofs.sevens.Goals.{After-min-k}

placed : (c : After-min-k) → let a = c.args in Placed a.s.now (sevens_of a.x) a.i c.min-k.result
placed c = eight-placed c.args.s.now (sevens_of c.args.x) c.args.i (spelt-text c.requires.1) c.requires.0 (c.min-k.ensures ∙ min_comm _ _)

pub overflow_mul-i : goal.overflow_mul-i
overflow_mul-i c = omega (arith, placed (goal.at.overflow_mul-i c).After-min-k)

pub overflow_add-x : goal.overflow_add-x
overflow_add-x c = omega (arith, placed (goal.at.overflow_add-x c).After-min-k)

pub overflow_mul-k : goal.overflow_mul-k
overflow_mul-k c = omega (arith, placed (goal.at.overflow_mul-k c).After-min-k)

pub wide-requires : goal.wide-requires
wide-requires c = omega (arith, placed (goal.at.wide-requires c).After-min-k)

pub top_sevens-requires : goal.top_sevens-requires
top_sevens-requires c =
    (omega (arith, c.wide.ensures.1, pow_mono (placed (goal.at.top_sevens-requires c).After-min-k).few), omega (arith, (c.min-k.ensures ∙ min_comm _ _), c.requires.0), omega (arith, (c.min-k.ensures ∙ min_comm _ _)))

pub returns : goal.returns
returns c =
    sevens-told c.args.i c.requires.1 c.requires.0 (c.min-k.ensures ∙ min_comm _ _) (c.wide.ensures.0 (omega (arith, (placed (goal.at.returns c).After-min-k).there))) c.top_sevens.ensures
