-- Each of the three lines halves. What it makes is below 2 ^ 64, and so no sum and no product wraps.
use mathlib.Core.Path.{◌≡◌}
use Prim.Native.Nat.{ℕ, ◌^◌, ◌<◌}
use native.Mathlib.Nat.{mod-eq_of_lt}
use native.Mathlib.Omega.{arith}
use lib.Dec.{lit≤}
use Rattle.tell.specs.Characters.{widened}
use Rattle.tell.proofs.WideningLaws.{ones, apart, halved, widened-below}
use Rattle.tell.proofs.spread.spread_sevens.Goals as goal

module _ {v : ℕ} (h : v < 2 ^ 56) where
  row : widened 56 64 1 v ≡ v
  unfolding widened
  row = omega (arith, mod-eq_of_lt h)

  fours : apart 28 4 1 v ≡ widened 28 32 2 v
  fours = rw row at (halved 28 4 1 v)

  twos : apart 14 2 2 (apart 28 4 1 v) ≡ widened 14 16 4 v
  twos = rw fours (halved 14 2 2 v)

  singles : apart 7 1 4 (apart 14 2 2 (apart 28 4 1 v)) ≡ widened 7 8 8 v
  singles = rw twos (halved 7 1 4 v)

pub overflow_mul-fours : goal.overflow_mul-fours
unfolding ones
overflow_mul-fours c = omega (arith, fours c.requires, widened-below 28 32 2 c.args.v (lit≤ tt))

pub overflow_add-fours : goal.overflow_add-fours
unfolding ones
overflow_add-fours c = omega (arith, fours c.requires, widened-below 28 32 2 c.args.v (lit≤ tt))

pub overflow_mul-twos : goal.overflow_mul-twos
unfolding ones
overflow_mul-twos c = omega (arith, twos c.requires, widened-below 14 16 4 c.args.v (lit≤ tt))

pub overflow_add-twos : goal.overflow_add-twos
unfolding ones
overflow_add-twos c = omega (arith, twos c.requires, widened-below 14 16 4 c.args.v (lit≤ tt))

pub overflow_add-result : goal.overflow_add-result
unfolding ones
overflow_add-result c = omega (arith, singles c.requires, widened-below 7 8 8 c.args.v (lit≤ tt))

pub returns : goal.returns
unfolding ones
returns c = omega (arith, singles c.requires)
