-- `per::number::wide` meets its contract: one octet or eight hold the bits, where they are there, or what each octet has of them.
use Rattle.std.proofs.Common.{◌≡◌, ℕ, ◌+◌, ◌-◌, ◌*◌, ◌<◌, ◌≤◌, List}
use Rattle.x691.specs.Bits.{bit_of, uint}
use Rattle.per.proofs.number.wide.Given as goal

-- v is the number of all but the bits that are left, which begin in octet i behind the first `skip`
pub record Taken (s : List ℕ) (at n i skip v left : ℕ) : Type 0 where
  pub place : 0 < left → 8 * i + skip + left ≡ at + n
  pub some : left ≤ n
  pub within : skip < 8
  pub value : v ≡ uint (bit_of s) at (n - left)

abbrev pub invariant-loop-left : goal.invariant-loop-left
invariant-loop-left l = Taken l.s l.at l.n l.i l.skip l.v l.left

abbrev pub decreases-loop-left : goal.decreases-loop-left
decreases-loop-left l = l.left
