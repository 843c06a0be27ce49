-- The loop keeps the characters above the k lowest.
use mathlib.Core.Path.{◌≡◌}
use Prim.Native.Nat.{ℕ, ◌-◌, ◌*◌, ◌/◌, ◌^◌, ◌≤◌}
use Rattle.tell.specs.Characters.{widened}
use Rattle.tell.proofs.spread.spread.Given as goal

-- r is the octets of all characters but the k lowest, of eight of w bits
pub record Above (v w k r : ℕ) : Type 0 where
  pub few : k ≤ 8
  pub sum : r ≡ widened w 8 (8 - k) (v / 2 ^ (k * w))

abbrev pub invariant-loop-k : goal.invariant-loop-k
invariant-loop-k l = Above l.v l.width l.k l.r
