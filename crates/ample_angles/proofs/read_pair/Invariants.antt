-- `read_pair` meets its contract: what is left of its angles makes the pair.
use mathlib.Core.Path.{◌≡◌}
use Prim.Native.Nat.{◌+◌, ◌-◌, ◌≤◌}
use lib.ListN.{length}
use Rattle.ample_bits.specs.Ahead.{Ahead}
use Rattle.ample_angles.proofs.PairLaws.{Left}
use Rattle.ample_angles.proofs.read_pair.Given as goal

-- v has what is left of the 57 bits that were ahead
abbrev pub invariant-loop-left : goal.invariant-loop-left
invariant-loop-left l =
    (1 ≤ l.left) × (l.left ≤ 3) × (l.k ≤ l.m + 5) × (l.left ≡ 3 → (l.k ≡ l.m) × (l.p ≡ l.at + 2)) × (l.p ≤ l.at + 26) × (length l.words ≡ length l.initial.words) × Left l.s l.at l.n l.m l.initial.words l.words l.k l.p l.marks l.left × Ahead l.s l.p (l.at + 57 - l.p) l.v

abbrev pub decreases-loop-left : goal.decreases-loop-left
decreases-loop-left l = l.left
