-- The invariant of the loop: `Going`, the starts so far are known and written, and the rest is still to be cut.
use Prim.Native.Nat.{◌-◌}
use lib.ListN.{length}
use Rattle.message_runs.specs.Runs.{format_of}
use Rattle.run_starts.proofs.WalkLaws.{Going}
use Rattle.run_starts.proofs.walk.Given as goal

abbrev pub invariant-loop-at : goal.invariant-loop-at
invariant-loop-at l = Going (format_of l.kind l.direction l.down l.up) l.run l.initial.starts l.starts l.count l.at

abbrev pub decreases-loop-at : goal.decreases-loop-at
decreases-loop-at l = length l.run - l.at
