-- `bit_writer::number::put` meets its contract. The loop's invariant: the bits still to put are the `left` ones of `rest`, from `place` on.
use mathlib.Core.Path.{◌≡◌}
use Prim.Native.Nat.{◌+◌, ◌^◌, ◌≤◌, ◌<◌}
use lib.ListN.{length}
use Rattle.x691.specs.Bits.{bits_of}
use Rattle.bit_writer.specs.Put.{set_bits}
use Rattle.bit_writer.proofs.number.put.Given as goal

abbrev pub invariant-loop-left : goal.invariant-loop-left
invariant-loop-left l =
    (set_bits l.initial.out l.at (bits_of l.n l.v) ≡ set_bits l.out l.place (bits_of l.left l.rest)) × (l.rest < 2 ^ l.left) × (l.place + l.left ≡ l.at + l.n) × (l.left ≤ 64) × (length l.out ≡ length l.initial.out)

abbrev pub decreases-loop-left : goal.decreases-loop-left
decreases-loop-left l = l.left
