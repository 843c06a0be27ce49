-- The invariant of the loop: the bits before i are the same.
use Rattle.std.proofs.Common.{◌*◌, ◌≤◌, length}
use Rattle.rewrite_lines.specs.Same.{SameBits}
use Rattle.rewrite_lines.proofs.same.same_bits.Given as goal

abbrev pub invariant-loop-i : goal.invariant-loop-i
invariant-loop-i l = (l.n ≤ length l.a * 8) × (l.n ≤ length l.b * 8) × SameBits l.a l.b l.i
