use Prim.Native.Nat.{◌*◌}
use lib.ListN.{length}
use Rattle.x691.specs.Bits.{bit_of}
use Rattle.schema_parts.proofs.MemberLaws.{Marked}
use Rattle.schema_parts.proofs.members.unread_marks.Given as goal

abbrev pub invariant-loop-i : goal.invariant-loop-i
invariant-loop-i l = Marked l.nodes l.first l.count (bit_of l.s) l.at (length l.s * 8) l.marks l.q l.i
