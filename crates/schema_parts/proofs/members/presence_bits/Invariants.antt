use Rattle.schema_parts.proofs.MemberLaws.{Counts}
use Rattle.schema_parts.proofs.members.presence_bits.Given as goal

abbrev pub invariant-loop-i : goal.invariant-loop-i
invariant-loop-i l = Counts l.nodes l.first l.count l.bits l.i
