use Rattle.x691.specs.Bits.{bit_of}
use Rattle.schema_parts.proofs.MemberLaws.{mark-clear, mark_set}
use Rattle.schema_parts.proofs.members.unread_mark.Goals as goal

pub returns-then-bit-eq0 : goal.returns-then-bit-eq0
returns-then-bit-eq0 c = rw c.in-Unread.is (mark-clear (bit_of c.args.s.now) c.args.q c.bit.ensures c.if-bit-eq0.true)

pub returns-else-bit-eq0 : goal.returns-else-bit-eq0
returns-else-bit-eq0 c = rw c.in-Unread.is (mark_set (bit_of c.args.s.now) c.args.q c.bit.ensures c.if-bit-eq0.false)
