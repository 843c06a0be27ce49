use Rattle.schema_parts.proofs.MemberLaws.{bit_is}
use Rattle.schema_parts.proofs.members.bit.Goals as goal

pub returns : goal.returns
returns c = bit_is c.args.s.now c.args.at (c.uint.ensures.0 c.requires)
