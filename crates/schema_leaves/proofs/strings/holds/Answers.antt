use Rattle.schema_leaves.proofs.StringLaws.{holds_not, holds_more}
use Rattle.schema_leaves.proofs.strings.holds.Goals as goal

pub returns-then-room-fewest : goal.returns-then-room-fewest
returns-then-room-fewest c = holds_not c.args.room c.args.fewest c.args.more c.if-room-fewest.true

pub returns : goal.returns
returns c = holds_more c.args.room c.args.fewest c.args.more c.if-room-fewest.false
