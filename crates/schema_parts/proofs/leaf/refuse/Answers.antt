use Rattle.schema_parts.proofs.LeafLaws.{refused}
use Rattle.schema_parts.proofs.leaf.refuse.Goals as goal

pub returns : goal.returns
returns c = record { stops = refused c.args.at c.args.marks c.requires c.stop-c.ensures }
