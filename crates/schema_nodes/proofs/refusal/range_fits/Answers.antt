use Rattle.schema_nodes.proofs.TestLaws.{raised-le}
use Rattle.schema_nodes.proofs.refusal.range_fits.Goals as goal

pub returns : goal.returns
returns c = raised-le c.args.lo c.args.hi _ _ c.wrapping_add_u64.ensures.value c.wrapping_add_u64-2.ensures.value
