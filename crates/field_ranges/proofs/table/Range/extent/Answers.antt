use Rattle.std.proofs.Common.{rules}
use Rattle.x691.specs.Types.{extent}
use Rattle.field_ranges.proofs.table.Range.extent.Goals as goal

-- the difference that wraps
pub returns : goal.returns
unfolding extent
returns c = search rules
