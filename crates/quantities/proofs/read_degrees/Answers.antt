use mathlib.Core.Path.{refl}
use native.Mathlib.Omega.{arith}
use Rattle.x691.specs.Encoding.{width, width_in, count}
use Rattle.x691.specs.Encoding as encoding
use Rattle.field_ranges.specs.Ends.{lowest, highest}
use Rattle.quantities.specs.Readers.{index_width}
use Rattle.quantities.proofs.read_degrees.Goals as goal

pub read_quantity-requires : goal.read_quantity-requires
unfolding index_width width width_in encoding.highest count
read_quantity-requires c = (refl, omega arith, omega arith)

pub returns : goal.returns
unfolding lowest highest
returns c = record { reads = c.read_quantity.ensures.reads 55 56 }
