use Rattle.field_ranges.proofs.table.Range.width.Goals as goal

pub returns : goal.returns
returns c = rw c.extent.ensures at c.bits_for.ensures
