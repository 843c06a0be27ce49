use Rattle.field_ranges.proofs.RowLaws.{in_place}
use Rattle.field_ranges.proofs.table.range_at.Goals as goal

-- a row that is not named, by the table
pub returns-in_default : goal.returns-in_default
returns-in_default c = in_place c.args.row c.requires
