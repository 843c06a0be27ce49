use mathlib.Core.Path.{refl}
use Rattle.field_ranges.specs.Ends.{lowest, highest}
use Rattle.atn.specs.Reading.{flags}
use Rattle.cursor.proofs.FormatLaws.{all_read}
use Rattle.told_fields.proofs.DoesLaws.{does_plain, does_must, does_last}
use Rattle.cm_logon.proofs.etd_date.Goals as goal

pub returns : goal.returns
unfolding lowest highest flags all_read
returns c = does_plain refl refl (does_must c.number-year.ensures (does_must c.number-month.ensures (does_last c.number.ensures)))
