use mathlib.Core.Path.{refl}
use Rattle.field_ranges.specs.Ends.{lowest, highest}
use Rattle.atn.specs.Reading.{flags}
use Rattle.cursor.proofs.FormatLaws.{all_read, takes_plain, fields_must, fields_last}
use Rattle.codes_runways.proofs.read_runway.Goals as goal

pub returns : goal.returns
unfolding lowest highest flags all_read
returns c = record { reads = λ t u. takes_plain refl refl (fields_must (c.ranged-direction.ensures.number t) (fields_last (c.ranged-side.ensures.number u))) }
