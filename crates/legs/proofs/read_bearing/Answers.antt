use mathlib.Core.Path.{refl}
use Rattle.atn.specs.Reading.{flags}
use Rattle.cursor.proofs.FormatLaws.{all_read, takes_plain, fields_must, fields_last}
use Rattle.legs.specs.Legs.{bearing_recs}
use Rattle.legs.proofs.read_bearing.Goals as goal

pub returns : goal.returns
unfolding flags all_read bearing_recs
returns c = record { reads = takes_plain refl refl (fields_must c.read_published-place.ensures.reads (fields_last c.read_degrees-degrees.ensures.reads)); held = c.read_published-place.ensures.held }
