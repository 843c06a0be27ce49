use Rattle.field_ranges.specs.Ends.{lowest, highest}
use Rattle.angles.specs.Angles.{pair_recs}
use Rattle.angles.proofs.AngleLaws.{pair_reads}
use Rattle.angles.proofs.read_latlon.Goals as goal

pub returns : goal.returns
unfolding lowest highest pair_recs
returns c = record { reads = pair_reads c.presence-flags.result c.presence-flags.ensures (c.read_maybe_angle-latitude.ensures.reads 35) (c.read_maybe_angle-longitude.ensures.reads 42) }
