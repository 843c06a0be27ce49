use Rattle.legs.proofs.LegLaws.{ranging_stops}
use Rattle.legs.proofs.read_ranging.Goals as goal

pub returns : goal.returns
returns c = ranging_stops c.read_published-place.ensures.reads c.read_degrees-degrees.ensures.reads c.stop.ensures
