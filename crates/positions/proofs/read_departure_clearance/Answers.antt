use Rattle.field_ranges.specs.Ends.{lowest, highest}
use Rattle.positions.specs.Positions.{departure_recs}
use Rattle.named_places.proofs.NameLaws.{held-text}
use Rattle.positions.proofs.UnreadLaws.{takes_unread}
use Rattle.positions.proofs.read_departure_clearance.Goals as goal

pub returns : goal.returns
unfolding lowest highest departure_recs
returns c =
    record {
      reads = takes_unread 71 72 c.read_flag-information.ensures c.read_flag-instructions.ensures (c.ia5-flight.ensures.text 70) c.read_position-place.ensures.reads;
      held_flight = held-text c.ia5-flight.ensures;
      held_position = c.read_position-place.ensures.held;
    }
