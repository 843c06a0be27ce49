use Rattle.field_ranges.specs.Ends.{highest}
use Rattle.cursor.proofs.FormatLaws.{times_none, times_more, takes_times}
use Rattle.enumerations.proofs.read_speed_type_triple.Goals as goal

pub returns : goal.returns
unfolding highest
returns c =
    record {
      reads = takes_times 3 (times_more (c.read_speed_type-a.ensures.reads 52) (times_more (c.read_speed_type-b.ensures.reads 52) (times_more (c.read_speed_type-d.ensures.reads 52) times_none)));
    }
