use Rattle.field_ranges.specs.Ends.{lowest, highest}
use Rattle.cursor.proofs.FormatLaws.{times_none, times_more, takes_times}
use Rattle.codes_runways.proofs.read_code.Goals as goal

pub returns : goal.returns
unfolding lowest highest
returns c =
    record {
      reads = takes_times 4 (times_more (c.ranged-first.ensures.number 60) (times_more (c.ranged-second.ensures.number 60) (times_more (c.ranged-third.ensures.number 60) (times_more (c.ranged-fourth.ensures.number 60) times_none))));
    }
