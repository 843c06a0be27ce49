use Rattle.records.proofs.Telling.{told-then, told-length}
use Rattle.field_ranges.specs.Ends.{lowest, highest}
use Rattle.angles.specs.Angles.{pair_recs}
use Rattle.tell_angles.proofs.tell_pair.Goals as goal

pub returns : goal.returns
unfolding pair_recs lowest highest
returns c =
    told-then c.emit-a.ensures
    (told-then (rw (c.width.ensures.0, c.width-2.ensures.0) at c.tell_maybe_angle-b.ensures) (rw (c.width-3.ensures.0, c.width-4.ensures.0) at c.tell_maybe_angle.ensures))

pub shape_of-words : goal.shape_of-words
shape_of-words c = told-length (returns c)
