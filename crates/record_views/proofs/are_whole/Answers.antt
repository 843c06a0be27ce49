use Rattle.record_views.specs.View.{whole}
use Rattle.record_views.proofs.ViewLaws.{one-record, a_record}
use Rattle.record_views.proofs.are_whole.Goals as goal

pub nonzero_rem-result : goal.nonzero_rem-result
nonzero_rem-result c = rw c.words_for.ensures a_record

pub returns : goal.returns
unfolding whole
returns c = rw (c.words_for.ensures, one-record)
