use Rattle.record_views.proofs.ViewLaws.{one-record, a_record, counted}
use Rattle.record_views.proofs.records_in.Goals as goal

pub nonzero_div-result : goal.nonzero_div-result
nonzero_div-result c = rw c.words_for.ensures a_record

pub returns : goal.returns
returns c = rw (c.words_for.ensures, one-record, counted)
