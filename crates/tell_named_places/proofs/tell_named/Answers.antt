use Rattle.records.proofs.Telling.{told-then}
use Rattle.named_places.specs.Names.{named_recs}
use Rattle.tell_named_places.proofs.tell_named.Goals as goal

pub returns : goal.returns
unfolding named_recs
returns c = told-then c.tell_text-m.ensures c.tell_maybe_pair.ensures
