use Rattle.records.proofs.Telling.{told-then}
use Rattle.named_places.specs.Names.{published_recs}
use Rattle.tell_named_places.proofs.tell_published.Goals as goal

pub returns-in-Fix : goal.returns-in-Fix
unfolding published_recs
returns-in-Fix c = rw c.in-Fix.is (told-then c.emit-m.ensures c.tell_named.ensures)

pub returns-in-Navaid : goal.returns-in-Navaid
unfolding published_recs
returns-in-Navaid c = rw c.in-Navaid.is (told-then c.emit-m-in-Navaid.ensures c.tell_named-in-Navaid.ensures)
