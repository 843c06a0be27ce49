use Rattle.records.proofs.Telling.{told-then}
use Rattle.named_places.specs.Names.{procedure_recs}
use Rattle.tell_named_places.proofs.tell_procedure.Goals as goal

pub returns : goal.returns
unfolding procedure_recs
returns c = told-then c.emit-a.ensures (told-then c.tell_text-b.ensures c.tell_maybe_text.ensures)
