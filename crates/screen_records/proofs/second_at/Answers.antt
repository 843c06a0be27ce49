use mathlib.Core.Path.{ap}
use Rattle.record_views.specs.declared.Record.{Record}
use Rattle.screen_records.specs.Fields.{second}
use Rattle.screen_records.proofs.FieldLaws.{here}
use Rattle.screen_records.proofs.second_at.Goals as goal

pub returns : goal.returns
unfolding second
returns c = ap (λ (x : Record). x.second) (here _ _ c.record_at-x.ensures)
