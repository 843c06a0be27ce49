use mathlib.Core.Path.{ap}
use Rattle.record_views.specs.declared.Record.{Record}
use Rattle.screen_records.specs.Fields.{value}
use Rattle.screen_records.proofs.FieldLaws.{behind}
use Rattle.screen_records.proofs.value_at.Goals as goal

pub returns : goal.returns
unfolding value
returns c = ap (λ (x : Record). x.value) (behind _ _ _ c.record_at-x.ensures)
