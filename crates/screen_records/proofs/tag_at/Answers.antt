use mathlib.Core.Path.{ap}
use Rattle.record_views.specs.declared.Record.{Record}
use Rattle.screen_records.specs.Fields.{tag}
use Rattle.screen_records.proofs.FieldLaws.{behind}
use Rattle.screen_records.proofs.tag_at.Goals as goal

pub returns : goal.returns
unfolding tag
returns c = ap (λ (x : Record). x.tag) (behind _ _ _ c.record_at-x.ensures)
