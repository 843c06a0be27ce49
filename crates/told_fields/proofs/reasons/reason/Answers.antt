use mathlib.Core.Path.{◌∙◌}
use Rattle.field_ranges.proofs.RowLaws.{lowest_of}
use Rattle.cursor.proofs.FormatLaws.{takes_null, takes_noted}
use Rattle.told_fields.proofs.DoesLaws.{does_told}
use Rattle.told_fields.proofs.ChoiceLaws.{does_root, does_extended}
use Rattle.told_fields.proofs.reasons.reason.Goals as goal

pub returns-then-extension-eq0 : goal.returns-then-extension-eq0
returns-then-extension-eq0 c = does_root c.bits-extension.result c.bits-extension.ensures c.if-extension-eq0.true (rw (lowest_of c.requires.1 ∙ c.requires.2) at c.number.ensures)

pub returns : goal.returns
returns c = does_extended c.bits-extension.result c.bits-extension.ensures c.if-extension-eq0.false c.mark-end.ensures (does_told (takes_noted c.args.tag 0 1 takes_null) c.emit-n.ensures)
