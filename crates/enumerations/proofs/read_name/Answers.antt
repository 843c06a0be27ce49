use Rattle.atn.specs.Reading.{mark}
use Rattle.cursor.proofs.FormatLaws.{takes_null, takes_noted, takes_root, takes_extended}
use Rattle.enumerations.proofs.read_name.Goals as goal

pub named-g-requires : goal.named-g-requires
named-g-requires c = c.requires

pub returns-then-extension-eq0 : goal.returns-then-extension-eq0
returns-then-extension-eq0 c = record { reads = λ t. takes_root c.bits-extension.result c.bits-extension.ensures c.if-extension-eq0.true (c.named-g.ensures.name t) }

pub returns : goal.returns
unfolding mark
returns c = record { reads = λ t. takes_extended c.bits-extension.result c.bits-extension.ensures c.if-extension-eq0.false c.mark-end.ensures (takes_noted t 0 1 takes_null) }
