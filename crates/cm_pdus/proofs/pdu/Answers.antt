use Rattle.told_fields.proofs.ChoiceLaws.{does_root}
use Rattle.cm_pdus.proofs.PduLaws.{pdu-extended}
use Rattle.cm_pdus.proofs.pdu.Goals as goal

pub returns-then-extension-ne0 : goal.returns-then-extension-ne0
returns-then-extension-ne0 c = pdu-extended c.bits-extension.result c.bits-extension.ensures 3273 c.args.ground c.if-extension-ne0.true c.mark-marked.ensures c.refuse.ensures

pub returns-then-ground : goal.returns-then-ground
returns-then-ground c = rw c.if-ground.true (does_root c.bits-extension.result c.bits-extension.ensures c.if-extension-ne0.false c.ground_pdu.ensures)

pub returns : goal.returns
returns c = rw c.if-ground.false (does_root c.bits-extension.result c.bits-extension.ensures c.if-extension-ne0.false c.aircraft_pdu.ensures)
