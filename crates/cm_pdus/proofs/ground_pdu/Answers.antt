use Rattle.x691.specs.Encoding.{width, width_in, highest, count}
use Rattle.told_fields.proofs.ChoiceLaws.{does_choice}
use Rattle.cm_pdus.proofs.ground_pdu.Goals as goal

pub returns : goal.returns
unfolding width width_in highest count
returns c = does_choice c.bits-index.result c.bits-index.ensures c.emit-n.ensures c.ground_message.ensures
