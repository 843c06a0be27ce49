use Rattle.adjagosk.proofs.FrameLaws.{fills}
use Rattle.adjagosk.proofs.writing.adjagosk_write.Goals as goal

pub returns : goal.returns
returns c = fills c.write_message-a.result c.write_message-a.ensures c.in_frame.ensures
