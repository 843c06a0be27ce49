use Rattle.adjagosk.proofs.GivesLaws.{gives}
use Rattle.adjagosk.proofs.adjagosk_cm.Goals as goal

pub returns : goal.returns
returns c = gives c.parse_cm-a.ensures c.in_numbers.ensures
