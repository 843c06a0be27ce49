use Rattle.adjagosk.proofs.GivesLaws.{gives}
use Rattle.adjagosk.proofs.adjagosk_apdu.Goals as goal

pub returns : goal.returns
returns c = gives c.parse_apdu-a.ensures c.in_numbers.ensures
