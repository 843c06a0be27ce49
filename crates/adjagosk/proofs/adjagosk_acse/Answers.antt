use Rattle.adjagosk.proofs.GivesLaws.{gives}
use Rattle.adjagosk.proofs.adjagosk_acse.Goals as goal

pub returns : goal.returns
returns c = gives c.parse_acse_apdu-a.ensures c.in_numbers.ensures
