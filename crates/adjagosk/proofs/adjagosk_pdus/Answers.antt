use Rattle.adjagosk.proofs.GivesLaws.{gives}
use Rattle.adjagosk.proofs.adjagosk_pdus.Goals as goal

pub returns : goal.returns
returns c = gives c.parse_pdus-a.ensures c.in_numbers.ensures
