use Rattle.cm_logon.proofs.LogonLaws.{response_does}
use Rattle.cm_logon.proofs.logon_response.Goals as goal

pub returns : goal.returns
returns c = response_does c.presence-p.result c.presence-p.ensures c.maybe_entries-air.ensures c.maybe_entries.ensures
