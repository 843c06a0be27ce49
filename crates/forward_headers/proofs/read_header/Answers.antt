use Rattle.forward_headers.proofs.HeaderLaws.{header_read}
use Rattle.forward_headers.proofs.read_header.Goals as goal

pub returns : goal.returns
returns c = header_read c.read_date_time-t.ensures c.ia5-id.ensures c.pass.ensures
