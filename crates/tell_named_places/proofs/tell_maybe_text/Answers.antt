use Rattle.std.proofs.Common.{arith}
use Rattle.records.proofs.Telling.{told_none, told-within}
use Rattle.tell_named_places.proofs.tell_maybe_text.Goals as goal

pub returns-in-None : goal.returns-in-None
returns-in-None c = rw c.in-None.is (told-within 64 (omega arith) told_none)
