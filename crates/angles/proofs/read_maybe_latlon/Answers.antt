use Rattle.cursor.proofs.Laws.{got_is}
use Rattle.cursor.proofs.FormatLaws.{maybe_none, maybe_some}
use Rattle.angles.proofs.read_maybe_latlon.Goals as goal

pub returns-then-has-eq0 : goal.returns-then-has-eq0
returns-then-has-eq0 c = record { reads = maybe_none _ c.if-has-eq0.true }

pub returns : goal.returns
returns c = rw (got_is c.map.ensures.value c.map.ensures.place) (record { reads = maybe_some _ c.if-has-eq0.false c.read_latlon.ensures.reads })
