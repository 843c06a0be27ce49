use Rattle.cursor.proofs.Laws.{got_is}
use Rattle.cursor.proofs.FormatLaws.{maybe_none, maybe_some}
use Rattle.angles.proofs.read_maybe_angle.Goals as goal

pub read_angle-requires : goal.read_angle-requires
read_angle-requires c = c.requires

pub returns-then-has-eq0 : goal.returns-then-has-eq0
returns-then-has-eq0 c = record { reads = λ t. maybe_none _ c.if-has-eq0.true }

pub returns : goal.returns
returns c = rw (got_is c.map.ensures.value c.map.ensures.place) (record { reads = λ t. maybe_some _ c.if-has-eq0.false (c.read_angle.ensures.reads t) })
