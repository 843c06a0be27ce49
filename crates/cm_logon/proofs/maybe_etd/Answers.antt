use mathlib.Core.Path.{refl}
use Rattle.atn.specs.Reading.{flags}
use Rattle.cursor.proofs.FormatLaws.{all_read}
use Rattle.told_fields.proofs.DoesLaws.{does_none, does_some, does_plain, does_must, does_last}
use Rattle.cm_logon.proofs.maybe_etd.Goals as goal

pub returns-then-has-eq0 : goal.returns-then-has-eq0
returns-then-has-eq0 c = does_none 5 c.if-has-eq0.true

pub returns : goal.returns
unfolding flags all_read
returns c = does_some c.if-has-eq0.false (does_plain refl refl (does_must c.etd_date-date.ensures (does_last c.etd_time.ensures)))
