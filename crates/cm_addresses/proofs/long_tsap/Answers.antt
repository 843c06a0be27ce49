use mathlib.Core.Path.{refl}
use native.Mathlib.Omega.{arith}
use Rattle.atn.specs.Reading.{flags}
use Rattle.cursor.proofs.FormatLaws.{all_read}
use Rattle.told_fields.proofs.DoesLaws.{does_plain, does_must, does_last, does_as}
use Rattle.cm_addresses.proofs.SpanLaws.{span_fixed}
use Rattle.cm_addresses.proofs.long_tsap.Goals as goal

pub short_tsap-requires : goal.short_tsap-requires
short_tsap-requires c = omega (arith, (c.octets-rdp.ensures c.args.s.now).told.few)

pub returns : goal.returns
unfolding flags all_read
returns c = does_plain refl refl (does_must (does_as (λ T h. span_fixed h) (c.octets-rdp.ensures c.args.s.now)) (does_last c.short_tsap.ensures))
