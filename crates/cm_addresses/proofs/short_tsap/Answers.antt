use mathlib.Core.Path.{refl}
use native.Mathlib.Omega.{arith}
use Rattle.atn.specs.Reading.{flags}
use Rattle.cursor.proofs.FormatLaws.{all_read}
use Rattle.told_fields.proofs.DoesLaws.{does_opened, from_may, from_last, shown_last, since_opened}
use Rattle.cm_addresses.proofs.short_tsap.Goals as goal

pub selectors-requires : goal.selectors-requires
selectors-requires c = omega (arith, (c.maybe_ars-ars.ensures c.args.s.now).told.few)

pub returns : goal.returns
unfolding flags all_read
returns c =
    let s = c.args.s.now in
    let p = c.presence-p in
    does_opened 1 p.result refl refl p.ensures (from_may (shown_last 0 p.ensures (since_opened p.ensures)) (c.maybe_ars-ars.ensures s) (from_last c.selectors.ensures))
