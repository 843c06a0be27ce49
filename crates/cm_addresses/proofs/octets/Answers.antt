use mathlib.Core.List.{[], ◌∷◌}
use Rattle.atn.specs.Reading.{rec}
use Rattle.told_fields.proofs.DoesLaws.{does_quiet, does_within}
use Rattle.cm_addresses.proofs.SpanLaws.{octets-none, octets-some}
use mathlib.Core.Path.{refl}
use native.Mathlib.Omega.{arith}
use Rattle.cm_addresses.proofs.octets.Goals as goal

pub returns-then-bits-eq0 : goal.returns-then-bits-eq0
returns-then-bits-eq0 c = λ s. does_within 1 (omega arith) (does_quiet refl (octets-none c.bits-bits.ensures c.pass-d.ensures c.if-bits-eq0.true))

pub returns : goal.returns
returns c = λ s. record { recs = λ n. rec c.args.tag n c.args.at.c.at c.bits-bits.result.0 c.args.from ∷ []; reads = octets-some c.bits-bits.ensures c.pass-d.ensures c.if-bits-eq0.false; told = c.emit-n.ensures }
