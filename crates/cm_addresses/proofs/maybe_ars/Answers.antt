use Rattle.told_fields.proofs.DoesLaws.{does_none, does_some, does_as}
use Rattle.cm_addresses.proofs.SpanLaws.{span_fixed}
use Rattle.cm_addresses.proofs.maybe_ars.Goals as goal

pub returns-then-has-eq0 : goal.returns-then-has-eq0
returns-then-has-eq0 c = λ s. does_none 1 c.if-has-eq0.true

pub returns : goal.returns
returns c = λ s. does_some c.if-has-eq0.false (does_as (λ T h. span_fixed h) (c.octets.ensures s))
