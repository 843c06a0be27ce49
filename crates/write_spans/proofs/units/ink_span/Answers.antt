-- `write_spans::units::ink_span` meets its contract.
use mathlib.Core.Path.{refl}
use Rattle.write_spans.proofs.SpanWrites.{stretch_far, stretch-near}
use Rattle.write_spans.proofs.units.ink_span.Goals as goal

pub returns-then-at-gt-LIMIT : goal.returns-then-at-gt-LIMIT
returns-then-at-gt-LIMIT c = stretch_far _ _ _ _ _ _ c.if-at-gt-LIMIT.true

pub returns : goal.returns
returns c = stretch-near _ _ _ _ _ _ _ refl refl refl c.put_span.ensures
