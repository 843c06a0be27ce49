-- `write_spans::units::put_whole` meets its contract: bits put behind bits.
use mathlib.Core.Path.{refl, sym, ◌∙◌}
use Rattle.write_spans.proofs.SpanWrites.{sends_not, sends_both}
use Rattle.write_spans.proofs.units.put_whole.Goals as goal

pub returns-then-is_whole : goal.returns-then-is_whole
returns-then-is_whole c = sends_both _ _ _ _ _ _ _ _ _ _ _ _ _ (sym c.is_whole.ensures ∙ c.if-is_whole.true) c.ink-sized.ensures c.ink_span-behind.ensures refl refl refl

pub returns : goal.returns
returns c = sends_not _ _ _ _ _ _ _ _ _ _ (sym c.is_whole.ensures ∙ c.if-is_whole.false) refl
