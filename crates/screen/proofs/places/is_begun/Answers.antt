use mathlib.Core.Path.{sym, ◌∙◌}
use Rattle.screen.proofs.PlaceLaws.{span_begins, other_begins}
use Rattle.screen.proofs.places.is_begun.Goals as goal

pub returns-then-is_span_tag : goal.returns-then-is_span_tag
returns-then-is_span_tag c = span_begins c.args.words.now c.args.i c.record_at-x.ensures c.requires (sym c.is_span_tag.ensures ∙ c.if-is_span_tag.true)

pub returns : goal.returns
returns c = other_begins c.args.words.now c.args.i c.record_at-x.ensures c.requires (sym c.is_span_tag.ensures ∙ c.if-is_span_tag.false)
