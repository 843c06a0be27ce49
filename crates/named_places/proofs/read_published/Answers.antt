use Rattle.atn.specs.Messages as message
use Rattle.field_ranges.specs.Ends.{lowest, highest}
use Rattle.named_places.specs.Names.{published_recs}
use Rattle.named_places.proofs.NameLaws.{takes_first, takes_second}
use Rattle.named_places.proofs.read_published.Goals as goal

pub returns-then-index-eq0 : goal.returns-then-index-eq0
unfolding lowest highest published_recs
returns-then-index-eq0 c = record { reads = takes_first 98 (message.named 99 5) (message.named 100 4) c.bits-index.result c.bits-index.ensures c.if-index-eq0.true (c.read_named-fix.ensures.reads 99); held = c.read_named-fix.ensures.held }

pub returns : goal.returns
unfolding lowest highest published_recs
returns c = record { reads = takes_second 98 (message.named 99 5) (message.named 100 4) c.bits-index.result c.bits-index.ensures c.if-index-eq0.false (c.read_named-navaid.ensures.reads 100); held = c.read_named-navaid.ensures.held }
