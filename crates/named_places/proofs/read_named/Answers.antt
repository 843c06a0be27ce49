use Rattle.named_places.specs.Names.{named_recs}
use Rattle.named_places.proofs.NameLaws.{held-text, takes_then_maybe}
use Rattle.named_places.proofs.read_named.Goals as goal

pub returns : goal.returns
unfolding named_recs
returns c = record { reads = λ t. takes_then_maybe c.presence-flags.result c.presence-flags.ensures (c.ia5-name.ensures.text t) c.read_maybe_latlon-place.ensures.reads; held = held-text c.ia5-name.ensures }
