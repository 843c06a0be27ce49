use Rattle.station.proofs.OfferLaws.{then-counted}
use Rattle.station.proofs.offer.Goals as goal

pub returns : goal.returns
returns c = then-counted _ _ _ c.bind-answer.ensures c.counted-after.ensures
