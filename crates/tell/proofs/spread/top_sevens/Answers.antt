use Rattle.tell.proofs.spread.top_sevens.Goals as goal

pub returns : goal.returns
returns c = rw c.spread_sevens.ensures
