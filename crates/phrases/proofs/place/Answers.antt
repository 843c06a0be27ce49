use Rattle.phrases.proofs.PhraseLaws.{placed}
use Rattle.phrases.proofs.place.Goals as goal
use Rattle.std.proofs.Common.{rules}

pub returns : goal.returns
returns c = placed _ _ _ (search rules)
