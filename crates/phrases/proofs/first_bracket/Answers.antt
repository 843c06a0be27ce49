use Rattle.phrases.proofs.PhraseLaws.{closed, unclosed}
use Rattle.phrases.proofs.first_bracket.Goals as goal

pub returns-then-phrase-closes : goal.returns-then-phrase-closes
returns-then-phrase-closes c = unclosed _ c.place-opens.ensures c.place.ensures c.if-phrase-closes.true

pub returns : goal.returns
returns c = closed _ c.place-opens.ensures c.place.ensures c.if-phrase-closes.false
