use Rattle.character_strings.proofs.TextLaws.{text_of}
use Rattle.character_strings.proofs.ia5.Goals as goal

pub returns : goal.returns
returns c = text_of c.size-g.ensures c.characters-x.ensures
