use Rattle.character_strings.proofs.TextLaws.{text_of}
use Rattle.told_fields.proofs.DoesLaws.{does_told}
use Rattle.told_fields.proofs.texts.letters.Goals as goal

pub returns : goal.returns
returns c = let x = text_of c.size-length.ensures c.characters-run.ensures in does_told (x.text c.args.tag) c.tell_text-n.ensures
