use Rattle.screen_records.specs.Fields.{character}
use Rattle.screen_records.proofs.character.Goals as goal

pub returns : goal.returns
unfolding character
returns c = rw (← c.value_at.ensures)
