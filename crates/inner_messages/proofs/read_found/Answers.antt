use mathlib.Core.Path.{ap, ◌∙◌}
use lib.ListN.{length}
use native.Mathlib.Omega.{arith}
use Rattle.records.proofs.Moving.{raised-length}
use Rattle.records.proofs.Telling.{told-length}
use Rattle.inner_messages.proofs.InnerLaws.{string-read}
use Rattle.inner_messages.proofs.read_found.Goals as goal

pub bits-by-requires : goal.bits-by-requires
bits-by-requires c = omega (arith, c.requires.0, c.requires.4, c.requires.5)

pub move_places-requires : goal.move_places-requires
move_places-requires c = omega (arith, c.read_message-x.ensures.told.few, c.requires.1)

pub shape_of-words : goal.shape_of-words
shape_of-words c = ap length c.move_places.ensures ∙ raised-length _ _ _ _ ∙ told-length c.read_message-x.ensures.told

pub returns : goal.returns
returns c a goes has = string-read _ goes c.requires.0 has c.read_message-x.ensures c.bits-by.ensures c.move_places.ensures c.close_window-e.ensures
