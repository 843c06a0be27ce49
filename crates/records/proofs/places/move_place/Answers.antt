-- `move_place` meets its contract.
use Rattle.std.proofs.Common.{refl}
use Rattle.atn.specs.Reading.{word}
use Rattle.records.specs.Moves.{raised, raised_places}
use Rattle.records.proofs.places.move_place.Goals as goal

pub returns : goal.returns
unfolding raised_places raised word
returns c = rw c.wrapping_add_u64.ensures.value refl
