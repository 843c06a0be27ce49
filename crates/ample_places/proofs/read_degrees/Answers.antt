use native.Mathlib.Omega.{arith}
use Rattle.x691.specs.Types.{extent}
use Rattle.x691.specs.Encoding.{width, width_in}
use Rattle.records.proofs.Telling.{room_next, room-behind}
use Rattle.ample_readings.proofs.AmpleLaws.{room_of, number-room}
use Rattle.ample_places.proofs.PlaceLaws.{degrees_fixed}
use Rattle.ample_places.proofs.read_degrees.Goals as goal

pub store-m-requires : goal.store-m-requires
store-m-requires c = room_next _ (room_of 2 c.args.n c.args.words.now (omega (arith, c.requires.0)) (omega arith) c.requires.1)

pub read_ranged-requires : goal.read_ranged-requires
unfolding extent width width_in
read_ranged-requires c =
    number-room _ _ (room-behind (room_of 2 c.args.n c.args.words.now (omega (arith, c.requires.0)) (omega arith) c.requires.1) c.store-m.ensures) (omega (arith, c.requires.2)) (omega arith)

pub returns : goal.returns
unfolding extent width width_in
returns c =
    degrees_fixed c.first-kind.ensures c.behind.ensures c.store-m.ensures c.read_ranged.ensures
