-- `read_place` meets its contract, with and without coordinates.
use native.Mathlib.Omega.{arith}
use Rattle.atn.specs.Reading.{or}
use Rattle.records.proofs.Telling.{told-within}
use Rattle.ample_readings.proofs.AmpleLaws.{ample_done, ample_marked, done_of, room_of, room_fewer}
use Rattle.ample_places.proofs.RoomLaws.{fits_on}
use Rattle.ample_places.proofs.read_place.Goals as goal

pub read_name-x-requires : goal.read_name-x-requires
read_name-x-requires c =
    (omega (arith, c.requires.0), room_fewer 2 (room_of 13 c.args.n c.args.words.now (omega (arith, c.requires.0)) (omega arith) c.requires.1) (omega arith), c.requires.2, omega (arith, c.requires.3), c.requires.4)

pub returns-then-x-eq0 : goal.returns-then-x-eq0
returns-then-x-eq0 c = let x = c.read_name-x.ensures in ample_done (done_of (x.bare c.if-x-eq0.true) (omega (arith, x.near)) (told-within 13 (omega arith) x.told))

pub read_pair-y-requires : goal.read_pair-y-requires
read_pair-y-requires c =
    let x = c.read_name-x.ensures in
    fits_on 11 61 64 (c.requires.0, c.requires.1, c.requires.2, c.requires.3) x.told x.near (omega arith) (omega arith) (omega arith) (omega arith)

pub returns : goal.returns
unfolding or
returns c = let x = c.read_name-x.ensures in ample_marked 61 x.told c.read_pair-y.ensures (omega arith) x.near (omega arith) (λ i S y. x.placed c.if-x-eq0.false i _ _ S y)
