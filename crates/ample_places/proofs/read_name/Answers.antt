-- `read_name` meets its contract: a fix or a navaid, or nothing.
use mathlib.Core.Path.{refl}
use Prim.Native.Nat.{◌+◌, ◌^◌}
use native.Mathlib.Omega.{arith}
use Rattle.records.proofs.Telling.{room_next}
use Rattle.ample_bits.proofs.AheadLaws.{ahead-next}
use Rattle.ample_readings.proofs.AmpleLaws.{room_of}
use Rattle.ample_places.specs.Place.{place_of}
use Rattle.ample_places.proofs.RoomLaws.{fits_on}
use Rattle.ample_places.proofs.PlaceLaws.{published-named, none_named}
use Rattle.ample_places.proofs.read_name.Goals as goal

pub store-m-requires : goal.store-m-requires
store-m-requires c = room_next _ (room_of 2 c.args.n c.args.words.now (omega (arith, c.requires.0)) (omega arith) c.requires.1)

pub read_named-requires : goal.read_named-requires
read_named-requires c =
    let f = fits_on {N' = 2 ^ 30} {M' = 2 ^ 58} {p = c.args.at + 1} 1 1 68 (c.requires.0, c.requires.1, c.requires.2, c.requires.3) c.store-m.ensures (omega arith) (omega arith) (omega arith) (omega arith) (omega arith) in
    let w = c.naming_of-by.ensures in
    (f.0, f.1, f.2, f.3, ahead-next 1 c.requires.4 refl c.behind.ensures (omega arith), w.0, w.1, w.2, w.3)

pub returns-then-not-published : goal.returns-then-not-published
unfolding place_of
returns-then-not-published c = rw c.if-not-published.true none_named

pub returns : goal.returns
unfolding place_of
returns c =
    let w = c.naming_of-by.ensures in
    rw c.if-not-published.false (published-named c.requires.4 c.first-kind.ensures c.store-m.ensures w.4 w.5 c.read_named.ensures)
