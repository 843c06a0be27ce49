use Prim.Native.Nat.{◌*◌, ◌^◌}
use native.Mathlib.Omega.{arith}
use lib.ListN.{length}
use Rattle.atn.specs.Reading.{or}
use Rattle.ample_bits.proofs.AheadLaws.{ahead-next}
use Rattle.ample_places.proofs.RoomLaws.{Fits, fits_on}
use Rattle.ample_places.proofs.PlaceLaws.{done-bearing}
use Rattle.ample_legs.proofs.PlacesLaws.{rest_all, rest-none, rest_bare, rest_last, rest-next, place-fits, bearing-fits}
use Rattle.ample_legs.proofs.read_places.Goals.{Else-left-eq0}
use Rattle.ample_legs.proofs.read_places.Goals as goal

pub loop-x-init : goal.loop-x-init
loop-x-init c = ((omega arith, omega arith, omega arith, omega arith, omega arith), rest_all, c.requires.6)

pub read_place-x-requires : goal.read_place-x-requires
read_place-x-requires c =
    let f = place-fits c.requires c.loop-x.invariant.0 in
    (f.0, f.1, f.2, f.3, c.loop-x.invariant.2)

pub shape_of-words-then-q-eq0 : goal.shape_of-words-then-q-eq0
shape_of-words-then-q-eq0 c = omega (arith, c.read_place-x.ensures.room, c.loop-x.invariant.0.4)

pub returns-then-q-eq0 : goal.returns-then-q-eq0
returns-then-q-eq0 c = rest-none c.loop-x.invariant.1 c.requires.5 c.read_place-x.ensures c.if-q-eq0.true

pub shape_of-words-then-left-eq0 : goal.shape_of-words-then-left-eq0
shape_of-words-then-left-eq0 c = omega (arith, c.read_place-x.ensures.room, c.loop-x.invariant.0.4)

pub returns-then-left-eq0 : goal.returns-then-left-eq0
unfolding or
returns-then-left-eq0 c = rest_bare c.loop-x.invariant.1 c.loop-x.invariant.0.1 c.if-left-eq0.true c.read_place-x.ensures

-- behind a place there are the bits and the room of its bearing
bearing-ahead : (c : Else-left-eq0) → Fits (2 ^ 30) 2 (2 ^ 60) 57 (length c.read_place-x.new.words) (length c.args.s.now * 8) c.read_place-x.result.n c.read_place-x.result.at
bearing-ahead c =
    let d = c.read_place-x.ensures.done c.if-q-eq0.false in
    fits_on 2 111 57 (bearing-fits c.requires c.loop-x.invariant.0 (omega (arith, c.if-left-eq0.false))) d.told d.near (omega arith) (omega arith) (omega arith) (omega arith)

pub ahead-b-requires : goal.ahead-b-requires
ahead-b-requires c = omega (arith, (bearing-ahead (goal.at.ahead-b-requires c).Else-left-eq0).3)

pub read_degrees-y-requires : goal.read_degrees-y-requires
read_degrees-y-requires c = let f = bearing-ahead (goal.at.read_degrees-y-requires c).Else-left-eq0 in (f.0, f.1, f.2)

pub overflow_sub-left : goal.overflow_sub-left
overflow_sub-left c = omega (arith, c.if-left-eq0.false)

pub shape_of-words-then-left-eq0-2 : goal.shape_of-words-then-left-eq0-2
shape_of-words-then-left-eq0-2 c =
    omega (arith, (c.read_degrees-y.ensures.done _ 57 c.ahead-b.ensures (omega arith)).told.room, c.read_place-x.ensures.room, c.loop-x.invariant.0.4)

pub returns-then-left-eq0-2 : goal.returns-then-left-eq0-2
unfolding or
returns-then-left-eq0-2 c =
    rest_last c.loop-x.invariant.1 (done-bearing (c.read_place-x.ensures.done c.if-q-eq0.false) (c.read_degrees-y.ensures.done _ 57 c.ahead-b.ensures (omega arith))) c.requires.5 (omega (arith, c.if-left-eq0-2.true, c.if-left-eq0.false))

pub loop-x-smaller : goal.loop-x-smaller
loop-x-smaller c = omega (arith, c.if-left-eq0.false)

pub loop-x-preserved : goal.loop-x-preserved
unfolding or
loop-x-preserved c =
    let i = c.loop-x.invariant.0 in
    let d = done-bearing (c.read_place-x.ensures.done c.if-q-eq0.false) (c.read_degrees-y.ensures.done _ 57 c.ahead-b.ensures (omega arith)) in (
      (omega (arith, i.0), omega (arith, c.requires.5, c.if-left-eq0-2.false), omega (arith, i.2, d.told.few, c.if-left-eq0.false), omega (arith, i.3, d.near, c.if-left-eq0.false), omega (arith, d.told.room, i.4)),
      rest-next c.loop-x.invariant.1 d c.requires.5 (omega (arith, i.0, c.requires.5, c.if-left-eq0-2.false)) (omega (arith, i.0, c.requires.5, c.if-left-eq0-2.false)),
      ahead-next 10 c.ahead-b.ensures c.read_degrees-y.ensures.to c.behind-bits.ensures (omega arith),
    )
