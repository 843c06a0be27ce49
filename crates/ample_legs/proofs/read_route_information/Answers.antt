-- `read_route_information` meets its contract: each index by the function that reads what stands behind it.
use mathlib.Core.Path.{refl}
use Prim.Native.Nat.{◌+◌, ◌^◌}
use native.Mathlib.Omega.{arith}
use Rattle.atn.specs.Reading.{read_choice}
use Rattle.records.proofs.Telling.{room_next}
use Rattle.ample_bits.specs.Ahead.{Ahead}
use Rattle.ample_bits.proofs.AheadLaws.{ahead-next, ahead_fewer}
use Rattle.ample_readings.proofs.AmpleLaws.{ample_none, room_of}
use Rattle.ample_places.proofs.RoomLaws.{fits_on}
use Rattle.ample_legs.proofs.RouteLaws.{route_indexed, places-chosen}
use Rattle.ample_legs.proofs.read_route_information.Goals.{After-behind-b, then-index-eq2+else-s-p, else-index-eq2}
use Rattle.ample_legs.proofs.read_route_information.Goals as goal

pub store-m-requires : goal.store-m-requires
store-m-requires c = room_next _ (room_of 31 c.args.n c.args.words.now (omega (arith, c.requires.0)) (omega arith) c.requires.1)

-- what stands behind the index
rest-ahead : (c : After-behind-b) → let a = c.args in Ahead a.s.now (a.at + 3) 54 c.behind-b.result
rest-ahead c = ahead-next 3 c.ahead-v.ensures refl c.behind-b.ensures (omega arith)

pub read_designator-requires : goal.read_designator-requires
read_designator-requires c =
    let f = fits_on {N' = 2 ^ 30} {M' = 2 ^ 59} {p = c.args.at + 3} 1 3 125 c.requires c.store-m.ensures (omega arith) (omega arith) (omega arith) (omega arith) (omega arith) in
    (f.0, f.1, f.2)

pub returns-then-index-eq4 : goal.returns-then-index-eq4
unfolding read_choice
returns-then-index-eq4 c =
    route_indexed c.ahead-v.ensures c.first-index.ensures c.store-m.ensures (λ x e p. rw c.if-index-eq4.true) (omega arith) (omega arith)
    (c.read_designator.ensures c.args.s.now (ahead_fewer 52 (rest-ahead (goal.at.returns-then-index-eq4 c).After-behind-b) (omega arith)) (omega (arith, c.requires.3)))

pub returns-then-index-gt2 : goal.returns-then-index-gt2
returns-then-index-gt2 c = ample_none c.store-m.ensures c.given_up.ensures

pub returns-then-s-p : goal.returns-then-s-p
returns-then-s-p c = ample_none c.store-m.ensures c.given_up-then-s-p.ensures

pub read_places-requires : goal.read_places-requires
read_places-requires c =
    let j = c.if-index-eq2.branch in
    let f = fits_on {N' = 2 ^ 25} {M' = 2 ^ 55} {p = c.args.at + 3} 30 3 125 c.requires c.store-m.ensures (omega arith) (omega arith) (omega arith) (omega arith) (omega arith) in (
      f.0,
      f.1,
      f.2,
      f.3,
      elim j [ then-index-eq2+else-s-p w ↦ omega (arith, w.if-s-p.false, w.bearings-is) | else-index-eq2 w ↦ omega (arith, f.3, w.bearings-is) ],
      elim j [ then-index-eq2+else-s-p w ↦ omega (arith, w.bearings-is) | else-index-eq2 w ↦ omega (arith, w.bearings-is) ],
      ahead_fewer 47 (rest-ahead (goal.at.read_places-requires c).After-behind-b) (omega arith),
    )

pub returns : goal.returns
returns c =
    let j = c.if-index-eq2.branch in
    route_indexed c.ahead-v.ensures c.first-index.ensures c.store-m.ensures
    (λ x e p. places-chosen c.first-index.result c.if-index-eq2.bearings (omega (arith, c.if-index-gt2.false))
    (λ q. elim j [ then-index-eq2+else-s-p w ↦ w.bearings-is | else-index-eq2 w ↦ absurd (w.if-index-eq2.false q) ])
    (λ q. elim j [ then-index-eq2+else-s-p w ↦ absurd (q w.if-index-eq2.true) | else-index-eq2 w ↦ w.bearings-is ]) x c.args.s.now e p)
    (omega arith) (omega arith) c.read_places.ensures
