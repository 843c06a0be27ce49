use native.Mathlib.Omega.{arith}
use Rattle.field_ranges.specs.Ends.{lowest, highest}
use Rattle.named_places.proofs.NameLaws.{held-text}
use Rattle.cursor.proofs.Laws.{got_is}
use Rattle.legs.specs.Legs.{HeldLeg}
use Rattle.legs.proofs.LegLaws.{leg-place, leg-coordinates, leg-between, leg-ranging, leg_designator, leg-unlisted}
use Rattle.legs.proofs.read_leg.Goals as goal

pub returns-in-0 : goal.returns-in-0
unfolding HeldLeg
returns-in-0 c = rw (got_is c.map.ensures.value c.map.ensures.place) (record { reads = leg-place c.bits-index.result c.bits-index.ensures _ c.in-0.is c.read_published.ensures.reads; held = c.read_published.ensures.held })

pub returns-in-1 : goal.returns-in-1
unfolding HeldLeg
returns-in-1 c = rw (got_is c.map-in-1.ensures.value c.map-in-1.ensures.place) (record { reads = leg-coordinates c.bits-index.result c.bits-index.ensures _ c.in-1.is c.read_latlon.ensures.reads; held = tt })

pub returns-in-2 : goal.returns-in-2
unfolding HeldLeg
returns-in-2 c = record { reads = leg-between c.bits-index.result c.bits-index.ensures _ _ c.in-2.is c.read_bearing-a.ensures.reads c.read_bearing-b.ensures.reads; held = (c.read_bearing-a.ensures.held, c.read_bearing-b.ensures.held) }

pub returns-in-3 : goal.returns-in-3
unfolding HeldLeg
returns-in-3 c = record { reads = leg-ranging c.bits-index.result c.bits-index.ensures c.in-3.is c.read_ranging.ensures; held = tt }

pub returns-in-4 : goal.returns-in-4
unfolding HeldLeg lowest highest
returns-in-4 c = rw (got_is c.map-in-4.ensures.value c.map-in-4.ensures.place) (record { reads = leg_designator c.bits-index.result c.bits-index.ensures _ c.in-4.is (c.ia5.ensures.text 101); held = held-text c.ia5.ensures })

pub returns-in_default : goal.returns-in_default
unfolding HeldLeg
returns-in_default c = record { reads = leg-unlisted c.bits-index.result c.bits-index.ensures (λ z. omega arith) (λ z. omega arith) (λ z. omega arith) (λ z. omega arith) (λ z. omega arith) c.stop.ensures; held = tt }
