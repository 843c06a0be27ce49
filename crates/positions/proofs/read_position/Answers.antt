use native.Mathlib.Omega.{arith}
use Rattle.positions.proofs.PositionLaws.{position-fix, position-navaid, position-airport, position-coordinates, position-unread}
use Rattle.positions.proofs.read_position.Goals as goal

pub returns-in-0 : goal.returns-in-0
returns-in-0 c = position-fix c.bits-index.result c.bits-index.ensures c.in-0.is c.read_named-fix.result c.read_named-fix.ensures

pub returns-in-1 : goal.returns-in-1
returns-in-1 c = position-navaid c.bits-index.result c.bits-index.ensures c.in-1.is c.read_named-navaid.result c.read_named-navaid.ensures

pub returns-in-2 : goal.returns-in-2
returns-in-2 c = position-airport c.bits-index.result c.bits-index.ensures c.in-2.is c.ia5-airport.result c.ia5-airport.ensures

pub returns-in-3 : goal.returns-in-3
returns-in-3 c = position-coordinates c.bits-index.result c.bits-index.ensures c.in-3.is c.read_latlon-coordinates.result c.read_latlon-coordinates.ensures

pub returns-in_default : goal.returns-in_default
returns-in_default c = position-unread c.bits-index.result c.bits-index.ensures (λ z. omega arith) (λ z. omega arith) (λ z. omega arith) (λ z. omega arith) c.stop.ensures
