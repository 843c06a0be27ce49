use native.Mathlib.Omega.{arith}
use Rattle.message_nodes.proofs.RootLaws.{downlink-root, uplink-root, aircraft_root, ground_root, acse-root}
use Rattle.message_nodes.proofs.root.Goals as goal

pub returns-then-direction-eq0 : goal.returns-then-direction-eq0
returns-then-direction-eq0 c = downlink-root _ _ (omega arith) (omega arith)

pub returns-then-kind-eq0 : goal.returns-then-kind-eq0
returns-then-kind-eq0 c = uplink-root _ _ (omega arith) (omega arith)

pub returns-then-direction-eq0-2 : goal.returns-then-direction-eq0-2
returns-then-direction-eq0-2 c = aircraft_root _ _ (omega arith) (omega arith)

pub returns-then-kind-eq1 : goal.returns-then-kind-eq1
returns-then-kind-eq1 c = ground_root _ _ (omega arith) (omega arith)

pub returns : goal.returns
returns c = acse-root _ _ (omega arith)
