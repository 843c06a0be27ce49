-- The node where a message begins: by its kind, 0 for CPDLC, 1 for Context Management, 2 for association control, and by its direction.
use Rattle.std.specs.Prelude.{ℕ, zero, suc}
use Rattle.message_nodes.specs.Table.{acse_root, cm_aircraft_root, cm_ground_root, downlink_root, uplink_root}

-- of the two directions
unfoldable pub by_direction : ℕ → ℕ → ℕ → ℕ
by_direction zero k l = k
by_direction (suc d) k l = l

unfoldable pub root_of : ℕ → ℕ → ℕ
root_of zero d = by_direction d downlink_root uplink_root
root_of (suc zero) d = by_direction d cm_aircraft_root cm_ground_root
root_of (suc (suc k)) d = acse_root
