-- The roots, case by case.
use mathlib.Core.Path.{◌≡◌, refl}
use Prim.Native.Nat.{ℕ, zero, suc, ◌≤◌}
use native.Mathlib.Omega.{arith}
use Rattle.message_nodes.specs.Table.{acse_root, cm_aircraft_root, cm_ground_root, downlink_root, uplink_root}
use Rattle.message_nodes.specs.Roots.{by_direction, root_of}

pub downlink-root : (k d : ℕ) → k ≡ 0 → d ≡ 0 → downlink_root ≡ root_of k d
unfolding root_of by_direction
downlink-root k d i j = rw (i, j)

pub uplink-root : (k d : ℕ) → k ≡ 0 → 1 ≤ d → uplink_root ≡ root_of k d
unfolding root_of by_direction
uplink-root k zero i j = absurd (omega arith)
uplink-root k (suc d) i j = rw i

pub aircraft_root : (k d : ℕ) → k ≡ 1 → d ≡ 0 → cm_aircraft_root ≡ root_of k d
unfolding root_of by_direction
aircraft_root k d i j = rw (i, j)

pub ground_root : (k d : ℕ) → k ≡ 1 → 1 ≤ d → cm_ground_root ≡ root_of k d
unfolding root_of by_direction
ground_root k zero i j = absurd (omega arith)
ground_root k (suc d) i j = rw i

pub acse-root : (k d : ℕ) → 2 ≤ k → acse_root ≡ root_of k d
unfolding root_of
acse-root zero d i = absurd (omega arith)
acse-root (suc zero) d i = absurd (omega arith)
acse-root (suc (suc k)) d i = refl
