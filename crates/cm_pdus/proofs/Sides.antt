-- Which side's messages a direction names.
use mathlib.Core.Path.{◌≡◌, refl}
use Prim.Native.Nat.{ℕ, zero, suc, ◌≤◌}
use native.Mathlib.Omega.{arith}
use lib.Dec.{eqb}
use Rattle.atn.specs.Entries.{cm_of}
use Rattle.cm_pdus.specs.Pdus.{pdu_of}

-- 1 is the ground's
pub by-direction : (d : ℕ) → d ≤ 1 → pdu_of (eqb d 1) ≡ cm_of d
unfolding cm_of
by-direction zero l = refl
by-direction (suc zero) l = refl
by-direction (suc (suc d)) l = absurd (omega arith)
