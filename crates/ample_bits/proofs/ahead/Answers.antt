-- `ahead` meets its contract: eight octets, less the bits of the first that stand before.
use mathlib.Core.Path.{◌≡◌}
use Prim.Native.Nat.{ℕ, ◌+◌, ◌*◌, ◌/◌, ◌%◌}
use native.Mathlib.Omega.{arith}
use Rattle.ample_bits.proofs.AheadLaws.{octets-ahead}
use Rattle.ample_bits.proofs.ahead.Goals as goal

pub returns : goal.returns
returns c =
    let a = c.args in
    let i : ℕ = a.at / 8 in
    let e : 8 * i + a.at % 8 ≡ a.at = omega arith in
    rw e at (octets-ahead a.s.now i (a.at % 8) (omega arith) c.eight.ensures)
