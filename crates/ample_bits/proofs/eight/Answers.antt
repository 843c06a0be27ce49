-- `eight` meets its contract: four octets, and four behind them.
use mathlib.Core.Path.{◌≡◌}
use Prim.Native.Nat.{ℕ, ◌+◌, ◌<◌}
use native.Mathlib.Omega.{arith}
use lib.ListN.{get_or}
use Rattle.per.proofs.Laws.{four-octets, octets-join}
use Rattle.ample_bits.proofs.eight.Goals as goal

pub returns : goal.returns
returns c =
    let a = c.args in
    let s = a.s.now in
    let i = a.i in
    let g : (k : ℕ) → get_or s k 0 < 256 = λ k. omega (arith, c.type_inv.s k) in
    let fifth : i + 4 + 1 ≡ i + 5 = omega arith in
    let sixth : i + 4 + 2 ≡ i + 6 = omega arith in
    let seventh : i + 4 + 3 ≡ i + 7 = omega arith in
    omega (arith, c.four-high.ensures.0, c.four-low.ensures.0, four-octets s i g, rw (fifth, sixth, seventh) at (four-octets s (i + 4) g), octets-join s i 4 4)
