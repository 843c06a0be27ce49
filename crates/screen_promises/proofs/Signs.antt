-- A record's number with its sign, for all magnitudes that a reading gives.
use mathlib.Core.Path.{◌≡◌}
use mathlib.Core.List.{◌∷◌}
use Prim.Native.Nat.{ℕ, ◌*◌, ◌%◌, ◌-◌, ◌^◌, ◌≤◌, ◌<◌}
use native.Mathlib.Omega.{arith}
use borrow.Author.Tests.{lt-ltb, le-ltb}
use Rattle.screen_numbers.specs.Numbers.{decimal, magnitude, signed}

pub from_zero : (n v : ℕ) → v < 2 ^ 32 → signed n v ≡ decimal (v * n)
unfolding signed magnitude
from_zero n v h =
    let l : v < 2 ^ 63 = omega arith in
    let e : v % 2 ^ 32 ≡ v = omega arith in
    rw (lt-ltb v (2 ^ 63) l, e)

-- 45 is the minus
pub below-zero : (n m : ℕ) → 1 ≤ m → m < 2 ^ 32 → signed n (2 ^ 64 - m) ≡ 45 ∷ decimal (m * n)
unfolding signed magnitude
below-zero n m g h =
    let l : 2 ^ 63 ≤ 2 ^ 64 - m = omega arith in
    let e : (2 ^ 64 - (2 ^ 64 - m)) % 2 ^ 32 ≡ m = omega arith in
    rw (le-ltb (2 ^ 64 - m) (2 ^ 63) l, e)
