-- Bits at the top of a word.
use Rattle.std.specs.Prelude.{◌≡◌, List, ℕ, ◌-◌, ◌/◌, ◌^◌, ◌≤◌}
use Rattle.x691.specs.Bits.{bit_of, uint}

-- the first j bits of the word v are those of the frame s from p on
pub record Ahead (s : List ℕ) (p j v : ℕ) : Type 0 where
  pub most : j ≤ 64
  pub spelt : v / 2 ^ (64 - j) ≡ uint (bit_of s) p j
