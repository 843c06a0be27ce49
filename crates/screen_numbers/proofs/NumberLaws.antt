-- The digits of a number, by the tests of the code.
use mathlib.Core.Path.{◌≡◌, ◌∙◌, ap}
use mathlib.Core.List.{[], ◌∷◌, ◌++◌}
use Prim.Native.Nat.{ℕ, suc, ◌+◌, ◌/◌, ◌-◌, ◌≤◌, ◌<◌}
use native.Mathlib.Omega.{arith}
use borrow.Author.Tests.{lt-ltb, le-ltb}
use Rattle.screen_numbers.specs.Numbers.{digit, digits}

-- digits are left
module _ (k x : ℕ) (h : k ≡ 0 → ⊥) where
  one_more : k ≡ suc (k - 1)
  one_more = omega arith

  pub last_digit : x < 10 → digits k x ≡ digit x ∷ []
  unfolding digits
  last_digit l = rw one_more (rw (lt-ltb x 10 l))

  pub more-digits : 10 ≤ x → digits k x ≡ digits (k - 1) (x / 10) ++ digit x ∷ []
  unfolding digits
  more-digits l = ap (λ (n : ℕ). digits n x) one_more ∙ rw (le-ltb x 10 l)
