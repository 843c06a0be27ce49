-- Widths: a number fits its width, no width is larger than it need be, and an index fits its choice.
use mathlib.Core.Path.{◌≡◌, refl, ap}
use mathlib.Core.Bool.{Bool, true, false}
use mathlib.Core.Logic.{inl, inr}
use Prim.Native.Nat.{ℕ, zero, suc, ◌-◌, ◌/◌, ◌^◌, ◌≤◌, ◌<◌}
use native.Mathlib.Omega.{arith}
use lib.Dec.{eqb}
use lib.Pow.{pow_pos}
use borrow.Author.Tests.{eqb-true, eqb-false}
use Rattle.x691.specs.Types.{Alternatives, NONE, ◌∣◌, Pick}
use Rattle.x691.specs.Encoding.{width_in, width, count, highest, index}

width-step : (d w : ℕ) (t : Bool) → eqb d 0 ≡ t → ((d ≡ 0 → ⊥) → d / 2 < 2 ^ w) → d < 2 ^ (elim t [ true ↦ 0 | false ↦ suc w ])
width-step d w true q h = omega (arith, eqb-true d 0 q)
width-step d w false q h = omega (arith, h (eqb-false d 0 q))

width-in : (k d : ℕ) → d ≤ k → d < 2 ^ width_in k d
unfolding width_in
width-in zero d h = omega arith
width-in (suc k) d h = width-step d (width_in k (d / 2)) (eqb d 0) refl (λ z. width-in k (d / 2) (omega arith))

-- a number fits its width
pub width-holds : (d : ℕ) → d < 2 ^ width d
unfolding width
width-holds d = width-in d d (omega arith)

-- and no width is larger than it need be
width_half : (k d w : ℕ) (t : Bool) → eqb d 0 ≡ t → (d ≡ 0 → ⊥) → width_in k (d / 2) ≡ w → (elim t [ true ↦ 0 | false ↦ suc (width_in k (d / 2)) ]) ≡ suc w
width_half k d w true q z h = absurd (z (eqb-true d 0 q))
width_half k d w false q z h = ap suc h

width-pow_in : (w k : ℕ) → 2 ^ w - 1 ≤ k → width_in k (2 ^ w - 1) ≡ w
unfolding width_in
width-pow_in zero zero h = refl
width-pow_in zero (suc k) h = refl
width-pow_in (suc w) zero h = absurd (omega (arith, pow_pos w))
width-pow_in (suc w) (suc k) h =
    let d : ℕ = 2 ^ suc w - 1 in
    let z : d / 2 ≡ 2 ^ w - 1 = omega (arith, pow_pos w) in
    width_half k d w (eqb d 0) refl (λ y. omega (arith, pow_pos w)) (rw z (width-pow_in w k (omega (arith, pow_pos w))))

pub width-pow : (w : ℕ) → width (2 ^ w - 1) ≡ w
unfolding width
width-pow w = width-pow_in w (2 ^ w - 1) (omega arith)

pub unit-fits : (n c : ℕ) → c < n → c < 2 ^ width (n - 1)
unit-fits n c h = omega (arith, width-holds (n - 1))

index-count : (ts : Alternatives) (c : Pick ts) → index ts c < count ts
unfolding index count
index-count NONE c = absurd c
index-count (t ∣ ts) (inl v) = omega arith
index-count (t ∣ ts) (inr c) = omega (arith, index-count ts c)

pub index-highest : (ts : Alternatives) (c : Pick ts) → index ts c ≤ highest ts
unfolding highest
index-highest ts c = omega (arith, index-count ts c)
