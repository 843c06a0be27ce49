-- The first two octets, and numbers that bits ahead spell.
use mathlib.Core.Path.{◌≡◌, refl, sym, ◌∙◌}
use mathlib.Core.List.{List}
use Prim.Native.Nat.{ℕ, zero, suc, ◌+◌, ◌-◌, ◌*◌, ◌/◌, ◌%◌, ◌^◌, ◌≤◌}
use native.Mathlib.Omega.{arith}
use Rattle.x691.specs.Bits.{bit_of, uint}
use Rattle.per.proofs.Laws.{uint-below, uint-split}
use Rattle.ample_bits.specs.Ahead.{Ahead}
use Rattle.ample_bits.proofs.AheadLaws.{first-spelt}
use Rattle.pdus.specs.Pdus.{index_bits}

pub two_octets : (s : List ℕ) {a b f v : ℕ} → uint (bit_of s) 0 8 ≡ a → uint (bit_of s) 8 8 ≡ b → f ≡ (a * 256 + b) * 65536 → v ≡ f * 2 ^ 32 % 2 ^ 64 → Ahead s 0 16 v
two_octets s {a} {b} {f} {v} q r h e =
    let j : uint (bit_of s) 0 16 ≡ uint (bit_of s) 0 8 * 2 ^ 8 + uint (bit_of s) 8 8 = uint-split (bit_of s) 0 8 8 in
    let l = uint-below s 0 8 in
    let m = uint-below s 8 8 in
    record { most = omega arith; spelt = omega arith }

module _ {s : List ℕ} {p j v r : ℕ} (n : ℕ) (a : Ahead s p j v) (h : n ≤ j) (e : r ≡ v / 2 ^ (64 - n)) where
  pub spelt : r ≡ uint (bit_of s) p n
  spelt = e ∙ first-spelt a n h

  pub clear : r ≡ 0 → uint (bit_of s) p n ≡ 0
  clear z = sym spelt ∙ z

  pub set : (r ≡ 0 → ⊥) → uint (bit_of s) p n ≡ 0 → ⊥
  set z q = z (spelt ∙ q)

pub wide : {w : ℕ} (d : ℕ) → w ≡ index_bits d → (1 ≤ w) × (w ≤ 3)
unfolding index_bits
wide d q = rw q (go d)
  where
    go : (d : ℕ) → (1 ≤ index_bits d) × (index_bits d ≤ 3)
    go zero = (omega arith, omega arith)
    go (suc d) = (omega arith, omega arith)

pub other : (d : ℕ) → d ≤ 1 → (d ≡ 0 → ⊥) → d ≡ 1
other zero l n = absurd (n refl)
other (suc zero) l n = refl
other (suc (suc d)) l n = absurd (omega arith)
