-- Sets of marks joined: the order does not matter.
use mathlib.Core.Path.{◌≡◌, refl, sym, ap, ◌∙◌}
use Prim.Native.Nat.{ℕ, ◌/◌, ◌%◌, ◌<◌, max}
use native.Mathlib.Omega.{arith}
use lib.Arith.{bin_ind}
use lib.Bits.{bit_or, or_step, or_zero_r, or_comm}
use Rattle.atn.specs.Reading.{or}

halves : (a b : ℕ) → (bit_or a b / 2 ≡ bit_or (a / 2) (b / 2)) × (bit_or a b % 2 ≡ max (a % 2) (b % 2))
halves a b = let s = or_step a b in let m : max (a % 2) (b % 2) < 2 = omega arith in (omega arith, omega arith)

assoc : (a b c : ℕ) → bit_or (bit_or a b) c ≡ bit_or a (bit_or b c)
assoc = bin_ind (λ (a : ℕ). (b c : ℕ) → bit_or (bit_or a b) c ≡ bit_or a (bit_or b c)) (λ b c. refl) λ a ih b c.
    let l = halves a b in
    let r = halves b c in
    let i = ih (b / 2) (c / 2) in
    or_step (bit_or a b) c ∙ rw (l.0, l.1, i) (let m : max (max (a % 2) (b % 2)) (c % 2) ≡ max (a % 2) (max (b % 2) (c % 2)) = omega arith in rw m (rw (← r.0, ← r.1) (sym (or_step a (bit_or b c)))))

pub or_assoc : (a b c : ℕ) → or (or a b) c ≡ or a (or b c)
unfolding or
or_assoc a b c = assoc a b c

pub or_commutes : (a b : ℕ) → or a b ≡ or b a
unfolding or
or_commutes a b = or_comm a b

pub or_nil : (a : ℕ) → or a 0 ≡ a
unfolding or
or_nil a = or_zero_r a

pub or_swap : (a b c : ℕ) → or a (or b c) ≡ or b (or a c)
or_swap a b c = sym (or_assoc a b c) ∙ ap (λ (x : ℕ). or x c) (or_commutes a b) ∙ or_assoc b a c
