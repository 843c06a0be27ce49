-- The bits of a number that lie in one byte.
use mathlib.Core.Path.{◌≡◌, sym, ◌∙◌}
use mathlib.Core.List.{List}
use Prim.Native.Nat.{ℕ, zero, suc, ◌+◌, ◌-◌, ◌/◌, ◌%◌, ◌^◌, ◌≤◌, ◌<◌}
use native.Mathlib.Nat.{mod-lt, mod-eq_of_lt}
use native.Mathlib.Numerals.{one-add}
use native.Mathlib.Omega.{arith}
use lib.ListN.{get_or, set}
use lib.Seq.{set-get_or}
use lib.Pow.{pow_pos, shr_lt, split}
use Rattle.x691.specs.Bits.{bits_of}
use Rattle.bit_writer.specs.Put.{in_byte, set_bit, set_bits}
use Rattle.bit_writer.proofs.Fields.{replaced, replaced-more, replaced-none}
use Rattle.bit_writer.proofs.Elements.{change_same, change_twice}
use Rattle.bit_writer.proofs.OneBit.{in_byte-replaced}

pub within : (s : List ℕ) (p m x : ℕ) → p % 8 + m ≤ 8 → x < 2 ^ m → set_bits s p (bits_of m x) ≡ set s (p / 8) (replaced (get_or s (p / 8) 0) (8 - (p % 8 + m)) m x)
unfolding set_bits set_bit bits_of
within s p zero x h l =
    let z : x ≡ 0 = omega arith in
    rw (z, replaced-none) (sym (set-get_or s (p / 8) 0))
within s p (suc zero) x h l =
    let e : x / 2 ^ 0 % 2 ≡ x = omega arith in
    let f : 8 - (p % 8 + 1) ≡ 7 - p % 8 = omega arith in
    rw (in_byte-replaced (get_or s (p / 8) 0) (p % 8) (x / 2 ^ 0) (omega arith), e, f)
within s p (suc (suc m)) x h l =
    let i : suc p / 8 ≡ p / 8 = omega arith in
    let f : 8 - (suc p % 8 + suc m) ≡ 8 - (p % 8 + suc (suc m)) = omega arith in
    let k = 8 - (p % 8 + suc (suc m)) in
    let a = x / 2 ^ suc m in
    let b = x % 2 ^ suc m in
    within (set_bit s p a) (suc p) (suc m) b (omega arith) (mod-lt x (pow_pos (suc m)))
    ∙ rw (i, f)
    (change_twice s (p / 8) (λ v. in_byte v (p % 8) a) (λ v. replaced v k (suc m) b)
    ∙ change_same s (p / 8) (λ v. replaced (in_byte v (p % 8) a) k (suc m) b) (λ v. replaced v k (suc (suc m)) x) more)
  where
    more : (v : ℕ) → replaced (in_byte v (p % 8) (x / 2 ^ suc m)) (8 - (p % 8 + suc (suc m))) (suc m) (x % 2 ^ suc m) ≡ replaced v (8 - (p % 8 + suc (suc m))) (suc (suc m)) x
    more v =
        let g : 7 - p % 8 ≡ 8 - (p % 8 + suc (suc m)) + suc m = omega arith in
        let b : x / 2 ^ suc m % 2 ≡ x / 2 ^ suc m = mod-eq_of_lt (shr_lt 1 (suc m) (rw one-add l)) in
        rw (in_byte-replaced v (p % 8) (x / 2 ^ suc m) (omega arith), b, g, replaced-more v, split x (suc m))
