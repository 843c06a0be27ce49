-- Laws of one bit put.
use mathlib.Core.Path.{◌≡◌, refl, sym, ◌∙◌}
use mathlib.Core.Bool.{Bool, true, false}
use mathlib.Core.List.{List}
use Prim.Native.Nat.{ℕ, ◌+◌, ◌-◌, ◌*◌, ◌/◌, ◌%◌, ◌^◌, ◌<◌}
use native.Mathlib.Omega.{arith}
use lib.ListN.{length, get_or, length-set}
use lib.Seq.{get_or-set_same}
use lib.Dec.{eqb}
use borrow.Author.Tests.{eqb-true, eqb-false}
use Rattle.x691.specs.Bits.{bit_of}
use Rattle.bit_writer.specs.Put.{in_byte, set_bit}
use Rattle.bit_writer.proofs.Fields.{replaced, bit_again, bits_swap, bit-put, bit-higher, bit-lower, replaced-lt}
use Rattle.bit_writer.proofs.Elements.{change_same, change_twice, change_swap, change_keeps}

pub in_byte-replaced : (v i x : ℕ) → i < 8 → in_byte v i x ≡ replaced v (7 - i) 1 (x % 2)
unfolding in_byte replaced
in_byte-replaced v i x h = let e : 7 - i + 1 ≡ 8 - i = omega arith in rw e

pub set_bit-length : (s : List ℕ) (p x : ℕ) → length (set_bit s p x) ≡ length s
unfolding set_bit
set_bit-length s p x = length-set s (p / 8) _

-- a bit put again
pub set_bit-twice : (s : List ℕ) (p x y : ℕ) → set_bit (set_bit s p x) p y ≡ set_bit s p y
unfolding set_bit
set_bit-twice s p x y =
    change_twice s (p / 8) (λ v. in_byte v (p % 8) x) (λ v. in_byte v (p % 8) y)
    ∙ change_same s (p / 8) (λ v. in_byte (in_byte v (p % 8) x) (p % 8) y) (λ v. in_byte v (p % 8) y) again
  where
    again : (v : ℕ) → in_byte (in_byte v (p % 8) x) (p % 8) y ≡ in_byte v (p % 8) y
    again v = rw (in_byte-replaced (in_byte v (p % 8) x) (p % 8) y (omega arith), in_byte-replaced v (p % 8) x (omega arith), in_byte-replaced v (p % 8) y (omega arith)) (bit_again v (7 - p % 8) (x % 2) (y % 2) (omega arith))

-- bits put in either order
pub set_bit_swap : (s : List ℕ) (p q x y : ℕ) → p < q → set_bit (set_bit s p x) q y ≡ set_bit (set_bit s q y) p x
unfolding set_bit
set_bit_swap s p q x y h = go (eqb (p / 8) (q / 8)) refl
  where
    swap : (v : ℕ) → p % 8 < q % 8 → in_byte (in_byte v (p % 8) x) (q % 8) y ≡ in_byte (in_byte v (q % 8) y) (p % 8) x
    swap v l =
        rw (in_byte-replaced (in_byte v (p % 8) x) (q % 8) y (omega arith), in_byte-replaced v (p % 8) x (omega arith), in_byte-replaced (in_byte v (q % 8) y) (p % 8) x (omega arith), in_byte-replaced v (q % 8) y (omega arith))
        (bits_swap v (7 - p % 8) (7 - q % 8) (x % 2) (y % 2) (omega arith) (omega arith))

    go : (b : Bool) → eqb (p / 8) (q / 8) ≡ b → set_bit (set_bit s p x) q y ≡ set_bit (set_bit s q y) p x
    go true e =
        let i : p / 8 ≡ q / 8 = eqb-true (p / 8) (q / 8) e in
        rw i
        (change_twice s (q / 8) (λ v. in_byte v (p % 8) x) (λ v. in_byte v (q % 8) y)
        ∙ change_same s (q / 8) _ _ (λ v. swap v (omega arith))
        ∙ sym (change_twice s (q / 8) (λ v. in_byte v (q % 8) y) (λ v. in_byte v (p % 8) x)))
    go false e = change_swap s (p / 8) (q / 8) (λ v. in_byte v (p % 8) x) (λ v. in_byte v (q % 8) y) (eqb-false (p / 8) (q / 8) e)

-- the bit that was put is there
pub set_bit-bit : (s : List ℕ) (p x : ℕ) → p < length s * 8 → bit_of (set_bit s p x) p ≡ x % 2
unfolding set_bit bit_of
set_bit-bit s p x l =
    let i : p / 8 < length s = omega arith in
    rw (get_or-set_same s (p / 8) _ 0 i, in_byte-replaced (get_or s (p / 8) 0) (p % 8) x (omega arith)) (bit-put (get_or s (p / 8) 0) (7 - p % 8) (x % 2) (omega arith))

-- and those before and behind it are as they were
pub set_bit-before : (s : List ℕ) (p x q : ℕ) → q < p → bit_of (set_bit s p x) q ≡ bit_of s q
unfolding set_bit bit_of
set_bit-before s p x q l =
    change_keeps (λ w. w / 2 ^ (7 - q % 8) % 2 ≡ bit_of s q) s (p / 8) (q / 8) (λ v. in_byte v (p % 8) x)
    (λ e. rw (in_byte-replaced (get_or s (q / 8) 0) (p % 8) x (omega arith)) (bit-higher (get_or s (q / 8) 0) (7 - p % 8) (7 - q % 8) (x % 2) (omega arith) (omega arith)))
    refl

pub set_bit-after : (s : List ℕ) (p x q : ℕ) → p < q → bit_of (set_bit s p x) q ≡ bit_of s q
unfolding set_bit bit_of
set_bit-after s p x q l =
    change_keeps (λ w. w / 2 ^ (7 - q % 8) % 2 ≡ bit_of s q) s (p / 8) (q / 8) (λ v. in_byte v (p % 8) x)
    (λ e. rw (in_byte-replaced (get_or s (q / 8) 0) (p % 8) x (omega arith)) (bit-lower (get_or s (q / 8) 0) (7 - p % 8) (7 - q % 8) (x % 2) (omega arith)))
    refl

-- bytes stay bytes
pub set_bit-bytes : (s : List ℕ) (p x : ℕ) → ((i : ℕ) → get_or s i 0 < 256) → (i : ℕ) → get_or (set_bit s p x) i 0 < 256
unfolding set_bit
set_bit-bytes s p x l i =
    change_keeps (λ w. w < 256) s (p / 8) i (λ v. in_byte v (p % 8) x)
    (λ e. rw (in_byte-replaced (get_or s i 0) (p % 8) x (omega arith)) (replaced-lt 8 (get_or s i 0) (7 - p % 8) 1 (x % 2) (omega arith) (l i) (omega arith)))
    (l i)
