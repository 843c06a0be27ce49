-- Bits that are the same, one by one.
use mathlib.Core.Path.{◌≡◌, refl}
use mathlib.Core.Bool.{Bool, true, false}
use mathlib.Core.List.{List}
use Prim.Native.Nat.{ℕ, ◌+◌, ◌≤◌, ◌<◌}
use native.Mathlib.Omega.{arith}
use lib.Dec.{eqb}
use borrow.Author.Tests.{eqb-true, eqb-false}
use Rattle.x691.specs.Bits.{bit_of, uint}
use Rattle.x691.proofs.BitLaws.{uint-one}
use Rattle.rewrite_lines.specs.Same.{SameBits}

pub none_yet : (a b : List ℕ) → SameBits a b 0
none_yet a b = record { at = λ k l. absurd (omega arith) }

pub one_more : (a b : List ℕ) (i : ℕ) → SameBits a b i → bit_of a i ≡ bit_of b i → SameBits a b (i + 1)
one_more a b i h e = record { at = each }
  where
    go : (k : ℕ) → k < i + 1 → (t : Bool) → eqb k i ≡ t → bit_of a k ≡ bit_of b k
    go k l true q = rw (eqb-true k i q) e
    go k l false q = h.at k (let d = eqb-false k i q in omega arith)

    each : (k : ℕ) → k < i + 1 → bit_of a k ≡ bit_of b k
    each k l = go k l (eqb k i) refl

pub all_of : (a b : List ℕ) (n i : ℕ) → n ≤ i → SameBits a b i → SameBits a b n
all_of a b n i l h = record { at = λ k m. h.at k (omega arith) }

-- a bit read of each side
pub bit_of_both : (a b : List ℕ) (i x y : ℕ) → x ≡ uint (bit_of a) i 1 → y ≡ uint (bit_of b) i 1 → x ≡ y → bit_of a i ≡ bit_of b i
bit_of_both a b i x y p q e = let u = uint-one (bit_of a) i in let v = uint-one (bit_of b) i in cc

pub both_of_bit : (a b : List ℕ) (i x y : ℕ) → x ≡ uint (bit_of a) i 1 → y ≡ uint (bit_of b) i 1 → bit_of a i ≡ bit_of b i → x ≡ y
both_of_bit a b i x y p q e = let u = uint-one (bit_of a) i in let v = uint-one (bit_of b) i in cc
