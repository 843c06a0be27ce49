-- Laws of a stretch of bits.
use mathlib.Core.Path.{◌≡◌, refl, ap}
use mathlib.Core.List.{List, [], ◌∷◌, ◌++◌}
use Prim.Native.Nat.{ℕ, zero, suc, ◌+◌, ◌^◌, ◌<◌}
use native.Mathlib.Nat.{zero-add, suc-add, add-zero, add-suc}
use native.Mathlib.Omega.{arith}
use lib.ListN.{length}
use lib.Pow.{high, low}
use Rattle.x691.specs.Bits.{uint, bits_of, Spells, stretch}
use Rattle.x691.specs.Range.{All}
use Rattle.x691.proofs.BitLaws.{uint-lt}

pub stretch-length : (b : ℕ → ℕ) (q n : ℕ) → length (stretch b q n) ≡ n
unfolding stretch
stretch-length b q zero = refl
stretch-length b q (suc n) = ap suc (stretch-length b (suc q) n)

-- stretches side by side
pub stretch-join : (b : ℕ → ℕ) (q m n : ℕ) → stretch b q (m + n) ≡ stretch b q m ++ stretch b (q + m) n
unfolding stretch
stretch-join b q zero n = rw (zero-add, add-zero)
stretch-join b q (suc m) n = rw (suc-add, stretch, stretch-join b (suc q) m n, add-suc, suc-add)

-- what is spelt there is the stretch, and the stretch is spelt
pub spells_stretch : (b : ℕ → ℕ) (q : ℕ) (xs : List ℕ) → Spells b q xs → xs ≡ stretch b q (length xs)
unfolding stretch Spells
spells_stretch b q [] h = refl
spells_stretch b q (x ∷ xs) h = rw (h.0, ← (spells_stretch b (suc q) xs h.1))

pub stretch_spells : (b : ℕ → ℕ) (q n : ℕ) → Spells b q (stretch b q n)
unfolding stretch Spells
stretch_spells b q zero = tt
stretch_spells b q (suc n) = (refl, stretch_spells b (suc q) n)

-- a stretch goes by the bits at its places, also of others that many places on
pub stretch_agree : (b c : ℕ → ℕ) (q r n : ℕ) → ((i : ℕ) → i < n → b (q + i) ≡ c (r + i)) → stretch b q n ≡ stretch c r n
unfolding stretch
stretch_agree b c q r zero h = refl
stretch_agree b c q r (suc n) h =
    let e : b q ≡ c r = rw (add-zero q, add-zero r) at (h 0 (omega arith)) in
    rw (e, stretch_agree b c (suc q) (suc r) n (λ i l. rw (suc-add q i, suc-add r i, ← (add-suc q i), ← (add-suc r i)) (h (suc i) (omega arith))))

module _ (b : ℕ → ℕ) (bits : (i : ℕ) → b i < 2) where
  pub stretch-below : (q n : ℕ) → All (λ c. c < 2) (stretch b q n)
  unfolding stretch
  stretch-below q zero = tt
  stretch-below q (suc n) = (bits q, stretch-below (suc q) n)

  -- a stretch is the bits of the number that it spells
  pub stretch-number : (q n : ℕ) → stretch b q n ≡ bits_of n (uint b q n)
  unfolding stretch uint bits_of
  stretch-number q zero = refl
  stretch-number q (suc n) =
      let l : uint b (suc q) n < 2 ^ n = uint-lt b bits (suc q) n in
      rw (high (b q) n l, low (b q) n l, stretch-number (suc q) n)
