-- The units of a stretch of bits, and their bits.
use mathlib.Core.Path.{◌≡◌, refl, sym, ap, ◌∙◌}
use mathlib.Core.Bool.{true}
use mathlib.Core.List.{List, []}
use Prim.Native.Nat.{ℕ, zero, suc, ◌+◌, ◌*◌, ◌/◌, ◌%◌, ◌^◌, ◌<◌}
use native.Mathlib.Nat.{zero-add, div-add-mod'}
use native.Mathlib.Omega.{arith}
use lib.ListN.{length, get_or}
use borrow.Author.Tests.{lt-ltb}
use Rattle.x691.specs.Bits.{uint, stretch}
use Rattle.x691.specs.Encoding.{unit_bits}
use Rattle.x691.proofs.BitLaws.{uint-lt}
use Rattle.x691.proofs.Widths.{width-pow}
use Rattle.atn.specs.Reading.{units}
use Rattle.atn.proofs.Inverse.{units-spelt}
use Rattle.atn.proofs.Texts.{length-units}
use Rattle.bit_writer.proofs.Stretches.{stretch-length, spells_stretch}
use Rattle.record_lists.proofs.Back.{spells_own}
use Rattle.record_lists.specs.Parse.{units_of, all_below}
use Rattle.record_lists.proofs.First.{length-span}

pub units-length : (w : ℕ) (xs : List ℕ) → length (units_of w xs) ≡ length xs / w
unfolding units_of
units-length w xs = length-units (λ i. get_or xs i 0) w 0 (length xs / w)

pub units-none : (w : ℕ) (xs : List ℕ) → length xs / w ≡ 0 → units_of w xs ≡ []
unfolding units_of units
units-none w xs h = rw h

units-below : (b : ℕ → ℕ) → ((i : ℕ) → b i < 2) → (w at i : ℕ) → all_below (2 ^ w) (units b w at i) ≡ true
unfolding units all_below
units-below b bit w at zero = refl
units-below b bit w at (suc i) = rw (lt-ltb (uint b at w) (2 ^ w) (uint-lt b bit at w)) (units-below b bit w (at + w) i)

stretch-bit : (b : ℕ → ℕ) → ((i : ℕ) → b i < 2) → (q n i : ℕ) → get_or (stretch b q n) i 0 < 2
unfolding stretch
stretch-bit b bit q zero i = omega arith
stretch-bit b bit q (suc n) zero = bit q
stretch-bit b bit q (suc n) (suc i) = stretch-bit b bit (suc q) n i

module _ (b : ℕ → ℕ) (bit : (i : ℕ) → b i < 2) (w q n : ℕ) where
  pub below : all_below (2 ^ w) (units_of w (stretch b q n)) ≡ true
  unfolding units_of
  below = units-below (λ i. get_or (stretch b q n) i 0) (stretch-bit b bit q n) w 0 (length (stretch b q n) / w)

  pub counted : length (units_of w (stretch b q n)) ≡ n / w
  counted = units-length w (stretch b q n) ∙ rw (stretch-length b q n)

  -- so many bits have the units
  pub spread : length (unit_bits (2 ^ w) (units_of w (stretch b q n))) ≡ n / w * w
  spread = length-span w (units_of w (stretch b q n)) ∙ rw counted

  -- where all units are whole, they have all the bits
  pub units-whole : n % w ≡ 0 → unit_bits (2 ^ w) (units_of w (stretch b q n)) ≡ stretch b q n
  unfolding units_of
  units-whole h =
      let xs : List ℕ = stretch b q n in
      let c : ℕ → ℕ = λ i. get_or xs i 0 in
      let s = rw (width-pow w) at (units-spelt c (stretch-bit b bit q n) (2 ^ w) 0 (length xs / w)) in
      let l : length (unit_bits (2 ^ w) (units_of w xs)) ≡ length xs = spread ∙ omega (arith, div-add-mod' n w, stretch-length b q n) in
      spells_stretch c 0 (unit_bits (2 ^ w) (units_of w xs)) s.1 ∙ rw l (sym (spells_stretch c 0 xs (spells_own c 0 xs (λ i. ap c (zero-add i)))))

  -- and where they have all the bits, they are whole
  pub whole-units : unit_bits (2 ^ w) (units_of w (stretch b q n)) ≡ stretch b q n → n % w ≡ 0
  whole-units h =
      let l : n / w * w ≡ n = sym spread ∙ ap (λ (z : List ℕ). length z) h ∙ stretch-length b q n in
      omega (arith, div-add-mod' n w)
