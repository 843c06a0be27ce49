-- Characters of four bits, told twice: those of the source, and those of X.680 if it has one for each.
use mathlib.Core.Path.{◌≡◌, ◌∙◌}
use mathlib.Core.Bool.{Bool, true, false, ◌&&◌}
use mathlib.Core.List.{List}
use Prim.Native.Nat.{ℕ, zero, suc, ◌+◌, ◌-◌, ◌*◌, ◌≤◌, ◌<◌}
use native.Mathlib.Omega.{arith}
use lib.Dec.{leb}
use borrow.Author.Tests.{le-leb, lt-leb}
use Rattle.x691.specs.Bits.{bit_of, uint}
use Rattle.x691.specs.Range.{All}
use Rattle.per.proofs.Laws.{uint-below}
use Rattle.atn.specs.Reading.{octets, spaced, units, none_above}
use Rattle.numeric_strings.specs.Spacing.{spaced_octets}
use Rattle.numeric_strings.proofs.SpacingLaws.{octets-spaced}
use Rattle.tell.specs.declared.characters.Run.{Run}
use Rattle.tell.specs.Characters.{counted, from, Spelt}

---------------------------------------------------------------- the test

module _ (s : List ℕ) (at len : ℕ) where
  -- of the characters from i on
  pub Test : ℕ → Bool
  Test i = none_above 10 (units (bit_of s) 4 (at + i * 4) (len - i))

  test_next : (i : ℕ) → i < len → Test i ≡ leb (uint (bit_of s) (at + i * 4) 4) 10 && Test (i + 1)
  unfolding Test none_above units
  test_next i h =
      let e : len - i ≡ suc (len - (i + 1)) = omega arith in
      let f : at + i * 4 + 4 ≡ at + (i + 1) * 4 = omega arith in
      rw (e, f)

  pub test_goes : (i v : ℕ) → i < len → v ≡ uint (bit_of s) (at + i * 4) 4 → v ≤ 10 → Test i ≡ Test (i + 1)
  test_goes i v h e l = test_next i h ∙ rw (← e, le-leb v 10 l)

  pub test_fails : (i v : ℕ) → i < len → v ≡ uint (bit_of s) (at + i * 4) 4 → 10 < v → Test i ≡ false
  test_fails i v h e l = test_next i h ∙ rw (← e, lt-leb v 10 l)

  pub test_holds : (i : ℕ) → len ≤ i → Test i ≡ true
  unfolding Test none_above units
  test_holds i h = let e : len - i ≡ 0 = omega arith in rw e

  pub test_all : none_above 10 (units (bit_of s) 4 at len) ≡ Test 0
  unfolding Test
  test_all = let e : at + 0 * 4 ≡ at = omega arith in let f : len - 0 ≡ len = omega arith in rw (e, f)

---------------------------------------------------------------- eight characters as they are told

units-below : (s : List ℕ) (at n : ℕ) → All (λ u. u < 16) (units (bit_of s) 4 at n)
unfolding units
units-below s at zero = tt
units-below s at (suc n) = (uint-below s at 4, units-below s (at + 4) n)

module _ (s : List ℕ) (r : Run) (i : ℕ) (z : Spelt s r) {v : ℕ} (e : v ≡ octets 8 (counted s r i)) where
  pub told-plain : r.spaced ≡ false → v ≡ octets 8 (from s r i)
  unfolding from
  told-plain q = e ∙ rw q

  pub told-spaced : {x : ℕ} → r.spaced ≡ true → x ≡ spaced_octets 8 v → x ≡ octets 8 (from s r i)
  unfolding from counted
  told-spaced q f =
      let n = z.numeric q in
      f ∙ rw (q, e, n.0, n.1) (octets-spaced 8 (units (bit_of s) 4 (r.at + i * 4) (r.len - i)) (units-below s (r.at + i * 4) (r.len - i)))
