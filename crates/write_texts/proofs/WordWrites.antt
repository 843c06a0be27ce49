-- The characters of a word written.
use mathlib.Core.Path.{◌≡◌, refl}
use mathlib.Core.Bool.{true}
use mathlib.Core.List.{List, [], ◌∷◌, ◌++◌}
use Prim.Native.Nat.{ℕ, zero, suc, ◌+◌, ◌-◌, ◌*◌, ◌/◌, ◌%◌, ◌^◌, ◌≤◌, ◌<◌}
use native.Mathlib.Omega.{arith}
use lib.Dec.{leb}
use borrow.Author.Tests.{lt-ltb, le-ltb, le-leb, lt-leb, ne_eqb}
use Rattle.x691.specs.Bits.{bits_of}
use Rattle.x691.specs.Encoding.{width, joined, unit_bits}
use Rattle.record_lists.specs.Items.{Item}
use Rattle.record_lists.specs.Parse.{got}
use Rattle.record_lists.proofs.First.{and_no}
use Rattle.numeric_strings.proofs.SpacingLaws.{pow-octets}
use Rattle.pens.specs.Stand.{Stand}
use Rattle.pens.specs.Writes.{Writes, Inks}
use Rattle.pens.proofs.PenLaws.{then_writes}
use Rattle.write_texts.specs.Letters.{in_octet, in_word}
use Rattle.pens.proofs.GotLaws.{writes_as, writes_none, writes_nothing, writes_ink}

---------------------------------------------------------------- one character

module _ (n c x : ℕ) (T : ℕ → List Item) (m : ℕ) (p : Stand) (X : List ℕ) (q : Stand) (Y : List ℕ) where
  pub character_in : (k : ℕ) → k ≡ width (n - 1) → c ≤ x → x - c < n → Inks p X k (x - c) q Y → Writes (λ u. bits_of (width (n - 1)) u) (λ R. in_octet n c x R) T m p X q Y
  unfolding in_octet
  character_in k e a b i =
      writes_as _ _ (λ R. got (x - c) R) _ T m p X q Y (rw (le-leb c x a, lt-ltb (x - c) n b)) (λ v S _. refl) (writes_ink (λ u. bits_of (width (n - 1)) u) (x - c) k (x - c) (rw e) T m p X q Y i)

  pub character-below : x < c → q.off ≡ true → Writes (λ u. bits_of (width (n - 1)) u) (λ R. in_octet n c x R) T m p X q Y
  unfolding in_octet
  character-below a k = writes_none _ (λ R. in_octet n c x R) T m p X q Y (rw (lt-leb c x a)) k

  pub character-above : n ≤ x - c → q.off ≡ true → Writes (λ u. bits_of (width (n - 1)) u) (λ R. in_octet n c x R) T m p X q Y
  unfolding in_octet
  character-above a k = writes_none _ (λ R. in_octet n c x R) T m p X q Y (rw (le-ltb (x - c) n a, and_no (leb c x))) k

---------------------------------------------------------------- the characters of a word

units-cons : (n u : ℕ) (us : List ℕ) → unit_bits n (u ∷ us) ≡ bits_of (width (n - 1)) u ++ unit_bits n us
unfolding unit_bits joined
units-cons n u us = refl

module _ (n c : ℕ) (T : ℕ → List Item) (m : ℕ) where
  word_more : (j k w : ℕ) (p q r : Stand) (X Y Z : List ℕ) → Writes (λ u. bits_of (width (n - 1)) u) (λ R. in_octet n c (w / 2 ^ (k * 8)) R) T m p X q Y
      → Writes (λ us. unit_bits n us) (λ R. in_word n c j k (w % 2 ^ (k * 8)) R) T m q Y r Z → Writes (λ us. unit_bits n us) (λ R. in_word n c (suc j) (suc k) w R) T m p X r Z
  unfolding in_word
  word_more j k w p q r X Y Z a b =
      rw (pow-octets k) at (then_writes (λ u. bits_of (width (n - 1)) u) (λ us. unit_bits n us) (λ us. unit_bits n us) _ _ (λ u us. u ∷ us) (units-cons n) T m p q r X Y Z a b)

  -- the same as a turn of the loop has it, for the octet i
  pub word_turn : (k i w : ℕ) (p q r : Stand) (X Y Z : List ℕ) → i < k → k ≤ 8 → Writes (λ u. bits_of (width (n - 1)) u) (λ R. in_octet n c (w / 2 ^ ((7 - i) * 8)) R) T m p X q Y
      → Writes (λ us. unit_bits n us) (λ R. in_word n c (k - (i + 1)) (8 - (i + 1)) (w % 2 ^ ((7 - i) * 8)) R) T m q Y r Z → Writes (λ us. unit_bits n us) (λ R. in_word n c (k - i) (8 - i) w R) T m p X r Z
  word_turn k i w p q r X Y Z l h a b =
      let e : k - i ≡ suc (k - (i + 1)) = omega arith in
      let f : 8 - i ≡ suc (7 - i) = omega arith in
      let g : 8 - (i + 1) ≡ 7 - i = omega arith in
      rw (e, f) (word_more (k - (i + 1)) (7 - i) w p q r X Y Z a (rw g at b))

  pub word_ends : (k w : ℕ) (p : Stand) (X : List ℕ) → w ≡ 0 → Writes (λ us. unit_bits n us) (λ R. in_word n c zero k w R) T m p X p X
  unfolding in_word unit_bits joined
  word_ends k w p X e = rw e (writes_nothing (λ us. unit_bits n us) [] refl T m p X)

  pub word_goes_on : (k w : ℕ) (p q : Stand) (X Y : List ℕ) → (w ≡ 0 → ⊥) → q.off ≡ true → Writes (λ us. unit_bits n us) (λ R. in_word n c zero k w R) T m p X q Y
  unfolding in_word
  word_goes_on k w p q X Y e o = writes_none _ (λ R. in_word n c zero k w R) T m p X q Y (rw (ne_eqb w 0 e)) o
