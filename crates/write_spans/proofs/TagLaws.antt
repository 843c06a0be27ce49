-- The tags of spans, one by one.
use mathlib.Core.Path.{◌≡◌, refl}
use mathlib.Core.Bool.{Bool, true, false, ◌||◌}
use Prim.Native.Nat.{ℕ}
use lib.Dec.{eqb}
use borrow.Author.Tests.{ne_eqb}
use Rattle.x691.specs.Range.{member}
use Rattle.record_lists.specs.Kinds.{span_tag}

or_no : (a : Bool) → a ≡ a || false
or_no true = refl
or_no false = refl

module _ (t : ℕ) where
  pub tag_18 : t ≡ 18 → true ≡ span_tag t
  unfolding span_tag member
  tag_18 h = rw h

  pub tag_20 : t ≡ 20 → true ≡ span_tag t
  unfolding span_tag member
  tag_20 h = rw h

  pub tag_116 : t ≡ 116 → true ≡ span_tag t
  unfolding span_tag member
  tag_116 h = rw h

  pub tag_117 : t ≡ 117 → true ≡ span_tag t
  unfolding span_tag member
  tag_117 h = rw h

  -- if it is none of these, it is the last or none
  pub tag_118 : (t ≡ 18 → ⊥) → (t ≡ 20 → ⊥) → (t ≡ 116 → ⊥) → (t ≡ 117 → ⊥) → eqb t 118 ≡ span_tag t
  unfolding span_tag member
  tag_118 a b c d = rw (ne_eqb t 18 a, ne_eqb t 20 b, ne_eqb t 116 c, ne_eqb t 117 d) (or_no (eqb t 118))
