-- What is got of a number, a name or a reason at the front of the list.
use Rattle.std.proofs.Common.{◌≡◌, ℕ, ◌+◌, ◌^◌, ◌<◌, ◌≤◌, ◌&&◌, leb, List, refl, arith}
use Rattle.x691.specs.Types.{extent}
use Rattle.x691.specs.Range.{member}
use Rattle.atn.specs.Format.{num, listed, name}
use Rattle.atn.specs.Reading.{word}
use Rattle.record_lists.specs.Items.{plain}
use Rattle.record_lists.specs.Parse.{no, above, parse}
use Rattle.pens.specs.Rest.{items}
use Rattle.pens.proofs.FrontLaws.{value, one, leaf_end, leaf_front}

word-above : (lo w : ℕ) → lo < 2 ^ 64 → w < 2 ^ 64 → word (lo + above lo w) ≡ w
unfolding word above
word-above lo w a b = omega arith

module _ (b : ℕ → ℕ) (W : List ℕ) (m i t e y : ℕ) where
  pub number-end : (lo hi : ℕ) → m ≤ i → parse (num t lo hi) (e, y) (items b W m i) ≡ no
  unfolding parse
  number-end lo hi h = leaf_end t e (λ v. word (lo + v)) (λ v. leb v (extent lo hi)) (λ w. above lo w) b W m i h

  pub listed-end : (hi : ℕ) (xs : List ℕ) → m ≤ i → parse (listed t hi xs) (e, y) (items b W m i) ≡ no
  unfolding parse
  listed-end hi xs h = leaf_end t e (λ v. v) (λ v. leb v hi && member v xs) (λ w. w) b W m i h

  pub number-front : (lo hi : ℕ) → lo < 2 ^ 64 → value W i < 2 ^ 64
      → parse (num t lo hi) (e, y) (items b W m i) ≡ one (leb (above lo (value W i)) (extent lo hi)) (plain t e (value W i) 0) (above lo (value W i)) (items b W m i)
  unfolding parse
  number-front lo hi l g = leaf_front t e (λ v. word (lo + v)) (λ v. leb v (extent lo hi)) (λ w. above lo w) b W m i (word-above lo (value W i) l g)

  pub name-front : (hi : ℕ) → parse (name t hi) (e, y) (items b W m i) ≡ one (leb (value W i) (extent 0 hi)) (plain t e (value W i) 0) (value W i) (items b W m i)
  unfolding parse
  name-front hi = leaf_front t e (λ v. v) (λ v. leb v (extent 0 hi)) (λ w. w) b W m i refl

  pub listed-front : (hi : ℕ) (xs : List ℕ) → parse (listed t hi xs) (e, y) (items b W m i) ≡ one (leb (value W i) hi && member (value W i) xs) (plain t e (value W i) 0) (value W i) (items b W m i)
  unfolding parse
  listed-front hi xs = leaf_front t e (λ v. v) (λ v. leb v hi && member v xs) (λ w. w) b W m i refl
