-- What a leaf gets of the record at the front of the list, by the record's value.
use mathlib.Core.Path.{◌≡◌, refl, sym, ◌∙◌}
use mathlib.Core.Bool.{Bool, true, false, cond}
use mathlib.Core.List.{List, [], ◌∷◌}
use Prim.Native.Nat.{ℕ, zero, suc, ◌+◌, ◌*◌, ◌≤◌, ◌<◌}
use lib.ListN.{get_or}
use lib.Dec.{ltb}
use borrow.Author.Tests.{ltb-true, ltb-false}
use Rattle.x691.specs.Bits.{stretch}
use Rattle.record_lists.specs.Items.{Item, plain, bits}
use Rattle.record_lists.specs.Kinds.{span_tag}
use Rattle.record_lists.specs.Parse.{Got, no, got, value_in, value_of, same, begins, peel, leaf, feed}
use Rattle.pens.specs.Rest.{items}
use Rattle.pens.proofs.RestLaws.{item_of, items-cons, items-end}

-- the value of record i
abbrev pub value : List ℕ → ℕ → ℕ
value W i = get_or W (i * 5 + 2) 0

-- the record is taken and v is got, if v is good
abbrev pub one : Bool → Item → ℕ → List Item → Got ℕ
one good x v R = cond good (feed (peel (x ∷ []) zero R) λ _ S. got v S) no

either_way : (a : Bool) (x : Got ℕ) → cond a x x ≡ x
either_way true x = refl
either_way false x = refl

-- a leaf proposes a number from the record's value, which the number has to show again
module _ (t e : ℕ) (show : ℕ → ℕ) (good : ℕ → Bool) (propose : ℕ → ℕ) where
  -- from these items
  abbrev of : List Item → Got ℕ
  of R = leaf (λ v. plain t e (show v) 0 ∷ []) good (propose (value_of R)) R

  leaf_item : (b : ℕ → ℕ) (u f w s : ℕ) (S : List Item) → show (propose w) ≡ w → of (item_of b u f w s ∷ S) ≡ one (good (propose w)) (plain t e w 0) (propose w) (item_of b u f w s ∷ S)
  unfolding leaf peel feed value_of value_in same
  leaf_item b u f w s S k = go (span_tag u)
    where
      met : (a c : Bool) → cond c (cond a (got (propose w) S) no) no ≡ cond c (feed (cond a (got zero S) no) λ _ U. got (propose w) U) no
      met true c = refl
      met false c = refl

      go : (a : Bool) → of (cond a (bits u f (stretch b w s)) (plain u f w s) ∷ S) ≡ one (good (propose w)) (plain t e w 0) (propose w) (cond a (bits u f (stretch b w s)) (plain u f w s) ∷ S)
      go true = either_way (good (propose 0)) no ∙ sym (either_way (good (propose w)) no)
      go false = rw k (met (same (plain t e w 0) (plain u f w s)) (good (propose w)))

  module _ (b : ℕ → ℕ) (W : List ℕ) (m i : ℕ) where
    pub leaf_end : m ≤ i → of (items b W m i) ≡ no
    unfolding leaf peel
    leaf_end h = rw (items-end b W m i h) (either_way (good (propose (value_of []))) no)

    pub leaf_front : show (propose (value W i)) ≡ value W i → of (items b W m i) ≡ one (good (propose (value W i))) (plain t e (value W i) 0) (propose (value W i)) (items b W m i)
    unfolding peel feed
    leaf_front k = go (ltb i m) refl
      where
        go : (a : Bool) → ltb i m ≡ a → of (items b W m i) ≡ one (good (propose (value W i))) (plain t e (value W i) 0) (propose (value W i)) (items b W m i)
        go true q = rw (items-cons b W m i (ltb-true i m q)) (leaf_item b (get_or W (i * 5) 0) (get_or W (i * 5 + 1) 0) (value W i) (get_or W (i * 5 + 3) 0) (items b W m (suc i)) k)
        go false q = leaf_end (ltb-false i m q) ∙ rw (items-end b W m i (ltb-false i m q)) (sym (either_way (good (propose (value W i))) no))

-- what is good is got if the record is the one that is asked for
pub one-begins : (b : ℕ → ℕ) (W : List ℕ) (m i : ℕ) (x : Item) (v : ℕ) → i < m → one true x v (items b W m i) ≡ cond (begins x (items b W m i)) (got v (items b W m (suc i))) no
unfolding peel feed begins
one-begins b W m i x v h = rw (items-cons b W m i h) (go (same x (item_of b (get_or W (i * 5) 0) (get_or W (i * 5 + 1) 0) (get_or W (i * 5 + 2) 0) (get_or W (i * 5 + 3) 0))) (items b W m (suc i)))
  where
    go : (a : Bool) (S : List Item) → feed (cond a (got zero S) no) (λ _ U. got v U) ≡ cond a (got v S) no
    go true S = refl
    go false S = refl
