-- The record at the front of the rest, and what it shows.
use mathlib.Core.Path.{◌≡◌, refl, sym, ap, ◌∙◌}
use mathlib.Core.Bool.{Bool, true, false, cond, ◌&&◌, ◌||◌, false≢true}
use mathlib.Core.List.{List, [], ◌∷◌}
use Prim.Native.Nat.{ℕ, suc, ◌+◌, ◌-◌, ◌*◌, ◌≤◌, ◌<◌}
use native.Mathlib.Omega.{arith}
use lib.ListN.{get_or, drop}
use lib.Dec.{eqb}
use borrow.Author.Tests.{eqb-true, eqb-false, eq-eqb, ne_eqb}
use Rattle.x691.specs.Bits.{stretch}
use Rattle.x691.specs.Range.{member}
use Rattle.atn.specs.Reading.{rec}
use Rattle.record_lists.specs.Items.{Item, plain, bits, tag_of, look}
use Rattle.record_lists.specs.Kinds.{span_tag}
use Rattle.record_lists.specs.Parse.{opens, begins, same}
use Rattle.record_lists.specs.Message.{records_from}
use Rattle.record_lists.proofs.First.{and_no}
use Rattle.pens.specs.Rest.{rest, items}

-- what a record shows
abbrev pub item_of : (ℕ → ℕ) → ℕ → ℕ → ℕ → ℕ → Item
item_of b t e v s = cond (span_tag t) (bits t e (stretch b v s)) (plain t e v s)

rest_end : (W : List ℕ) (m i : ℕ) → m ≤ i → rest W m i ≡ []
unfolding rest records_from
rest_end W m i h = let e : m - i ≡ 0 = omega arith in rw e

rest-cons : (W : List ℕ) (m i : ℕ) → i < m → rest W m i ≡ rec (get_or W (i * 5) 0) (get_or W (i * 5 + 1) 0) (get_or W (i * 5 + 2) 0) (get_or W (i * 5 + 3) 0) (get_or W (i * 5 + 4) 0) ∷ rest W m (suc i)
unfolding rest records_from
rest-cons W m i h = let e : m - i ≡ suc (m - suc i) = omega arith in rw e

module _ (b : ℕ → ℕ) (W : List ℕ) (m i : ℕ) where
  pub items-end : m ≤ i → items b W m i ≡ []
  unfolding items look
  items-end h = rw (rest_end W m i h)

  pub items-cons : i < m → items b W m i ≡ item_of b (get_or W (i * 5) 0) (get_or W (i * 5 + 1) 0) (get_or W (i * 5 + 2) 0) (get_or W (i * 5 + 3) 0) ∷ items b W m (suc i)
  unfolding items look
  items-cons h = rw (rest-cons W m i h)

tag-of : (b : ℕ → ℕ) (t e v s : ℕ) → tag_of (item_of b t e v s) ≡ t
unfolding tag_of
tag-of b t e v s = go (span_tag t)
  where
    go : (a : Bool) → tag_of (cond a (bits t e (stretch b v s)) (plain t e v s)) ≡ t
    go true = refl
    go false = refl

eqb_swap : (a c : ℕ) → eqb a c ≡ eqb c a
eqb_swap a c = go (eqb c a) refl
  where
    go : (x : Bool) → eqb c a ≡ x → eqb a c ≡ x
    go true q = eq-eqb a c (sym (eqb-true c a q))
    go false q = ne_eqb a c (λ e. eqb-false c a q (sym e))

or_no : (a : Bool) → a || false ≡ a
or_no true = refl
or_no false = refl

-- a record that is not a span's is the one that is asked for, or not
same_item : (b : ℕ → ℕ) (t e v s u f w r : ℕ) → span_tag t ≡ false → same (plain t e v s) (item_of b u f w r) ≡ (eqb t u && eqb e f) && (eqb v w && eqb s r)
unfolding same
same_item b t e v s u f w r h = go (span_tag u) refl
  where
    go : (a : Bool) → span_tag u ≡ a → same (plain t e v s) (cond a (bits u f (stretch b w r)) (plain u f w r)) ≡ (eqb t u && eqb e f) && (eqb v w && eqb s r)
    go true q = rw (ne_eqb t u (λ z. false≢true (sym h ∙ ap span_tag z ∙ q)))
    go false q = refl

module _ (b : ℕ → ℕ) (W : List ℕ) (m i : ℕ) where
  pub tagged_end : (t : ℕ) → m ≤ i → opens (t ∷ []) (items b W m i) ≡ false
  unfolding opens
  tagged_end t h = rw (items-end b W m i h)

  pub tagged_at : (t : ℕ) → i < m → opens (t ∷ []) (items b W m i) ≡ eqb (get_or W (i * 5) 0) t
  unfolding opens member
  tagged_at t h = rw (items-cons b W m i h, tag-of b (get_or W (i * 5) 0) (get_or W (i * 5 + 1) 0) (get_or W (i * 5 + 2) 0) (get_or W (i * 5 + 3) 0)) (or_no (eqb (get_or W (i * 5) 0) t))

  pub record-end : (x : Item) → m ≤ i → begins x (items b W m i) ≡ false
  unfolding begins
  record-end x h = rw (items-end b W m i h)

  pub record-at : (t e v s : ℕ) → span_tag t ≡ false → i < m
      → begins (plain t e v s) (items b W m i) ≡ (eqb t (get_or W (i * 5) 0) && eqb e (get_or W (i * 5 + 1) 0)) && (eqb v (get_or W (i * 5 + 2) 0) && eqb s (get_or W (i * 5 + 3) 0))
  unfolding begins
  record-at t e v s k h = rw (items-cons b W m i h) (same_item b t e v s (get_or W (i * 5) 0) (get_or W (i * 5 + 1) 0) (get_or W (i * 5 + 2) 0) (get_or W (i * 5 + 3) 0) k)

  -- a record by what is found in its words
  pub record_last : (t e v s : ℕ) → span_tag t ≡ false → i < m → get_or W (i * 5) 0 ≡ t → get_or W (i * 5 + 1) 0 ≡ e → get_or W (i * 5 + 2) 0 ≡ v → eqb (get_or W (i * 5 + 3) 0) s ≡ begins (plain t e v s) (items b W m i)
  record_last t e v s k h x y z =
      let f = eqb_swap (get_or W (i * 5 + 3) 0) s in
      f ∙ sym (record-at t e v s k h ∙ rw (eq-eqb t (get_or W (i * 5) 0) (sym x), eq-eqb e (get_or W (i * 5 + 1) 0) (sym y), eq-eqb v (get_or W (i * 5 + 2) 0) (sym z)))

  pub record-value : (t e v s : ℕ) → span_tag t ≡ false → i < m → (get_or W (i * 5 + 2) 0 ≡ v → ⊥) → begins (plain t e v s) (items b W m i) ≡ false
  record-value t e v s k h z = record-at t e v s k h ∙ rw (ne_eqb v (get_or W (i * 5 + 2) 0) (λ q. z (sym q))) (and_no (eqb t (get_or W (i * 5) 0) && eqb e (get_or W (i * 5 + 1) 0)))

  pub record-element : (t e v s : ℕ) → span_tag t ≡ false → i < m → (get_or W (i * 5 + 1) 0 ≡ e → ⊥) → begins (plain t e v s) (items b W m i) ≡ false
  record-element t e v s k h z = record-at t e v s k h ∙ rw (ne_eqb e (get_or W (i * 5 + 1) 0) (λ q. z (sym q)), and_no (eqb t (get_or W (i * 5) 0)))

  pub record-tag : (t e v s : ℕ) → span_tag t ≡ false → i < m → (get_or W (i * 5) 0 ≡ t → ⊥) → begins (plain t e v s) (items b W m i) ≡ false
  record-tag t e v s k h z = record-at t e v s k h ∙ rw (ne_eqb t (get_or W (i * 5) 0) (λ q. z (sym q)))

  -- behind the record at the front
  pub items-drop : i < m → drop 1 (items b W m i) ≡ items b W m (i + 1)
  items-drop h = rw (items-cons b W m i h) (ap (λ (j : ℕ). items b W m j) (omega arith))
