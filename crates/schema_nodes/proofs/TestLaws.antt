-- The tests of a table, by the questions that the code asks.
use Rattle.std.proofs.Common.{◌≡◌, ℕ, zero, suc, ◌+◌, ◌-◌, ◌/◌, ◌%◌, ◌^◌, ◌<◌, ◌≤◌, Bool, true, false, ◌&&◌, ◌||◌, eqb, ltb, leb, ◌⊎◌, List, length, sym, refl, ◌∙◌, inl, inr, add-zero, arith, ltb-true, le-ltb, lt-ltb, eq-eqb, ne_eqb, eqb-true, le-leb, leb-false, leb-true}
use Rattle.std.proofs.lemmas.Bool.{eqb-false}
use borrow.Author.Tests.{lt-leb}
use Rattle.atn.proofs.Inverse.{both}
use Rattle.schema_tables.specs.Nodes.{nodes, node_word}
use Rattle.schema_tables.specs.Tests.{below, each, raised, range_fits, kind_fits, node_fits, kinds_fit, first_of, count_of, first_at, count_at, link_fits, links_fit, within, depth_fits}
use Rattle.schema_nodes.specs.declared.node.Leaf.TheVariants.{Number, Name, Text, Bits}
use Rattle.schema_nodes.specs.declared.node.Node.{Node}
use Rattle.schema_nodes.specs.declared.node.Node.TheVariants.{Leaf as leaf, Sequence, Choice, Optional, Unread, NoReader, Unlisted, Extension, Headed, Other, Unknown}
use Rattle.schema_nodes.specs.Names.{first_named, count_named, fits}
use Rattle.schema_nodes.specs.Row.{IsNode}
use Rattle.schema_nodes.specs.Refusal.{refusal_of}

never : {A : Type 0} {t : Bool} → t ≡ true → t ≡ false → A
never p q = let z : ◌≡◌ {A = ℕ} 0 1 = cc in absurd (omega arith)

---------------------------------------------------------------- 17

pub raised-le : (lo hi x y : ℕ) → x ≡ (lo + 9223372036854775808) % 2 ^ 64 → y ≡ (hi + 9223372036854775808) % 2 ^ 64 → leb x y ≡ range_fits lo hi
unfolding range_fits raised
raised-le lo hi x y p q = rw (p, q)

-- a kind above 12 has twelve others below it
pub above : (k : ℕ) → 13 ≤ k → k ≡ suc (suc (suc (suc (suc (suc (suc (suc (suc (suc (suc (suc (suc (k - 13)))))))))))))
above k l = omega arith

pub its_fit : (N : List ℕ) (k : ℕ) (n : Node) → IsNode N k n → node_fits N k ≡ fits n
unfolding node_fits kind_fits
its_fit N k (leaf (Number tag lowest highest)) i = rw (i.words.0, i.words.2, i.words.3)
its_fit N k (leaf (Name tag highest)) i = rw (i.words.0, i.words.2)
its_fit N k (leaf (Text tag fewest most)) i = rw (i.words.0, i.words.2, i.words.3)
its_fit N k (leaf (Bits tag count)) i = rw i.words.0
its_fit N k (Sequence first count) i = rw i.words.0
its_fit N k (Choice tag first count) i = rw (i.words.0, i.words.3)
its_fit N k (Optional node) i = rw i.words.0
its_fit N k (Unread tag) i = rw i.words.0
its_fit N k NoReader i = rw i.words
its_fit N k Unlisted i = rw i.words
its_fit N k (Extension node tag) i = rw i.words.0
its_fit N k (Headed tag node) i = rw i.words.0
its_fit N k (Other node) i = rw i.words.0
its_fit N k Unknown i = rw (above (node_word N k 0) i.words)

-- a test of every number below n, made one after another
module _ (P : ℕ → Bool) where
  pub below_none : below P 0 ≡ true
  unfolding below
  below_none = refl

  pub below_next : (k : ℕ) → below P k ≡ true → P k ≡ true → below P (k + 1) ≡ true
  unfolding below
  below_next k h g = let e : k + 1 ≡ suc k = omega arith in rw (e, h, g)

  pub below_fails : (k n : ℕ) → k < n → P k ≡ false → below P n ≡ false
  unfolding below
  below_fails k zero l h = absurd (omega arith)
  below_fails k (suc n) l h = go (leb n k) refl λ m. below_fails k n m h
    where
      go : (t : Bool) → leb n k ≡ t → (k < n → below P n ≡ false) → below P n && P n ≡ false
      go true q r = let e : n ≡ k = omega (arith, leb-true n k q) in rw (e, h) (last (below P k))
        where
          last : (t : Bool) → t && false ≡ false
          last true = refl
          last false = refl
      go false q r = rw (r (omega (arith, leb-false n k q)))

  pub below_at : (k n : ℕ) → below P n ≡ true → k < n → P k ≡ true
  below_at k n h l = go (P k) refl
    where
      go : (t : Bool) → P k ≡ t → P k ≡ true
      go true q = q
      go false q = never h (below_fails k n l q)

module _ (N : List ℕ) where
  pub kinds_odd : (length N % 4 ≡ 0 → ⊥) → false ≡ kinds_fit N
  unfolding kinds_fit
  kinds_odd h = rw (ne_eqb (length N % 4) 0 h)

  pub kinds-all : length N % 4 ≡ 0 → {n : ℕ} {t : Bool} → n ≡ length N / 4 → below (λ k. node_fits N k) n ≡ t → t ≡ kinds_fit N
  unfolding kinds_fit nodes
  kinds-all h e g = rw (eq-eqb (length N % 4) 0 h, ← e, g)

  pub node_kind : (k : ℕ) {n : Node} {t : Bool} → IsNode N k n → t ≡ fits n → node_fits N k ≡ t
  node_kind k {n} q h = its_fit N k n q ∙ sym h

---------------------------------------------------------------- 15

pub count_is : (N : List ℕ) (k : ℕ) (n : Node) → IsNode N k n → count_at N k ≡ count_named n
unfolding count_at count_of
count_is N k (leaf (Number tag lowest highest)) i = rw i.words.0
count_is N k (leaf (Name tag highest)) i = rw i.words.0
count_is N k (leaf (Text tag fewest most)) i = rw i.words.0
count_is N k (leaf (Bits tag count)) i = rw i.words.0
count_is N k (Sequence first count) i = rw (i.words.0, i.words.2)
count_is N k (Choice tag first count) i = rw (i.words.0, i.words.3)
count_is N k (Optional node) i = rw i.words.0
count_is N k (Unread tag) i = rw i.words.0
count_is N k NoReader i = rw i.words
count_is N k Unlisted i = rw i.words
count_is N k (Extension node tag) i = rw i.words.0
count_is N k (Headed tag node) i = rw i.words.0
count_is N k (Other node) i = rw i.words.0
count_is N k Unknown i = rw (above (node_word N k 0) i.words)

pub first_is : (N : List ℕ) (k : ℕ) (n : Node) → IsNode N k n → (count_named n ≡ 0 → ⊥) → first_at N k ≡ first_named n
unfolding first_at first_of
first_is N k (leaf l) i z = absurd (z refl)
first_is N k (Sequence first count) i z = rw (i.words.0, i.words.1)
first_is N k (Choice tag first count) i z = rw (i.words.0, i.words.2)
first_is N k (Optional node) i z = rw (i.words.0, i.words.1)
first_is N k (Unread tag) i z = absurd (z refl)
first_is N k NoReader i z = absurd (z refl)
first_is N k Unlisted i z = absurd (z refl)
first_is N k (Extension node tag) i z = rw (i.words.0, i.words.1)
first_is N k (Headed tag node) i z = rw (i.words.0, i.words.2)
first_is N k (Other node) i z = rw (i.words.0, i.words.1)
first_is N k Unknown i z = absurd (z refl)

module _ (N : List ℕ) (k : ℕ) {n : Node} {count first : ℕ} (i : IsNode N k n) (c : count ≡ count_named n) (f : first ≡ first_named n) where
  pub its_count : count_at N k ≡ count
  its_count = count_is N k n i ∙ sym c

  pub its_first : (count ≡ 0 → ⊥) → first_at N k ≡ first
  its_first z = first_is N k n i (λ e. z (c ∙ e)) ∙ sym f

  -- of a node that names none, whatever its first is
  pub each_named : (P : ℕ → Bool) → each P (first_at N k) (count_at N k) ≡ each P first count
  unfolding each
  each_named P = rw its_count (go (eqb count 0) refl)
    where
      go : (t : Bool) → eqb count 0 ≡ t → each P (first_at N k) count ≡ each P first count
      go true e = let z : count ≡ 0 = eqb-true count 0 e in rw z
      go false e = rw (its_first (eqb-false count 0 e))

  pub link_none : count ≡ 0 → true ≡ link_fits N k
  unfolding link_fits
  link_none z = rw (eq-eqb (count_at N k) 0 (its_count ∙ z))

  link_as : (count ≡ 0 → ⊥) → {t : Bool} → t ≡ ltb k first && leb (first + count) (nodes N) → t ≡ link_fits N k
  unfolding link_fits
  link_as z h = rw (its_count, its_first z, ne_eqb count 0 z) h

  pub link_room : (count ≡ 0 → ⊥) → k < first → first ≤ length N / 4 → leb count (length N / 4 - first) ≡ link_fits N k
  unfolding nodes
  link_room z l m = link_as z (rw (lt-ltb k first l) (go (leb count (length N / 4 - first)) refl))
    where
      go : (t : Bool) → leb count (length N / 4 - first) ≡ t → t ≡ leb (first + count) (length N / 4)
      go true q = sym (le-leb (first + count) (length N / 4) (omega (arith, leb-true count (length N / 4 - first) q)))
      go false q = sym (lt-leb (first + count) (length N / 4) (omega (arith, leb-false count (length N / 4 - first) q)))

  pub link_far : (count ≡ 0 → ⊥) → k < first → length N / 4 < first → false ≡ link_fits N k
  unfolding nodes
  link_far z l m = link_as z (rw (lt-ltb k first l, lt-leb (first + count) (length N / 4) (omega arith)))

  pub link_lower : (count ≡ 0 → ⊥) → first ≤ k → false ≡ link_fits N k
  link_lower z l = link_as z (rw (le-ltb k first l))

module _ (N : List ℕ) where
  pub links_empty : {n : ℕ} → n ≡ length N / 4 → n ≡ 0 → false ≡ links_fit N
  unfolding links_fit nodes
  links_empty e z = rw (← e, z)

  pub links_all : {n : ℕ} {t : Bool} → n ≡ length N / 4 → (n ≡ 0 → ⊥) → below (λ k. link_fits N k) n ≡ t → t ≡ links_fit N
  unfolding links_fit nodes
  links_all {n} e z g = rw (← e, le-leb 1 n (omega (arith, z)), g)

  ---------------------------------------------------------------- 16

  -- what a node names lies in the table
  pub named_in : (k : ℕ) → links_fit N ≡ true → (count_at N k ≡ 0) ⊎ (first_at N k + count_at N k ≤ length N / 4)
  unfolding links_fit link_fits nodes count_at count_of node_word
  named_in k h = go (ltb k (length N / 4)) refl
    where
      link : (z l r : Bool) → z || (l && r) ≡ true → (z ≡ true) ⊎ (r ≡ true)
      link true l r q = inl refl
      link false true r q = inr q
      link false false r q = never q refl

      go : (t : Bool) → ltb k (length N / 4) ≡ t → (count_at N k ≡ 0) ⊎ (first_at N k + count_at N k ≤ length N / 4)
      go true q =
          elim (link (eqb (count_at N k) 0) (ltb k (first_at N k)) (leb (first_at N k + count_at N k) (length N / 4)) (below_at (λ j. link_fits N j) k (length N / 4) (both (leb 1 (length N / 4)) (below (λ j. link_fits N j) (length N / 4)) h).1 (ltb-true k (length N / 4) q)))
          [ inl z ↦ inl (eqb-true (count_at N k) 0 z) | inr z ↦ inr (leb-true (first_at N k + count_at N k) (length N / 4) z) ]
      go false q = inl (rw q)

  pub within_none : (k : ℕ) {left : ℕ} → left ≡ 0 → false ≡ within left N k
  unfolding within
  within_none k z = rw z refl

  -- those from i on of the nodes that node k names
  abbrev pub Rest : ℕ → ℕ → ℕ → ℕ → ℕ → Type 0
  Rest left k first count i = within left N k ≡ each (λ j. within (left - 1) N j) (first + i) (count - i)

  pub rest_all : (k left : ℕ) {n : Node} {count first : ℕ} → (left ≡ 0 → ⊥) → IsNode N k n → count ≡ count_named n → first ≡ first_named n → Rest left k first count 0
  unfolding within
  rest_all k left {n} {count} {first} z i c f =
      let e : left ≡ suc (left - 1) = omega (arith, z) in
      let d : count - 0 ≡ count = omega arith in
      rw (add-zero first, d) (go (left - 1) e)
    where
      go : (g : ℕ) → left ≡ suc g → within left N k ≡ each (λ j. within (left - 1) N j) first count
      go g e = let h : left - 1 ≡ g = omega arith in rw (h, e) (each_named N k i c f (λ j. within g N j))

  module _ (left k first count i : ℕ) (h : Rest left k first count i) where
    step : i < count → within left N k ≡ within (left - 1) N (first + i) && each (λ j. within (left - 1) N j) (suc (first + i)) (count - (i + 1))
    unfolding each
    step l = let e : count - i ≡ suc (count - (i + 1)) = omega arith in rw e at h

    pub rest_fails : i < count → {t : Bool} → t ≡ within (left - 1) N (first + i) → t ≡ false → false ≡ within left N k
    rest_fails l e z = sym (step l ∙ rw (← e, z))

    pub rest-next : i < count → {t : Bool} → t ≡ within (left - 1) N (first + i) → t ≡ true → Rest left k first count (i + 1)
    rest-next l e z = let q : first + (i + 1) ≡ suc (first + i) = omega arith in rw q (step l ∙ rw (← e, z))

    pub rest-done : count ≤ i → true ≡ within left N k
    unfolding each
    rest-done l = let e : count - i ≡ 0 = omega arith in sym (h ∙ rw e)

---------------------------------------------------------------- the first refusal

module _ (N : List ℕ) where
  pub no_kinds : {t : Bool} → t ≡ kinds_fit N → t ≡ false → 17 ≡ refusal_of N
  unfolding refusal_of
  no_kinds e z = rw (← e, z)

  pub no_links : {t u : Bool} → t ≡ kinds_fit N → t ≡ true → u ≡ links_fit N → u ≡ false → 15 ≡ refusal_of N
  unfolding refusal_of
  no_links e z f y = rw (← e, z, ← f, y)

  pub too_deep : {t u v : Bool} → t ≡ kinds_fit N → t ≡ true → u ≡ links_fit N → u ≡ true → v ≡ within 16 N 0 → v ≡ false → 16 ≡ refusal_of N
  unfolding refusal_of depth_fits
  too_deep e z f y g x = rw (← e, z, ← f, y, ← g, x)

  pub all-fits : {t u v : Bool} → t ≡ kinds_fit N → t ≡ true → u ≡ links_fit N → u ≡ true → v ≡ within 16 N 0 → v ≡ true → 0 ≡ refusal_of N
  unfolding refusal_of depth_fits
  all-fits e z f y g x = rw (← e, z, ← f, y, ← g, x)

-- the numbers of the nodes that are named fit a word
pub within_bound : (N : List ℕ) (k : ℕ) {n : Node} {count first : ℕ} (i : ℕ) → length N < 2 ^ 64 → links_fit N ≡ true → IsNode N k n → count ≡ count_named n → first ≡ first_named n → i < count → first + i < 2 ^ 64
within_bound N k {n} {count} {first} i b h m c f l = elim (named_in N k h) [ inl z ↦ absurd (omega (arith, its_count N k m c f)) | inr z ↦ omega (arith, its_count N k m c f, its_first N k m c f) ]
