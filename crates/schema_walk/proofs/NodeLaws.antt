-- Which format a node is, and what a table that is in order keeps.
use mathlib.Core.Path.{◌≡◌, refl, sym, ◌∙◌}
use mathlib.Core.Bool.{Bool, true, false}
use mathlib.Core.Logic.{◌⊎◌, inl, inr}
use mathlib.Core.List.{List}
use Prim.Native.Nat.{ℕ, suc, ◌+◌, ◌-◌, ◌/◌, ◌%◌, ◌^◌, ◌≤◌, ◌<◌}
use native.Mathlib.Omega.{arith}
use lib.ListN.{length}
use lib.Dec.{leb, ltb, eqb}
use borrow.Author.Tests.{eqb-true, eqb-false, leb-true, ltb-true}
use Rattle.x691.specs.Bits.{bit_of}
use Rattle.atn.specs.Format.{Fmt, seq, choice, ext, noted}
use Rattle.atn.specs.Alternatives.{alternatives_from}
use Rattle.atn.specs.Reading.{mark, read}
use Rattle.atn.specs.Messages.{no_reader, unlisted, extended}
use Rattle.atn.proofs.Inverse.{both}
use Rattle.schema_tables.specs.Nodes.{nodes, node_word, members_from, format_of, format_at}
use Rattle.schema_tables.specs.Tests.{below, raised, range_fits, kind_fits, node_fits, kinds_fit, first_at, count_at}
use Rattle.schema_nodes.specs.declared.node.Leaf.{Leaf}
use Rattle.schema_nodes.specs.declared.node.Node.{Node}
use Rattle.schema_nodes.specs.declared.node.Node.TheVariants.{Leaf as leaf, Sequence, Choice, Optional, Unread, NoReader, Unlisted, Extension, Headed, Other, Unknown}
use Rattle.schema_nodes.specs.Names.{first_named, count_named, fits}
use Rattle.schema_nodes.specs.Row.{IsNode}
use Rattle.schema_nodes.proofs.TestLaws.{below_at, named_in, above, its_fit, count_is, first_is}
use Rattle.schema_leaves.specs.declared.Step.{Step}
use Rattle.schema_leaves.specs.Came.{Came}
use Rattle.schema_parts.specs.Owed.{leaf_format, Refuses}
use Rattle.schema_parts.proofs.LeafLaws.{leaf_is}
use Rattle.schema_walk.specs.Ready.{Ready}

---------------------------------------------------------------- the format of a node

abbrev Part : Fmt → List ℕ → Step → List ℕ → Step → List ℕ → Type 0
Part f s a w z w' = Came (read f (0, 0) (bit_of s) a.c.end a.c.at) a w z w'

format_step : (N : List ℕ) (left k : ℕ) → (left ≡ 0 → ⊥) → format_at left N k ≡ format_of (λ j. format_at (left - 1) N j) N k (node_word N k 0) (node_word N k 1) (node_word N k 2) (node_word N k 3)
unfolding format_at
format_step N left k h = let e : left ≡ suc (left - 1) = omega (arith, h) in go (left - 1) e
  where
    go : (g : ℕ) → left ≡ suc g → format_at left N k ≡ format_of (λ j. format_at (left - 1) N j) N k (node_word N k 0) (node_word N k 1) (node_word N k 2) (node_word N k 3)
    go g e = let d : left - 1 ≡ g = omega arith in rw (d, e)

-- a member that may be absent, or is not read
abbrev pub Alone : Node → Type 0
Alone n = ((m : ℕ) × (n ≡ Optional m)) ⊎ ((t : ℕ) × (n ≡ Unread t))

alone_kind : (N : List ℕ) (k : ℕ) {n : Node} → IsNode N k n → Alone n → (node_word N k 0 ≡ 6) ⊎ (node_word N k 0 ≡ 7)
alone_kind N k i (inl h) = let j : IsNode N k (Optional h.0) = rw h.1 at i in inl j.words.0
alone_kind N k i (inr h) = let j : IsNode N k (Unread h.0) = rw h.1 at i in inr j.words.0

module _ (N : List ℕ) (left k : ℕ) (l : left ≡ 0 → ⊥) (s : List ℕ) {a z : Step} {w w' : List ℕ} where
  as_part : (f : Fmt) → format_of (λ j. format_at (left - 1) N j) N k (node_word N k 0) (node_word N k 1) (node_word N k 2) (node_word N k 3) ≡ f → Part f s a w z w' → Part (format_at left N k) s a w z w'
  as_part f e x = rw (format_step N left k l, e) x

  pub leaf_node : {t : Leaf} → IsNode N k (leaf t) → Part (leaf_format t) s a w z w' → Part (format_at left N k) s a w z w'
  leaf_node {t} i x = as_part (leaf_format t) (leaf_is (λ j. format_at (left - 1) N j) N k t i) x

  pub sequence-node : {first count : ℕ} → IsNode N k (Sequence first count) → Part (seq (members_from (λ j. format_at (left - 1) N j) N first count)) s a w z w' → Part (format_at left N k) s a w z w'
  unfolding format_of
  sequence-node {first} {count} i x = as_part (seq (members_from (λ j. format_at (left - 1) N j) N first count)) (rw (i.words.0, i.words.1, i.words.2)) x

  pub choice_node : {tag first count : ℕ} → IsNode N k (Choice tag first count) → Part (choice tag (alternatives_from (λ j. format_at (left - 1) N j) first count)) s a w z w' → Part (format_at left N k) s a w z w'
  unfolding format_of
  choice_node {tag} {first} {count} i x = as_part (choice tag (alternatives_from (λ j. format_at (left - 1) N j) first count)) (rw (i.words.0, i.words.1, i.words.2, i.words.3)) x

  -- a member that may be absent, by itself
  pub alone-node : {n : Node} → IsNode N k n → Alone n → Part (seq (members_from (λ j. format_at (left - 1) N j) N k 1)) s a w z w' → Part (format_at left N k) s a w z w'
  unfolding format_of
  alone-node {n} i h x = elim (alone_kind N k i h) [
    | inl e ↦ as_part (seq (members_from (λ j. format_at (left - 1) N j) N k 1)) (rw e) x
    | inr e ↦ as_part (seq (members_from (λ j. format_at (left - 1) N j) N k 1)) (rw e) x
  ]

  pub extension-node : {node tag : ℕ} → IsNode N k (Extension node tag) → Part (ext (format_at (left - 1) N node) (extended tag)) s a w z w' → Part (format_at left N k) s a w z w'
  unfolding format_of
  extension-node {node} {tag} i x = as_part (ext (format_at (left - 1) N node) (extended tag)) (rw (i.words.0, i.words.1, i.words.2)) x

  pub headed-node : {tag node : ℕ} → IsNode N k (Headed tag node) → Part (noted tag 0 0 (format_at (left - 1) N node)) s a w z w' → Part (format_at left N k) s a w z w'
  unfolding format_of
  headed-node {tag} {node} i x = as_part (noted tag 0 0 (format_at (left - 1) N node)) (rw (i.words.0, i.words.1, i.words.2)) x

  pub same-node : {node : ℕ} → IsNode N k (Other node) → Part (format_at (left - 1) N node) s a w z w' → Part (format_at left N k) s a w z w'
  unfolding format_of
  same-node {node} i x = as_part (format_at (left - 1) N node) (rw (i.words.0, i.words.1)) x

-- what has no reader
module _ (N : List ℕ) (left k : ℕ) (l : left ≡ 0 → ⊥) (s : List ℕ) {a z : Step} (w : List ℕ) (h : a.c.at ≤ a.c.end) where
  pub unread-node : IsNode N k NoReader → Refuses 0 a z → Came (read (format_at left N k) (0, 0) (bit_of s) a.c.end a.c.at) a w z w
  unfolding format_of read
  unread-node i x = as_part N left k l s no_reader (rw i.words) (x.stops w h)

  pub unlisted-node : IsNode N k Unlisted → Refuses 1 a z → Came (read (format_at left N k) (0, 0) (bit_of s) a.c.end a.c.at) a w z w
  unfolding format_of read mark
  unlisted-node i x = as_part N left k l s unlisted (rw i.words) (x.stops w h)

  pub unknown_node : IsNode N k Unknown → Refuses 0 a z → Came (read (format_at left N k) (0, 0) (bit_of s) a.c.end a.c.at) a w z w
  unfolding format_of read
  unknown_node i x = as_part N left k l s no_reader (rw (above (node_word N k 0) i.words)) (x.stops w h)

pub too_deep : (N : List ℕ) (left k : ℕ) (s : List ℕ) {a z : Step} (w : List ℕ) → a.c.at ≤ a.c.end → left ≡ 0 → Refuses 0 a z → Came (read (format_at left N k) (0, 0) (bit_of s) a.c.end a.c.at) a w z w
unfolding format_at read
too_deep N left k s w h e x = rw e (x.stops w h)

---------------------------------------------------------------- what a table in order keeps

none-fits : kind_fits 0 0 0 ≡ true
unfolding kind_fits range_fits raised
none-fits = refl

module _ (N : List ℕ) (r : Ready N) (b : length N < 2 ^ 64) (k : ℕ) where
  pub its_fits : {n : Node} → IsNode N k n → fits n ≡ true
  unfolding kinds_fit node_fits nodes node_word
  its_fits {n} i = sym (its_fit N k n i) ∙ go (ltb k (length N / 4)) refl
    where
      go : (t : Bool) → ltb k (length N / 4) ≡ t → node_fits N k ≡ true
      go true q = below_at (λ j. node_fits N j) k (length N / 4) (both (eqb (length N % 4) 0) (below (λ j. node_fits N j) (length N / 4)) r.kinds).1 (ltb-true k (length N / 4) q)
      go false q = rw q none-fits

  named : {n : Node} → IsNode N k n → (count_named n ≡ 0) ⊎ (first_named n + count_named n < 2 ^ 64)
  named {n} i = go (eqb (count_named n) 0) refl (named_in N k r.links)
    where
      go : (t : Bool) → eqb (count_named n) 0 ≡ t → (count_at N k ≡ 0) ⊎ (first_at N k + count_at N k ≤ length N / 4) → (count_named n ≡ 0) ⊎ (first_named n + count_named n < 2 ^ 64)
      go true e z = inl (eqb-true (count_named n) 0 e)
      go false e (inl z) = inl (sym (count_is N k n i) ∙ z)
      go false e (inr z) = inr (omega (arith, z, count_is N k n i, first_is N k n i (eqb-false (count_named n) 0 e)))

  pub sequence-nodes : {first count : ℕ} → IsNode N k (Sequence first count) → first < 2 ^ 64 → first + count < 2 ^ 64
  sequence-nodes i l = elim (named i) [ inl z ↦ omega (arith, z) | inr z ↦ z ]

  pub choice_nodes : {tag first count : ℕ} → IsNode N k (Choice tag first count) → first < 2 ^ 64 → (first + count < 2 ^ 64) × (1 ≤ count)
  choice_nodes {tag} {first} {count} i l =
      let c : leb 1 count ≡ true = its_fits i in
      (elim (named i) [ inl z ↦ omega (arith, z) | inr z ↦ z ], leb-true 1 count c)

  -- such a node stands in the table
  pub alone-nodes : {n : Node} → IsNode N k n → Alone n → k + 1 < 2 ^ 64
  unfolding nodes node_word
  alone-nodes i h = go (ltb k (length N / 4)) refl
    where
      go : (t : Bool) → ltb k (length N / 4) ≡ t → k + 1 < 2 ^ 64
      go true q = omega (arith, ltb-true k (length N / 4) q)
      go false q = absurd (let z : node_word N k 0 ≡ 0 = rw q in elim (alone_kind N k i h) [ inl e ↦ omega (arith, e, z) | inr e ↦ omega (arith, e, z) ])
