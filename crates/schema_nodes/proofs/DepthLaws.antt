-- The depths of a table, kept from its last node on.
use Rattle.std.proofs.Common.{◌≡◌, ℕ, zero, suc, ◌+◌, ◌-◌, ◌/◌, ◌<◌, ◌≤◌, Bool, true, false, ◌&&◌, ◌||◌, eqb, ltb, leb, ◌⊎◌, max, min, List, length, get_or, set, sym, refl, ap, ◌∙◌, inl, inr, add-zero, arith, get_or-set_other, get_or-set_same, ltb-true, eqb-true, le-leb, leb-false, leb-true}
use Rattle.std.proofs.Math.Nat.{le-max_left, le-max_right, min-le_left, min-le_right, max-le, le-min}
use Rattle.std.proofs.lemmas.Bool.{eqb-false}
use borrow.Author.Tests.{lt-leb}
use Rattle.atn.proofs.Inverse.{both}
use Rattle.schema_tables.specs.Nodes.{nodes}
use Rattle.schema_tables.specs.Tests.{below, each, first_at, count_at, link_fits, links_fit, within}
use Rattle.schema_nodes.specs.declared.node.Node.{Node}
use Rattle.schema_nodes.specs.Names.{first_named, count_named}
use Rattle.schema_nodes.specs.Row.{IsNode}
use Rattle.schema_nodes.specs.Depths.{Deepest}
use Rattle.schema_nodes.proofs.TestLaws.{below_at, its_count, its_first, each_named}

---------------------------------------------------------------- the greatest of some depths

-- one more behind them
each_last : (P : ℕ → Bool) (k n : ℕ) → each P k (n + 1) ≡ each P k n && P (k + n)
unfolding each
each_last P k zero = rw (add-zero k) (last (P k))
  where
    last : (t : Bool) → t && true ≡ t
    last true = refl
    last false = refl
each_last P k (suc n) =
    let e : suc n + 1 ≡ suc (n + 1) = omega arith in
    let f : k + suc n ≡ suc k + n = omega arith in
    rw (e, f) (ap (λ t. P k && t) (each_last P (suc k) n) ∙ regroup (P k) (each P (suc k) n) (P (suc k + n)))
  where
    regroup : (a b c : Bool) → a && (b && c) ≡ (a && b) && c
    regroup true b c = refl
    regroup false b c = refl

-- a number is at most g where both are
most : (d e g : ℕ) → leb (max d e) g ≡ leb d g && leb e g
most d e g = go (leb d g) (leb e g) refl refl
  where
    go : (t u : Bool) → leb d g ≡ t → leb e g ≡ u → leb (max d e) g ≡ t && u
    go true true p q = le-leb (max d e) g (max-le (leb-true d g p) (leb-true e g q))
    go true false p q = lt-leb (max d e) g (omega (arith, leb-false e g q, le-max_right d e))
    go false true p q = lt-leb (max d e) g (omega (arith, leb-false d g p, le-max_left d e))
    go false false p q = lt-leb (max d e) g (omega (arith, leb-false d g p, le-max_left d e))

-- above g what is cut at 17 stays above it
least : (d g : ℕ) → g ≤ 16 → leb (min d 17) g ≡ leb d g
least d g b = go (leb d g) refl
  where
    go : (t : Bool) → leb d g ≡ t → leb (min d 17) g ≡ t
    go true q = le-leb (min d 17) g (omega (arith, leb-true d g q, min-le_left d 17))
    go false q = lt-leb (min d 17) g (le-min (leb-false d g q) (omega arith))

module _ (D : List ℕ) (first : ℕ) where
  -- d is the greatest of the first i
  pub record Upto (d i : ℕ) : Type 0 where
    pub all : (g : ℕ) → leb d g ≡ each (λ j. leb (get_or D j 0) g) first i

  pub upto_none : Upto 0 0
  unfolding each
  upto_none = record { all = λ g. le-leb 0 g (omega arith) }

  pub upto_more : {d i r : ℕ} → r ≡ max d (get_or D (first + i) 0) → Upto d i → Upto r (i + 1)
  upto_more {d} {i} {r} e u = record { all = λ g. rw e (most d (get_or D (first + i) 0) g ∙ ap (λ t. t && leb (get_or D (first + i) 0) g) (u.all g) ∙ sym (each_last (λ j. leb (get_or D j 0) g) first i)) }

  pub upto_all : {d r : ℕ} (count : ℕ) → r ≡ min d 17 → Upto d count → Deepest D first count r
  upto_all {d} {r} count e u = record { small = omega (arith, e, min-le_right d 17); all = λ g b. rw e (least d g b ∙ u.all g) }

pub in_depths : (D : List ℕ) (first count i : ℕ) → (count ≡ 0) ⊎ (first + count ≤ length D) → i < count → first + i < length D
in_depths D first count i (inl z) l = absurd (omega arith)
in_depths D first count i (inr z) l = omega arith

---------------------------------------------------------------- the depths of the nodes from k on

empty : (P Q : ℕ → Bool) (k n : ℕ) → n ≡ 0 → each P k n ≡ each Q k n
unfolding each
empty P Q k n e = rw e refl

-- the depths of the nodes from k on are kept in D
pub record Kept (N D : List ℕ) (k : ℕ) : Type 0 where
  pub depth : (j g : ℕ) → k ≤ j → j < length N / 4 → g ≤ 16 → within g N j ≡ leb (get_or D j 0) g

module _ (N : List ℕ) (fits : links_fit N ≡ true) where
  -- what a node names stands behind it
  pub named-behind : (k : ℕ) → k < length N / 4 → (count_at N k ≡ 0) ⊎ ((k < first_at N k) × (first_at N k + count_at N k ≤ length N / 4))
  unfolding links_fit link_fits nodes
  named-behind k l =
      link (eqb (count_at N k) 0) (ltb k (first_at N k)) (leb (first_at N k + count_at N k) (length N / 4)) (below_at (λ j. link_fits N j) k (length N / 4) (both (leb 1 (length N / 4)) (below (λ j. link_fits N j) (length N / 4)) fits).1 l) refl refl refl
    where
      link : (z a b : Bool) → z || (a && b) ≡ true → eqb (count_at N k) 0 ≡ z → ltb k (first_at N k) ≡ a → leb (first_at N k + count_at N k) (length N / 4) ≡ b → (count_at N k ≡ 0) ⊎ ((k < first_at N k) × (first_at N k + count_at N k ≤ length N / 4))
      link true a b q x y w = inl (eqb-true (count_at N k) 0 x)
      link false true true q x y w = inr (ltb-true k (first_at N k) y, leb-true (first_at N k + count_at N k) (length N / 4) w)
      link false true false q x y w = absurd (let z : ◌≡◌ {A = ℕ} 0 1 = cc in omega arith)
      link false false b q x y w = absurd (let z : ◌≡◌ {A = ℕ} 0 1 = cc in omega arith)

  pub named_behind : (k : ℕ) → k < length N / 4 → {n : Node} {count first : ℕ} → IsNode N k n → count ≡ count_named n → first ≡ first_named n → (count ≡ 0) ⊎ ((k < first) × (first + count ≤ length N / 4))
  named_behind k l {n} {count} {first} i c f = go (eqb count 0) refl (named-behind k l)
    where
      go : (t : Bool) → eqb count 0 ≡ t → (count_at N k ≡ 0) ⊎ ((k < first_at N k) × (first_at N k + count_at N k ≤ length N / 4)) → (count ≡ 0) ⊎ ((k < first) × (first + count ≤ length N / 4))
      go true e z = inl (eqb-true count 0 e)
      go false e (inl z) = inl (sym (its_count N k i c f) ∙ z)
      go false e (inr z) = let p = its_first N k i c f (eqb-false count 0 e) in let q = its_count N k i c f in inr (omega (arith, z.0, p), omega (arith, z.1, p, q))

  pub some-node : 1 ≤ length N / 4
  unfolding links_fit nodes
  some-node = leb-true 1 (length N / 4) (both (leb 1 (length N / 4)) (below (λ j. link_fits N j) (length N / 4)) fits).0

  pub kept-none : (D : List ℕ) {k : ℕ} → k ≡ length N / 4 → Kept N D k
  kept-none D e = record { depth = λ j g l m b. absurd (omega arith) }

  each_as : (P Q : ℕ → Bool) (lo hi : ℕ) → ((j : ℕ) → lo ≤ j → j < hi → P j ≡ Q j) → (k n : ℕ) → lo ≤ k → k + n ≤ hi → each P k n ≡ each Q k n
  unfolding each
  each_as P Q lo hi h k zero l m = refl
  each_as P Q lo hi h k (suc n) l m = rw (h k l (omega arith), each_as P Q lo hi h (suc k) n (omega arith) (omega arith))

  module _ {D : List ℕ} {k : ℕ} (l : k < length N / 4) (u : Kept N D (suc k)) {n : Node} {count first d : ℕ} (i : IsNode N k n) (c : count ≡ count_named n) (f : first ≡ first_named n) (x : Deepest D first count d) where
    own : (g : ℕ) → g ≤ 16 → within g N k ≡ leb (1 + d) g
    unfolding within
    own zero b = sym (lt-leb (1 + d) 0 (omega arith))
    own (suc g) b =
        each_named N k i c f (λ j. within g N j)
        ∙ (elim (named_behind k l i c f) [
          | inl z ↦ empty (λ j. within g N j) (λ j. leb (get_or D j 0) g) first count z
          | inr z ↦ each_as (λ j. within g N j) (λ j. leb (get_or D j 0) g) (suc k) (length N / 4) (λ j p q. u.depth j g p q (omega arith)) first count (omega (arith, z.0)) z.1
        ] ∙ sym (x.all g (omega arith)) ∙ up (leb d g) refl)
      where
        up : (t : Bool) → leb d g ≡ t → leb d g ≡ leb (1 + d) (suc g)
        up true q = q ∙ sym (le-leb (1 + d) (suc g) (omega (arith, leb-true d g q)))
        up false q = q ∙ sym (lt-leb (1 + d) (suc g) (omega (arith, leb-false d g q)))

    pub kept_more : k < length D → Kept N (set D k (1 + d)) k
    kept_more m = record { depth = λ j g p q b. go j g q b (leb j k) refl p }
      where
        go : (j g : ℕ) → j < length N / 4 → g ≤ 16 → (t : Bool) → leb j k ≡ t → k ≤ j → within g N j ≡ leb (get_or (set D k (1 + d)) j 0) g
        go j g q b true e p = let z : j ≡ k = omega (arith, leb-true j k e) in rw (z, get_or-set_same D k (1 + d) 0 m) (own g b)
        go j g q b false e p = let o = leb-false j k e in rw (get_or-set_other D k j (1 + d) 0 (λ y. omega arith)) (u.depth j g (omega arith) q b)

  pub kept-all : {D : List ℕ} {k : ℕ} → k ≡ 0 → Kept N D k → leb (get_or D 0 0) 16 ≡ within 16 N 0
  kept-all {k = k} e u = sym (u.depth 0 16 (omega arith) (omega (arith, some-node)) (omega arith))

  -- the depths of what a node names are kept
  pub named-kept : (D : List ℕ) (k : ℕ) {n : Node} {count first : ℕ} → k < length N / 4 → length N / 4 ≤ length D → IsNode N k n → count ≡ count_named n → first ≡ first_named n → (count ≡ 0) ⊎ (first + count ≤ length D)
  named-kept D k l b i c f = elim (named_behind k l i c f) [ inl z ↦ inl z | inr z ↦ inr (omega (arith, z.1)) ]

  pub kept_step : {D : List ℕ} {k : ℕ} {n : Node} {count first d : ℕ} → 0 < k → k ≤ length N / 4 → Kept N D k → IsNode N (k - 1) n → count ≡ count_named n → first ≡ first_named n → Deepest D first count d → k - 1 < length D → Kept N (set D (k - 1) (1 + d)) (k - 1)
  kept_step {D} {k} z l u i c f x m = let e : k ≡ suc (k - 1) = omega arith in kept_more {k = k - 1} (omega arith) (rw (← e) u) i c f x m
