-- The depth of 16 decides nothing: of a table that is not refused, every greater depth gives the same meaning.
use mathlib.Core.Path.{◌≡◌, refl, ap, ◌∙◌}
use mathlib.Core.Bool.{Bool, true, false, cond, ◌&&◌}
use mathlib.Core.List.{List}
use Prim.Native.Nat.{ℕ, zero, suc, ◌+◌}
use native.Mathlib.Nat.{suc-add}
use native.Mathlib.Omega.{arith}
use lib.Dec.{eqb}
use borrow.Author.Tests.{eqb-true}
use Rattle.atn.specs.Format.{Fmt, Flds, seq, choice, ◌⨾◌, ◌⨾?◌, unread}
use Rattle.atn.specs.Alternatives.{alternatives_from}
use Rattle.atn.specs.Demands.{passes}
use Rattle.atn.proofs.Inverse.{both}
use Rattle.schema_tables.specs.Nodes.{node_word, member_of, members_from, format_of, format_at, meaning}
use Rattle.schema_tables.specs.Tests.{each, kinds_fit, links_fit, first_of, count_of, first_at, count_at, within, depth_fits}
use Rattle.schema_tables.specs.Entry.{Kept}

never : {A : Type 0} → false ≡ true → A
never p = let z : ◌≡◌ {A = ℕ} 0 1 = cc in absurd (omega arith)

each_more : (P Q : ℕ → Bool) → ((j : ℕ) → P j ≡ true → Q j ≡ true) → (k n : ℕ) → each P k n ≡ true → each Q k n ≡ true
unfolding each
each_more P Q h k zero e = refl
each_more P Q h k (suc n) e = let x = both (P k) (each P (suc k) n) e in rw (h k x.0, each_more P Q h (suc k) n x.1)

module _ (N : List ℕ) where
  -- no deeper than g is no deeper than g + 1
  within_more : (g k : ℕ) → within g N k ≡ true → within (suc g) N k ≡ true
  unfolding within
  within_more zero k h = never h
  within_more (suc g) k h = each_more (λ j. within g N j) (λ j. within (suc g) N j) (λ j. within_more g j) (first_at N k) (count_at N k) h

  -- what an optional member names is less deep than it
  within-named : (g k : ℕ) → node_word N k 0 ≡ 6 → within g N k ≡ true → within g N (node_word N k 1) ≡ true
  unfolding within each first_at count_at first_of count_of
  within-named zero k e h = never h
  within-named (suc g) k e h = let x : within g N (node_word N k 1) && true ≡ true = rw e at h in within_more g (node_word N k 1) (both (within g N (node_word N k 1)) true x).0

  module _ (g : ℕ) (F G : ℕ → Fmt) (same : (j : ℕ) → within g N j ≡ true → F j ≡ G j) where
    member-same : (fs : Flds) (k : ℕ) → within g N k ≡ true → member_of F fs (node_word N k 0) k (node_word N k 1) ≡ member_of G fs (node_word N k 0) k (node_word N k 1)
    unfolding member_of
    member-same fs k h = go (eqb (node_word N k 0) 6) refl
      where
        go : (t : Bool) → eqb (node_word N k 0) 6 ≡ t
            → cond t (F (node_word N k 1) ⨾? fs) (cond (eqb (node_word N k 0) 7) (unread (node_word N k 1) fs) (F k ⨾ fs)) ≡ cond t (G (node_word N k 1) ⨾? fs) (cond (eqb (node_word N k 0) 7) (unread (node_word N k 1) fs) (G k ⨾ fs))
        go true e = rw (same (node_word N k 1) (within-named g k (eqb-true (node_word N k 0) 6 e) h))
        go false e = rw (same k h)

    members_same : (k n : ℕ) → each (λ j. within g N j) k n ≡ true → members_from F N k n ≡ members_from G N k n
    unfolding members_from each
    members_same k zero h = refl
    members_same k (suc n) h =
        let x = both (within g N k) (each (λ j. within g N j) (suc k) n) h in
        member-same (members_from F N (suc k) n) k x.0 ∙ ap (λ fs. member_of G fs (node_word N k 0) k (node_word N k 1)) (members_same (suc k) n x.1)

    alternatives-same : (k n : ℕ) → each (λ j. within g N j) k n ≡ true → alternatives_from F k n ≡ alternatives_from G k n
    unfolding alternatives_from each
    alternatives-same k zero h = refl
    alternatives-same k (suc n) h = let x = both (within g N k) (each (λ j. within g N j) (suc k) n) h in rw (same k x.0, alternatives-same (suc k) n x.1)

    one : (k : ℕ) → within g N k && true ≡ true → F k ≡ G k
    one k h = same k (both (within g N k) true h).0

    format_same : (k kind : ℕ) → node_word N k 0 ≡ kind → each (λ j. within g N j) (first_of kind (node_word N k 1) (node_word N k 2)) (count_of kind (node_word N k 2) (node_word N k 3)) ≡ true
        → format_of F N k kind (node_word N k 1) (node_word N k 2) (node_word N k 3) ≡ format_of G N k kind (node_word N k 1) (node_word N k 2) (node_word N k 3)
    unfolding format_of first_of count_of each members_from member_of
    format_same k zero q h = refl
    format_same k (suc zero) q h = refl
    format_same k (suc (suc zero)) q h = refl
    format_same k (suc (suc (suc zero))) q h = refl
    format_same k (suc (suc (suc (suc zero)))) q h = ap seq (members_same (node_word N k 1) (node_word N k 2) h)
    format_same k (suc (suc (suc (suc (suc zero))))) q h = ap (choice (node_word N k 1)) (alternatives-same (node_word N k 2) (node_word N k 3) h)
    format_same k (suc (suc (suc (suc (suc (suc zero)))))) q h = rw (q, one (node_word N k 1) h)
    format_same k (suc (suc (suc (suc (suc (suc (suc zero))))))) q h = rw q refl
    format_same k (suc (suc (suc (suc (suc (suc (suc (suc zero)))))))) q h = refl
    format_same k (suc (suc (suc (suc (suc (suc (suc (suc (suc zero))))))))) q h = refl
    format_same k (suc (suc (suc (suc (suc (suc (suc (suc (suc (suc zero)))))))))) q h = rw (one (node_word N k 1) h)
    format_same k (suc (suc (suc (suc (suc (suc (suc (suc (suc (suc (suc zero))))))))))) q h = rw (one (node_word N k 2) h)
    format_same k (suc (suc (suc (suc (suc (suc (suc (suc (suc (suc (suc (suc zero)))))))))))) q h = one (node_word N k 1) h
    format_same k (suc (suc (suc (suc (suc (suc (suc (suc (suc (suc (suc (suc (suc j))))))))))))) q h = refl

  -- to the depth of a node, or to any greater one
  pub deeper : (g d k : ℕ) → within g N k ≡ true → format_at (g + d) N k ≡ format_at g N k
  unfolding format_at within first_at count_at
  deeper zero d k h = never h
  deeper (suc g) d k h =
      rw (suc-add g d)
      (format_same g (λ j. format_at (g + d) N j) (λ j. format_at g N j) (λ j. deeper g d j) k (node_word N k 0) refl h)

-- a table that is not refused
pub depth_decides_nothing : (N : List ℕ) → Kept N → (d : ℕ) → format_at (16 + d) N 0 ≡ meaning N
unfolding meaning passes depth_fits
depth_decides_nothing N h d =
    let x = both (kinds_fit N) (links_fit N && (within 16 N 0 && true)) h in
    let y = both (links_fit N) (within 16 N 0 && true) x.1 in
    deeper N 16 d 0 (both (within 16 N 0) true y.1).0
