-- A node by its numbers: which format it is, and what it keeps.
use mathlib.Core.Path.{◌≡◌, refl}
use mathlib.Core.Bool.{Bool, true, false, not, ◌&&◌}
use mathlib.Core.Logic.{◌⊎◌, inl, inr}
use mathlib.Core.List.{List, [], ◌∷◌}
use Prim.Native.Nat.{ℕ, zero, suc, ◌+◌, ◌-◌, ◌≤◌, ◌<◌}
use native.Mathlib.Omega.{arith}
use lib.Dec.{leb, ltb, eqb}
use borrow.Author.Tests.{leb-true, ltb-true, eqb-true, eqb-false}
use Rattle.atn.specs.Format.{Fmt, seq, loose, many, inner, Flds}
use Rattle.atn.specs.Messages.{no_reader}
use Rattle.atn.specs.Reading.{Ctx, flags}
use Rattle.atn.proofs.Inverse.{both}
use Rattle.record_lists.specs.Clear.{firsts}
use Rattle.record_lists.specs.Kinds.{span_tag}
use Rattle.record_lists.specs.Parse.{same_numbers, parse}
use Rattle.record_lists.specs.Most.{most}
use Rattle.node_tables.specs.declared.Node.{Node}
use Rattle.node_tables.specs.Nodes.{node_word, member_of, members_from, format_of, format_at}
use Rattle.node_tables.specs.Row.{IsNode}
use Rattle.node_tables.specs.Sure.{sure_member, sure_members, sure_each, sure_of, sure_at}
use Rattle.pens.specs.Stand.{Stand}
use Rattle.pens.specs.Writes.{limit, Part}
use Rattle.write_leaves.specs.Lent.{SureLeaf}
use Rattle.write_steps.specs.Steps.{Above}
use Rattle.write_steps.proofs.LeadLaws.{last_two}

case : (k n : ℕ) {A : Type 0} → (k ≡ n → A) → ((k ≡ n → ⊥) → A) → A
case k n {A} y o = go (eqb k n) refl
  where
    go : (b : Bool) → eqb k n ≡ b → A
    go true q = y (eqb-true k n q)
    go false q = o (eqb-false k n q)

module _ (N down up : List ℕ) where
  abbrev F : ℕ → ℕ → Fmt
  F g j = format_at g N down up j

  abbrev S : ℕ → ℕ → Bool
  S g j = sure_at g N down up j

  pub format_none : (d k : ℕ) → d ≡ 0 → format_at d N down up k ≡ no_reader
  unfolding format_at
  format_none d k h = rw h

  pub format_step : (d k : ℕ) (n : Node) → (d ≡ 0 → ⊥) → IsNode N k n → format_at d N down up k ≡ format_of (λ j. format_at (d - 1) N down up j) N down up n.kind n.a n.b n.c n.d n.e
  unfolding format_at
  format_step zero k n h r = absurd (h refl)
  format_step (suc g) k n h r = let e : suc g - 1 ≡ g = omega arith in rw (r, e)

  pub sure_step : (d k : ℕ) (n : Node) → (d ≡ 0 → ⊥) → IsNode N k n → sure_at d N down up k ≡ true → sure_of (λ j. format_at (d - 1) N down up j) (λ j. sure_at (d - 1) N down up j) N n.kind n.a n.b n.c n.d n.e ≡ true
  unfolding sure_at
  sure_step zero k n h r s = absurd (h refl)
  sure_step (suc g) k n h r s = let e : suc g - 1 ≡ g = omega arith in rw (r, e) s

  pub members_step : (G : ℕ → Fmt) (k c : ℕ) (n : Node) → (c ≡ 0 → ⊥) → IsNode N k n → members_from G N k c ≡ member_of G (members_from G N (k + 1) (c - 1)) n.kind n.a n.b n.c n.d
  unfolding members_from
  members_step G k zero n h r = absurd (h refl)
  members_step G k (suc c) n h r =
      let e : suc c - 1 ≡ c = omega arith in
      let f : k + 1 ≡ suc k = omega arith in
      rw (r, e, f)

  pub sure-members : (G : ℕ → Fmt) (H : ℕ → Bool) (k c : ℕ) (n : Node) → (c ≡ 0 → ⊥) → IsNode N k n → sure_members G H N k c ≡ true → (sure_member G H n.kind n.a n.b n.c n.d ≡ true) × (sure_members G H N (k + 1) (c - 1) ≡ true)
  unfolding sure_members
  sure-members G H k zero n h r s = absurd (h refl)
  sure-members G H k (suc c) n h r s =
      let e : suc c - 1 ≡ c = omega arith in
      let f : k + 1 ≡ suc k = omega arith in
      rw (r, e, f) (both (sure_member G H (node_word N k 0) (node_word N k 1) (node_word N k 2) (node_word N k 3) (node_word N k 4)) (sure_members G H N (suc k) c) s)

---------------------------------------------------------------- what a kind keeps

module _ (G : ℕ → Fmt) (H : ℕ → Bool) (N : List ℕ) (a b c d e : ℕ) where
  abbrev keeps : ℕ → Type 0
  keeps kind = sure_of G H N kind a b c d e ≡ true

  pub leaf_sure : (kind : ℕ) → kind < 8 → keeps kind → SureLeaf kind a b c d e
  unfolding sure_of
  leaf_sure zero l h = h
  leaf_sure (suc zero) l h = h
  leaf_sure (suc (suc zero)) l h = h
  leaf_sure (suc (suc (suc zero))) l h = h
  leaf_sure (suc (suc (suc (suc zero)))) l h = h
  leaf_sure (suc (suc (suc (suc (suc zero))))) l h = h
  leaf_sure (suc (suc (suc (suc (suc (suc zero)))))) l h = h
  leaf_sure (suc (suc (suc (suc (suc (suc (suc zero))))))) l h = h
  leaf_sure (suc (suc (suc (suc (suc (suc (suc (suc k)))))))) l h = absurd (omega arith)

  each-true : (k n : ℕ) → sure_each (λ _. true) k n ≡ true
  unfolding sure_each
  each-true k zero = refl
  each-true k (suc n) = each-true (suc k) n

  pub above_sure : (kind : ℕ) → Above kind → keeps kind → SureLeaf kind a b c d e
  unfolding sure_of
  above_sure k h s =
      case k 8 (λ q. rw q (let z : not (span_tag a) && H d ≡ true = rw q at s in rw (both (not (span_tag a)) (H d) z).0))
      λ n8. case k 9 (λ q. rw q (let z : not (span_tag a) && H b ≡ true = rw q at s in rw (both (not (span_tag a)) (H b) z).0))
      λ n9. case k 10 (λ q. rw q refl)
      λ n10. case k 11 (λ q. rw q refl)
      λ n11. case k 14
      (λ q. rw q
      (let z : (not (span_tag a) && ltb b 1000000) && ((leb 1 c && leb c 256) && sure_each H b c) ≡ true = rw q at s in
      let u = both (not (span_tag a) && ltb b 1000000) ((leb 1 c && leb c 256) && sure_each H b c) z in
      rw (u.0, (both (leb 1 c && leb c 256) (sure_each H b c) u.1).0) (each-true b c)))
      λ n14. case k 15
      (λ q. rw q
      (let z : (not (span_tag a) && ltb b 1000000) && sure_each H b 17 ≡ true = rw q at s in
      rw (both (not (span_tag a) && ltb b 1000000) (sure_each H b 17) z).0 (each-true b 17)))
      λ n15. last (last_two h n8 n9 n10 n11 n14 n15)
    where
      last : (k ≡ 18) ⊎ (k ≡ 19) → SureLeaf k a b c d e
      last (inl q) = rw q refl
      last (inr q) = rw q refl

  group : (kind : ℕ) → (((ltb a 1000000 && ltb b 1000) && eqb (flags (members_from G N a b)) c) && sure_members G H N a b) ≡ true → (a < 1000000) × (b < 1000) × (flags (members_from G N a b) ≡ c) × (sure_members G H N a b ≡ true)
  group kind z =
      let u = both ((ltb a 1000000 && ltb b 1000) && eqb (flags (members_from G N a b)) c) (sure_members G H N a b) z in
      let v = both (ltb a 1000000 && ltb b 1000) (eqb (flags (members_from G N a b)) c) u.0 in
      let w = both (ltb a 1000000) (ltb b 1000) v.0 in
      (ltb-true a 1000000 w.0, ltb-true b 1000 w.1, eqb-true (flags (members_from G N a b)) c v.1, u.1)

  pub seq_sure : (kind : ℕ) → kind ≡ 12 → keeps kind → (a < 1000000) × (b < 1000) × (flags (members_from G N a b) ≡ c) × (sure_members G H N a b ≡ true)
  unfolding sure_of
  seq_sure kind q s = group kind (rw q at s)

  pub loose_sure : (kind : ℕ) → kind ≡ 13 → keeps kind → (a < 1000000) × (b < 1000) × (flags (members_from G N a b) ≡ c) × (sure_members G H N a b ≡ true)
  unfolding sure_of
  loose_sure kind q s = group kind (rw q at s)

  pub many_sure : (kind : ℕ) → kind ≡ 16 → keeps kind → (a ≤ b) × (b < 1000) × (same_numbers (firsts (G c)) (d ∷ []) ≡ true) × (H c ≡ true)
  unfolding sure_of
  many_sure kind q s =
      let z : (leb a b && ltb b 1000) && (same_numbers (firsts (G c)) (d ∷ []) && H c) ≡ true = rw q at s in
      let u = both (leb a b && ltb b 1000) (same_numbers (firsts (G c)) (d ∷ []) && H c) z in
      let v = both (leb a b) (ltb b 1000) u.0 in
      let w = both (same_numbers (firsts (G c)) (d ∷ [])) (H c) u.1 in
      (leb-true a b v.0, ltb-true b 1000 v.1, w.0, w.1)

  pub inner_sure : (kind : ℕ) → kind ≡ 17 → keeps kind → (most (G a) ≤ limit) × (H a ≡ true)
  unfolding sure_of
  inner_sure kind q s =
      let z : leb (most (G a)) 4294967296 && H a ≡ true = rw q at s in
      let u = both (leb (most (G a)) 4294967296) (H a) z in
      (leb-true (most (G a)) 4294967296 u.0, u.1)

---------------------------------------------------------------- which format a kind is

-- twenty more
abbrev upward : ℕ → ℕ
upward j = suc (suc (suc (suc (suc (suc (suc (suc (suc (suc (suc (suc (suc (suc (suc (suc (suc (suc (suc (suc j)))))))))))))))))))

module _ (G : ℕ → Fmt) (N down up : List ℕ) (a b c d e : ℕ) (kind : ℕ) where
  pub seq_format : kind ≡ 12 → format_of G N down up kind a b c d e ≡ seq (members_from G N a b)
  unfolding format_of
  seq_format q = rw q

  pub loose_format : kind ≡ 13 → format_of G N down up kind a b c d e ≡ loose (members_from G N a b)
  unfolding format_of
  loose_format q = rw q

  pub many_format : kind ≡ 16 → format_of G N down up kind a b c d e ≡ many a b (G c)
  unfolding format_of
  many_format q = rw q

  pub inner_format : kind ≡ 17 → format_of G N down up kind a b c d e ≡ inner (G a)
  unfolding format_of
  inner_format q = rw q

  -- the others have no values
  pub hollow_part : (x : Ctx) (s : ℕ → ℕ) (W : List ℕ) (m : ℕ) (p : Stand) (X : List ℕ) (q : Stand) (Y : List ℕ) → 19 < kind → q.off ≡ true → Part (format_of G N down up kind a b c d e) x s W m p X q Y
  unfolding format_of parse
  hollow_part x s W m p X q Y l h = let i : kind ≡ upward (kind - 20) = omega arith in rw i (go (kind - 20))
    where
      go : (j : ℕ) → Part (format_of G N down up (upward j) a b c d e) x s W m p X q Y
      go zero = record { still = λ _. h; goes = λ _ _. h }
      go (suc zero) = record { still = λ _. h; goes = λ _ _. h }
      go (suc (suc zero)) = record { still = λ _. h; goes = λ _ _. h }
      go (suc (suc (suc zero))) = record { still = λ _. h; goes = λ _ _. h }
      go (suc (suc (suc (suc zero)))) = record { still = λ _. h; goes = λ _ _. h }
      go (suc (suc (suc (suc (suc j))))) = record { still = λ _. h; goes = λ _ _. h }

pub loose_as_seq : (fs : Flds) (x : Ctx) (s : ℕ → ℕ) (W : List ℕ) (m : ℕ) (p : Stand) (X : List ℕ) (q : Stand) (Y : List ℕ) → Part (seq fs) x s W m p X q Y → Part (loose fs) x s W m p X q Y
unfolding parse
loose_as_seq fs x s W m p X q Y h = h

pub above : {k : ℕ} → 8 ≤ k → k ≤ 19 → (k ≡ 12 → ⊥) → (k ≡ 13 → ⊥) → (k ≡ 16 → ⊥) → (k ≡ 17 → ⊥) → Above k
above a b c d e f = record { from_8 = a; to_19 = b; not_12 = c; not_13 = d; not_16 = e; not_17 = f }

-- no more presence bits than members
member-flags : (G : ℕ → Fmt) (fs : Flds) (kind a b c d : ℕ) → flags (member_of G fs kind a b c d) ≤ suc (flags fs)
unfolding member_of flags
member-flags G fs zero a b c d = omega arith
member-flags G fs (suc zero) a b c d = omega arith
member-flags G fs (suc (suc zero)) a b c d = omega arith
member-flags G fs (suc (suc (suc zero))) a b c d = omega arith
member-flags G fs (suc (suc (suc (suc zero)))) a b c d = omega arith
member-flags G fs (suc (suc (suc (suc (suc k))))) a b c d = omega arith

pub few-flags : (G : ℕ → Fmt) (N : List ℕ) (k n : ℕ) → flags (members_from G N k n) ≤ n
unfolding members_from flags
few-flags G N k zero = omega arith
few-flags G N k (suc n) = omega (arith, member-flags G (members_from G N (suc k) n) (node_word N k 0) (node_word N k 1) (node_word N k 2) (node_word N k 3) (node_word N k 4), few-flags G N (suc k) n)
