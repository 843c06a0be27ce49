-- The index of an alternative, from the record in front.
use mathlib.Core.Path.{◌≡◌, refl, sym, ap, ◌∙◌}
use mathlib.Core.Bool.{Bool, true, false, cond, false≢true}
use mathlib.Core.List.{List}
use Prim.Native.Nat.{ℕ, suc, ◌+◌, ◌-◌, ◌^◌, ◌≤◌, ◌<◌}
use native.Mathlib.Omega.{arith}
use lib.Dec.{ltb}
use borrow.Author.Tests.{lt-ltb, le-ltb}
use Rattle.x691.specs.Encoding.{width}
use Rattle.x691.proofs.BitLaws.{length-bits_of}
use Rattle.x691.proofs.Widths.{unit-fits}
use Rattle.record_lists.specs.Items.{Item, plain}
use Rattle.record_lists.specs.Parse.{Got, no, got, begins, keep}
use Rattle.record_lists.proofs.Forth.{nothing}
use Rattle.pens.specs.Stand.{Stand}
use Rattle.pens.specs.Rest.{items}
use Rattle.pens.specs.Writes.{Inks}
use Rattle.pens.proofs.FrontLaws.{value, leaf_end, leaf_front, one-begins}
use Rattle.pens.proofs.GotLaws.{writes_none}
use Rattle.pens.proofs.PenLaws.{writes_still, writes_got}
use Rattle.write_leaves.specs.Index.{Indexed, index_of, Indexes}

module _ (b : ℕ → ℕ) (W : List ℕ) (m t e n : ℕ) where
  abbrev T : ℕ → List Item
  T j = items b W m j

  index_at : (i : ℕ) → i < m → index_of t e n (T i) ≡ keep (λ j. ltb j n) (cond (begins (plain t e (value W i) 0) (T i)) (got (value W i) (T (suc i))) no)
  unfolding index_of
  index_at i h = ap (λ (g : Got ℕ). keep (λ j. ltb j n) g) (leaf_front t e (λ v. v) (λ _. true) (λ v. v) b W m i refl ∙ one-begins b W m i (plain t e (value W i) 0) (value W i) h)

  index-end : (i : ℕ) → m ≤ i → index_of t e n (T i) ≡ no
  unfolding index_of keep
  index-end i h = ap (λ (g : Got ℕ). keep (λ j. ltb j n) g) (leaf_end t e (λ v. v) (λ _. true) (λ v. v) b W m i h)

  index-high : (i : ℕ) → i < m → n ≤ value W i → index_of t e n (T i) ≡ no
  unfolding keep
  index-high i h l = index_at i h ∙ go (begins (plain t e (value W i) 0) (T i))
    where
      go : (a : Bool) → keep (λ j. ltb j n) (cond a (got (value W i) (T (suc i))) no) ≡ no
      go true = rw (le-ltb (value W i) n l)
      go false = refl

  index_other : (i : ℕ) → i < m → begins (plain t e (value W i) 0) (T i) ≡ false → index_of t e n (T i) ≡ no
  unfolding keep
  index_other i h k = index_at i h ∙ rw k

  index_got : (i : ℕ) → i < m → value W i < n → begins (plain t e (value W i) 0) (T i) ≡ true → index_of t e n (T i) ≡ got (value W i) (T (suc i))
  unfolding keep
  index_got i h l k = index_at i h ∙ rw (k, lt-ltb (value W i) n l)

  module _ (p : Stand) (X : List ℕ) (q : Indexed) (Y : List ℕ) where
    pub indexes_still : p.off ≡ true → q.p.off ≡ true → q.v < n → Indexes t e n b W m p X q Y
    indexes_still h o v = record { writes = writes_still _ _ T m p X q.p Y h o; named = λ z l i S k. absurd (false≢true (sym z ∙ h)); below = v }

    none : p.off ≡ false → index_of t e n (T p.next) ≡ no → (q.p.off ≡ true) × (q.v ≡ 0) → 1 ≤ n → Indexes t e n b W m p X q Y
    none h k o s = record { writes = writes_none _ _ T m p X q.p Y k o.0; named = λ z l i S j. nothing (sym k ∙ j); below = omega (arith, o.1, s) }

    pub indexes_end : p.off ≡ false → m ≤ p.next → (q.p.off ≡ true) × (q.v ≡ 0) → 1 ≤ n → Indexes t e n b W m p X q Y
    indexes_end h l o s = none h (index-end p.next l) o s

    pub indexes_high : p.off ≡ false → p.next < m → n ≤ value W p.next → (q.p.off ≡ true) × (q.v ≡ 0) → 1 ≤ n → Indexes t e n b W m p X q Y
    indexes_high h l k o s = none h (index-high p.next l k) o s

    pub indexes_other : p.off ≡ false → p.next < m → begins (plain t e (value W p.next) 0) (T p.next) ≡ false → (q.p.off ≡ true) × (q.v ≡ 0) → 1 ≤ n → Indexes t e n b W m p X q Y
    indexes_other h l k o s = none h (index_other p.next l k) o s

    pub indexes_got : (r : Stand) → p.off ≡ false → p.next < m → value W p.next < n → begins (plain t e (value W p.next) 0) (T p.next) ≡ true
        → Inks p X (width (n - 1)) (value W p.next) r Y → q.v ≡ value W p.next → q.p.next ≡ p.next + 1 → q.p.at ≡ r.at → q.p.off ≡ false → Indexes t e n b W m p X q Y
    indexes_got r h l k g a v x y o =
        let j = index_got p.next l k g in
        let s : suc p.next ≡ q.p.next = omega (arith, x) in
        record {
          writes = writes_got _ _ T m p X q.p Y h j
              (record {
                on = o;
                left = ap (λ (c : ℕ). T c) s;
                fits = omega (arith, l, x);
                wrote = λ z.
                    let c = length-bits_of (width (n - 1)) (value W p.next) in
                    let d = a.puts (omega (arith, z)) in
                    (omega (arith, y, d.0, c), d.1);
              });
          named = λ _ _ i S c. let u : i ≡ value W p.next = sames (sym c ∙ j) in u ∙ sym v;
          below = omega (arith, v, k);
        }
      where
        sames : {i c : ℕ} {S U : List Item} → got i S ≡ got c U → i ≡ c
        sames e = cc

-- every index is held by its bits
pub index-fits : (n : ℕ) {v w : ℕ} → v < n → w ≡ width (n - 1) → v < 2 ^ w
index-fits n {v} {w} h e = rw e (unit-fits n v h)

pub inks_width : {p q : Stand} {X Y : List ℕ} {w v u : ℕ} → w ≡ u → Inks p X w v q Y → Inks p X u v q Y
inks_width e a = rw (← e) a
