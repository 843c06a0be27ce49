-- A leaf by its kind.
use mathlib.Core.Path.{◌≡◌, refl}
use mathlib.Core.Bool.{true, false, not, ◌&&◌}
use mathlib.Core.List.{List, [], ◌∷◌}
use Prim.Native.Nat.{ℕ, ◌+◌, ◌≤◌, ◌<◌}
use native.Mathlib.Omega.{arith}
use lib.Dec.{leb, ltb}
use borrow.Author.Tests.{leb-true, ltb-true, not-true}
use Rattle.x691.specs.Encoding.{encode}
use Rattle.atn.specs.Format.{Fmt, num, name, listed, text, span, any_span, null}
use Rattle.atn.specs.Messages.{no_reader}
use Rattle.atn.specs.Reading.{Ctx}
use Rattle.atn.proofs.Inverse.{both}
use Rattle.bit_writer.specs.Put.{set_bits}
use Rattle.record_lists.specs.Kinds.{span_tag}
use Rattle.record_lists.specs.Parse.{parse}
use Rattle.node_tables.specs.Nodes.{letters_by, format_of}
use Rattle.node_tables.specs.Sure.{sure_of, sure_letters, sure_unit, sure_size}
use Rattle.pens.specs.Stand.{Stand}
use Rattle.pens.specs.Writes.{Part}
use Rattle.write_leaves.specs.Lent.{SureLeaf}

---------------------------------------------------------------- what a leaf keeps

unit_of : (w : ℕ) → sure_unit w ≡ true → (1 ≤ w) × (w ≤ 64)
unfolding sure_unit
unit_of w h = let c = both (leb 1 w) (leb w 64) h in (leb-true 1 w c.0, leb-true w 64 c.1)

module _ (a b c d e : ℕ) {kind : ℕ} where
  pub sure_number : kind ≡ 1 → SureLeaf kind a b c d e → span_tag a ≡ false
  unfolding sure_of
  sure_number k h = not-true (span_tag a) (rw k at h)

  pub sure_name : kind ≡ 2 → SureLeaf kind a b c d e → span_tag a ≡ false
  unfolding sure_of
  sure_name k h = not-true (span_tag a) (rw k at h)

  pub sure_reason : kind ≡ 3 → SureLeaf kind a b c d e → span_tag a ≡ false
  unfolding sure_of
  sure_reason k h = not-true (span_tag a) (rw k at h)

  pub sure-text : kind ≡ 4 → SureLeaf kind a b c d e → (span_tag a ≡ false) × (sure_letters b c d e ≡ true)
  unfolding sure_of
  sure-text k h =
      let f : not (span_tag a) && sure_letters b c d e ≡ true = rw k at h in
      let g = both (not (span_tag a)) (sure_letters b c d e) f in
      (not-true (span_tag a) g.0, g.1)

  pub sure_span : kind ≡ 5 → SureLeaf kind a b c d e → (span_tag a ≡ true) × (1 ≤ b) × (b ≤ 64) × (1 ≤ c) × (c ≤ d) × (d < 256)
  unfolding sure_of sure_size
  sure_span k h =
      let f : span_tag a && (sure_unit b && (leb 1 c && (leb c d && ltb d 256))) ≡ true = rw k at h in
      let g = both (span_tag a) (sure_unit b && (leb 1 c && (leb c d && ltb d 256))) f in
      let i = both (sure_unit b) (leb 1 c && (leb c d && ltb d 256)) g.1 in
      let u = unit_of b i.0 in
      let j = both (leb 1 c) (leb c d && ltb d 256) i.1 in
      let l = both (leb c d) (ltb d 256) j.1 in
      (g.0, u.0, u.1, leb-true 1 c j.0, leb-true c d l.0, ltb-true d 256 l.1)

  pub sure_any : kind ≡ 6 → SureLeaf kind a b c d e → (span_tag a ≡ true) × (1 ≤ b) × (b ≤ 64)
  unfolding sure_of
  sure_any k h =
      let f : span_tag a && sure_unit b ≡ true = rw k at h in
      let g = both (span_tag a) (sure_unit b) f in
      let u = unit_of b g.1 in
      (g.0, u.0, u.1)

---------------------------------------------------------------- what it is

-- a part of a format, by another name for it
pub part_as : (f g : Fmt) (x : Ctx) (s : ℕ → ℕ) (W : List ℕ) (m : ℕ) (p : Stand) (X : List ℕ) (q : Stand) (Y : List ℕ) → f ≡ g → Part g x s W m p X q Y → Part f x s W m p X q Y
part_as f g x s W m p X q Y e h = rw e h

module _ (F : ℕ → Fmt) (N down up : List ℕ) (a b c d e : ℕ) {kind : ℕ} where
  pub number_leaf : kind ≡ 1 → format_of F N down up kind a b c d e ≡ num a b c
  unfolding format_of
  number_leaf k = rw k

  pub name_leaf : kind ≡ 2 → format_of F N down up kind a b c d e ≡ name a b
  unfolding format_of
  name_leaf k = rw k

  pub reason_leaf : kind ≡ 3 → format_of F N down up kind a b c d e ≡ listed a 30 (0 ∷ 1 ∷ 30 ∷ [])
  unfolding format_of
  reason_leaf k = rw k

  pub text_leaf : kind ≡ 4 → format_of F N down up kind a b c d e ≡ text a b (letters_by c) d e
  unfolding format_of
  text_leaf k = rw k

  pub span_leaf : kind ≡ 5 → format_of F N down up kind a b c d e ≡ span a b c d
  unfolding format_of
  span_leaf k = rw k

  pub any_leaf : kind ≡ 6 → format_of F N down up kind a b c d e ≡ any_span a b
  unfolding format_of
  any_leaf k = rw k

  pub null_leaf : kind ≡ 7 → format_of F N down up kind a b c d e ≡ null
  unfolding format_of
  null_leaf k = rw k

  pub no_leaf : kind ≡ 0 → format_of F N down up kind a b c d e ≡ no_reader
  unfolding format_of
  no_leaf k = rw k

module _ (x : Ctx) (s : ℕ → ℕ) (W : List ℕ) (m : ℕ) (p : Stand) (X : List ℕ) (q : Stand) (Y : List ℕ) where
  pub null_part : Part null x s W m p X p X
  unfolding parse encode set_bits
  null_part = record { still = λ z. z; goes = λ z l. record { on = z; left = refl; fits = l; wrote = λ _. (omega arith, refl) } }

  pub no_part : q.off ≡ true → Part no_reader x s W m p X q Y
  unfolding parse
  no_part h = record { still = λ _. h; goes = λ _ _. h }

one_less : {k n : ℕ} → k < n + 1 → (k ≡ n → ⊥) → k < n
one_less h a = omega (arith, h, a)

pub below-eight : {k : ℕ} → k < 8 → (k ≡ 1 → ⊥) → (k ≡ 2 → ⊥) → (k ≡ 3 → ⊥) → (k ≡ 4 → ⊥) → (k ≡ 5 → ⊥) → (k ≡ 6 → ⊥) → (k ≡ 7 → ⊥) → k ≡ 0
below-eight {k} h a b c d e f g = none (one_less (one_less (one_less (one_less (one_less (one_less (one_less h g) f) e) d) c) b) a)
  where
    none : {k : ℕ} → k < 1 → k ≡ 0
    none h = omega arith
