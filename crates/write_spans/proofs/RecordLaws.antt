-- The span in a record: its bits, and whether its units are whole.
use mathlib.Core.Path.{◌≡◌, refl, sym, ◌∙◌}
use mathlib.Core.Bool.{Bool, true, false, cond}
use mathlib.Core.List.{List, [], ◌∷◌}
use Prim.Native.Nat.{ℕ, ◌+◌, ◌*◌, ◌/◌, ◌%◌, ◌≤◌, ◌<◌}
use native.Mathlib.Nat.{zero-div}
use native.Mathlib.Omega.{arith}
use native.Mathlib.Numerals.{add-one}
use lib.ListN.{length, get_or}
use lib.Dec.{eqb}
use borrow.Author.Tests.{eqb-true, eq-eqb, ne_eqb}
use Rattle.x691.specs.Bits.{stretch}
use Rattle.atn.proofs.Inverse.{both}
use Rattle.bit_writer.proofs.Stretches.{stretch-length}
use Rattle.record_lists.specs.Items.{Item, plain, bits, tag_of}
use Rattle.record_lists.specs.Kinds.{span_tag}
use Rattle.record_lists.specs.Parse.{bits_in, bits_at}
use Rattle.pens.specs.Rest.{items}
use Rattle.pens.proofs.RestLaws.{items-end, items-cons}
use Rattle.write_spans.specs.Spans.{whole}

-- an item of another tag
other_tag : (t u e v s : ℕ) (xs : List ℕ) (R : List Item) (a : Bool) → (u ≡ t → ⊥) → bits_at t (cond a (bits u e xs) (plain u e v s) ∷ R) ≡ []
unfolding bits_at tag_of
other_tag t u e v s xs R true h = rw (ne_eqb u t h)
other_tag t u e v s xs R false h = rw (ne_eqb u t h)

module _ (b : ℕ → ℕ) (W : List ℕ) (m i t : ℕ) where
  bits-end : m ≤ i → bits_at t (items b W m i) ≡ []
  unfolding bits_at
  bits-end h = rw (items-end b W m i h)

  bits_other : i < m → (get_or W (i * 5) 0 ≡ t → ⊥) → bits_at t (items b W m i) ≡ []
  bits_other h z = rw (items-cons b W m i h) (other_tag t (get_or W (i * 5) 0) (get_or W (i * 5 + 1) 0) (get_or W (i * 5 + 2) 0) (get_or W (i * 5 + 3) 0) _ _ (span_tag (get_or W (i * 5) 0)) z)

  pub span_there : i < m → get_or W (i * 5) 0 ≡ t → span_tag t ≡ true → items b W m i ≡ bits t (get_or W (i * 5 + 1) 0) (stretch b (get_or W (i * 5 + 2) 0) (get_or W (i * 5 + 3) 0)) ∷ items b W m (i + 1)
  span_there h e s = items-cons b W m i h ∙ rw (e, s, add-one i)

  bits_there : i < m → get_or W (i * 5) 0 ≡ t → span_tag t ≡ true → bits_at t (items b W m i) ≡ stretch b (get_or W (i * 5 + 2) 0) (get_or W (i * 5 + 3) 0)
  unfolding bits_at tag_of bits_in
  bits_there h e s = rw (span_there h e s, eq-eqb t t refl)

  -- how many units it has
  module _ (w : ℕ) where
    pub units-end : m ≤ i → 0 ≡ length (bits_at t (items b W m i)) / w
    units-end h = rw (bits-end h) (sym (zero-div w))

    pub units_other : i < m → (get_or W (i * 5) 0 ≡ t → ⊥) → 0 ≡ length (bits_at t (items b W m i)) / w
    units_other h z = rw (bits_other h z) (sym (zero-div w))

    pub units_there : i < m → get_or W (i * 5) 0 ≡ t → span_tag t ≡ true → get_or W (i * 5 + 3) 0 / w ≡ length (bits_at t (items b W m i)) / w
    units_there h e s = rw (bits_there h e s, stretch-length b (get_or W (i * 5 + 2) 0) (get_or W (i * 5 + 3) 0))

module _ (W : List ℕ) (i e w : ℕ) where
  pub whole_same : get_or W (i * 5 + 1) 0 ≡ e → eqb (get_or W (i * 5 + 3) 0 % w) 0 ≡ whole W i e w
  unfolding whole
  whole_same h = rw (eq-eqb (get_or W (i * 5 + 1) 0) e h)

  pub whole_other : (get_or W (i * 5 + 1) 0 ≡ e → ⊥) → false ≡ whole W i e w
  unfolding whole
  whole_other h = rw (ne_eqb (get_or W (i * 5 + 1) 0) e h)

  pub whole-yes : whole W i e w ≡ true → (get_or W (i * 5 + 1) 0 ≡ e) × (get_or W (i * 5 + 3) 0 % w ≡ 0)
  unfolding whole
  whole-yes h =
      let z = both (eqb (get_or W (i * 5 + 1) 0) e) (eqb (get_or W (i * 5 + 3) 0 % w) 0) h in
      (eqb-true (get_or W (i * 5 + 1) 0) e z.0, eqb-true (get_or W (i * 5 + 3) 0 % w) 0 z.1)

  pub whole_no : whole W i e w ≡ false → e ≡ get_or W (i * 5 + 1) 0 → get_or W (i * 5 + 3) 0 % w ≡ 0 → ⊥
  unfolding whole
  whole_no h x y = omega (arith, truth (rw (eq-eqb (get_or W (i * 5 + 1) 0) e (sym x), eq-eqb (get_or W (i * 5 + 3) 0 % w) 0 y) at h))
    where
      truth : true ≡ false → ◌≡◌ {A = ℕ} 0 1
      truth q = cc
