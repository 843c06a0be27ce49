-- The characters of records written.
use mathlib.Core.Path.{◌≡◌, refl, sym, ◌∙◌}
use mathlib.Core.Bool.{Bool, true, false, cond}
use mathlib.Core.List.{List, [], ◌∷◌, ◌++◌, append_assoc}
use Prim.Native.Nat.{ℕ, zero, suc, ◌+◌, ◌-◌, ◌*◌, ◌/◌, ◌≤◌, ◌<◌, min}
use native.Mathlib.Omega.{arith}
use lib.ListN.{get_or}
use Rattle.x691.specs.Bits.{bits_of, stretch}
use Rattle.x691.specs.Encoding.{width, joined, unit_bits}
use Rattle.record_lists.specs.Items.{Item, plain, bits}
use Rattle.record_lists.specs.Kinds.{span_tag}
use Rattle.record_lists.specs.Parse.{value_in, value_of, same, peel, feed}
use Rattle.pens.specs.Stand.{Stand}
use Rattle.pens.specs.Rest.{items}
use Rattle.pens.specs.Writes.{Writes}
use Rattle.pens.proofs.RestLaws.{item_of, items-end, items-cons}
use Rattle.pens.proofs.PenLaws.{then_writes}
use Rattle.write_texts.specs.Letters.{in_word, in_record, in_records}
use Rattle.write_texts.proofs.GotLaws.{feed_same}
use Rattle.pens.proofs.GotLaws.{writes_as, writes_none, writes_nothing}

units-join : (n : ℕ) (us vs : List ℕ) → unit_bits n (us ++ vs) ≡ unit_bits n us ++ unit_bits n vs
unfolding unit_bits joined
units-join n [] vs = refl
units-join n (u ∷ us) vs = rw (units-join n us vs) (sym (append_assoc (bits_of (width (n - 1)) u) (unit_bits n us) (unit_bits n vs)))

module _ (t e n c s : ℕ) where
  -- of the front record, whatever its tag
  record-at : (b : ℕ → ℕ) (j u f w r : ℕ) (R : List Item) → feed (peel (plain t e w s ∷ []) zero (item_of b u f w r ∷ R)) (λ _ S. in_word n c j 8 w S) ≡ in_record t e n c s j (item_of b u f w r ∷ R)
  unfolding in_record peel feed value_of value_in same
  record-at b j u f w r R = go (span_tag u)
    where
      go : (a : Bool) → feed (peel (plain t e w s ∷ []) zero (cond a (bits u f (stretch b w r)) (plain u f w r) ∷ R)) (λ _ S. in_word n c j 8 w S) ≡ in_record t e n c s j (cond a (bits u f (stretch b w r)) (plain u f w r) ∷ R)
      go true = refl
      go false = refl

  module _ (b : ℕ → ℕ) (W : List ℕ) (m : ℕ) where
    pub record_in : (j w : ℕ) (p q r : Stand) (X Y Z : List ℕ) → p.next < m → w ≡ get_or W (p.next * 5 + 2) 0
        → Writes (λ _. []) (λ R. peel (plain t e w s ∷ []) zero R) (λ i. items b W m i) m p X q Y
        → Writes (λ us. unit_bits n us) (λ R. in_word n c j 8 w R) (λ i. items b W m i) m q Y r Z
        → Writes (λ us. unit_bits n us) (λ R. in_record t e n c s j R) (λ i. items b W m i) m p X r Z
    record_in j w p q r X Y Z l z x y =
        let f = then_writes {A = ℕ} (λ _. []) (λ us. unit_bits n us) (λ us. unit_bits n us) _ _ (λ _ us. us) (λ _ us. refl) (λ i. items b W m i) m p q r X Y Z x y in
        writes_as _ _ _ (λ R. in_record t e n c s j R) (λ i. items b W m i) m p X r Z
        (feed_same (peel (plain t e w s ∷ []) zero (items b W m p.next)) (λ _ S. in_word n c j 8 w S) ∙ rw (items-cons b W m p.next l, z) (record-at b j _ _ _ _ _)) (λ v S _. refl) f

    pub record-lacks : (j : ℕ) (p q : Stand) (X Y : List ℕ) → m ≤ p.next → q.off ≡ true → Writes (λ us. unit_bits n us) (λ R. in_record t e n c s j R) (λ i. items b W m i) m p X q Y
    unfolding in_record peel feed
    record-lacks j p q X Y l o = writes_none _ (λ R. in_record t e n c s j R) (λ i. items b W m i) m p X q Y (rw (items-end b W m p.next l)) o

  module _ (T : ℕ → List Item) (m : ℕ) where
    -- j of the k characters that are left
    records-turn : (k j : ℕ) (p q r : Stand) (X Y Z : List ℕ) → 0 < k → j ≡ min 8 k → Writes (λ us. unit_bits n us) (λ R. in_record t e n c s j R) T m p X q Y
        → Writes (λ us. unit_bits n us) (λ R. in_records t e n c s ((k - j + 7) / 8) (k - j) R) T m q Y r Z → Writes (λ us. unit_bits n us) (λ R. in_records t e n c s ((k + 7) / 8) k R) T m p X r Z
    unfolding in_records
    records-turn k j p q r X Y Z l i a b =
        let f : (k + 7) / 8 ≡ suc ((k - 8 + 7) / 8) = omega arith in
        let g : k - j ≡ k - 8 = omega arith in
        rw f (then_writes (λ us. unit_bits n us) (λ us. unit_bits n us) (λ us. unit_bits n us) _ _ (λ us vs. us ++ vs) (units-join n) T m p q r X Y Z (rw i at a) (rw g at b))

    -- the same as a turn of the loop has it, for the record i
    pub records_turn : (k i j : ℕ) (p q r : Stand) (X Y Z : List ℕ) → i * 8 < k → j ≡ min 8 (k - i * 8) → Writes (λ us. unit_bits n us) (λ R. in_record t e n c s j R) T m p X q Y
        → Writes (λ us. unit_bits n us) (λ R. in_records t e n c s ((k - (i + 1) * 8 + 7) / 8) (k - (i + 1) * 8) R) T m q Y r Z → Writes (λ us. unit_bits n us) (λ R. in_records t e n c s ((k - i * 8 + 7) / 8) (k - i * 8) R) T m p X r Z
    records_turn k i j p q r X Y Z l h a b =
        let g : k - (i + 1) * 8 ≡ k - i * 8 - j = omega arith in
        records-turn (k - i * 8) j p q r X Y Z (omega arith) h a (rw g at b)

    pub records-end : (k : ℕ) (p : Stand) (X : List ℕ) → k ≡ 0 → Writes (λ us. unit_bits n us) (λ R. in_records t e n c s ((k + 7) / 8) k R) T m p X p X
    unfolding in_records unit_bits joined
    records-end k p X h = rw h (writes_nothing (λ us. unit_bits n us) [] refl T m p X)
