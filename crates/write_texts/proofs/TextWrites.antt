-- A text written: its size, and then its records, where the format gets one.
use mathlib.Core.Path.{◌≡◌, refl, sym, ◌∙◌}
use mathlib.Core.Bool.{Bool, true, false, cond}
use mathlib.Core.List.{List, [], ◌∷◌, ◌++◌}
use Prim.Native.Nat.{ℕ, zero, suc, ◌+◌, ◌-◌, ◌*◌, ◌/◌, ◌≤◌, ◌<◌}
use native.Mathlib.Omega.{arith}
use lib.ListN.{length, get_or}
use Rattle.x691.specs.Bits.{bits_of, stretch}
use Rattle.x691.specs.Encoding.{width, size_bits, unit_bits, encode}
use Rattle.atn.specs.Format.{text, first}
use Rattle.atn.specs.Reading.{octets, coded}
use Rattle.atn.proofs.Texts.{length-coded}
use Rattle.record_lists.specs.Items.{Item, plain, bits}
use Rattle.record_lists.specs.Kinds.{span_tag}
use Rattle.record_lists.specs.Shown.{packed, spelt}
use Rattle.record_lists.specs.Parse.{got, feed, parse}
use Rattle.pens.specs.Stand.{Stand}
use Rattle.pens.specs.Rest.{items}
use Rattle.pens.specs.Writes.{Writes, Inks, Part}
use Rattle.pens.proofs.RestLaws.{item_of, items-end, items-cons}
use Rattle.pens.proofs.PenLaws.{then_writes}
use Rattle.write_texts.specs.Letters.{in_records}
use Rattle.write_texts.proofs.GotLaws.{turn-same}
use Rattle.write_texts.proofs.RecordLaws.{records_inv}
use Rattle.write_texts.proofs.TextLaws.{good-size, other_size}
use Rattle.pens.proofs.GotLaws.{writes_as, writes_none, writes_ink}

-- the second number of the front record is the size
second-of : (b : ℕ → ℕ) (u f w r t e x k : ℕ) → item_of b u f w r ≡ plain t e x k → k ≡ r
second-of b u f w r t e x k h = go (span_tag u) h
  where
    go : (a : Bool) → cond a (bits u f (stretch b w r)) (plain u f w r) ≡ plain t e x k → k ≡ r
    go true q = let z : ◌≡◌ {A = ℕ} 0 1 = cc in absurd (omega arith)
    go false q = cc

front-size : (b : ℕ → ℕ) (u f w r t e c : ℕ) (R : List Item) (v : List ℕ) (S : List Item) → 1 ≤ length v → item_of b u f w r ∷ R ≡ spelt t e (coded c v) ++ S → length v ≡ r
unfolding spelt packed
front-size b u f w r t e c R v S l h = sym (length-coded c v) ∙ go ((length (coded c v) + 7) / 8) (omega (arith, length-coded c v)) h
  where
    go : (i : ℕ) → 1 ≤ i → item_of b u f w r ∷ R ≡ packed t e (length (coded c v)) i (coded c v) ++ S → length (coded c v) ≡ r
    go zero y q = absurd (omega arith)
    go (suc i) y q = second-of b u f w r t e (octets 8 (coded c v)) (length (coded c v)) (cc)

-- no record, no text
none-size : (t e c k : ℕ) (v : List ℕ) (S : List Item) → 1 ≤ length v → [] ≡ spelt t e (coded c v) ++ S → length v ≡ k
unfolding spelt packed
none-size t e c k v S l h = go ((length (coded c v) + 7) / 8) (omega (arith, length-coded c v)) h
  where
    go : (i : ℕ) → 1 ≤ i → [] ≡ packed t e (length (coded c v)) i (coded c v) ++ S → length v ≡ k
    go zero y q = absurd (omega arith)
    go (suc i) y q = let z : ◌≡◌ {A = ℕ} 0 1 = cc in absurd (omega arith)

module _ (t e y n c lo hi : ℕ) (l : 1 ≤ lo) (h : c + n ≤ 256) (b : ℕ → ℕ) (W : List ℕ) (m : ℕ) (p : Stand) (X : List ℕ) where
  sized : p.next < m → (v : List ℕ) (S : List Item) → 1 ≤ length v → items b W m p.next ≡ spelt t e (coded c v) ++ S → length v ≡ get_or W (p.next * 5 + 3) 0
  sized d v S o z = front-size b _ _ _ _ t e c _ v S o (sym (items-cons b W m p.next d) ∙ z)

  pub text-lacks : (r : Stand) (Z : List ℕ) → m ≤ p.next → r.off ≡ true → Part (text t n (first c) lo hi) (e, y) b W m p X r Z
  text-lacks r Z d o =
      writes_none _ (λ R. parse (text t n (first c) lo hi) (e, y) R) (λ i. items b W m i) m p X r Z
      (other_size t e y n c lo hi l h _ 0 (λ v S q z. none-size t e c 0 v S q (sym (items-end b W m p.next d) ∙ z)) (λ z. omega (arith, l, z.0))) o

  pub text-sized_otherwise : (r : Stand) (Z : List ℕ) → p.next < m → ((lo ≤ get_or W (p.next * 5 + 3) 0) × (get_or W (p.next * 5 + 3) 0 ≤ hi) → ⊥) → r.off ≡ true → Part (text t n (first c) lo hi) (e, y) b W m p X r Z
  text-sized_otherwise r Z d f o = writes_none _ (λ R. parse (text t n (first c) lo hi) (e, y) R) (λ i. items b W m i) m p X r Z (other_size t e y n c lo hi l h _ _ (sized d) f) o

  -- the size, then the records
  pub text-written : (q r : Stand) (Y Z : List ℕ) (w : ℕ) → w ≡ width (hi - lo) → p.next < m → lo ≤ get_or W (p.next * 5 + 3) 0 → get_or W (p.next * 5 + 3) 0 ≤ hi
      → Inks p X w (get_or W (p.next * 5 + 3) 0 - lo) q Y
      → Writes (λ us. unit_bits n us) (λ R. in_records t e n c (get_or W (p.next * 5 + 3) 0) ((get_or W (p.next * 5 + 3) 0 + 7) / 8) (get_or W (p.next * 5 + 3) 0) R) (λ i. items b W m i) m q Y r Z
      → Part (text t n (first c) lo hi) (e, y) b W m p X r Z
  unfolding feed encode size_bits
  text-written q r Y Z w a d f g i x =
      let k = get_or W (p.next * 5 + 3) 0 in
      let both = then_writes (λ _. bits_of w (k - lo)) (λ us. unit_bits n us) (λ us. bits_of w (k - lo) ++ unit_bits n us) (λ R. got (k - lo) R) _ (λ _ us. us) (λ _ us. refl) (λ j. items b W m j) m p q r X Y Z (writes_ink (λ _. bits_of w (k - lo)) (k - lo) w (k - lo) refl (λ j. items b W m j) m p X q Y i) x in
      writes_as _ _ _ (λ R. parse (text t n (first c) lo hi) (e, y) R) (λ j. items b W m j) m p X r Z
      (turn-same _ ∙ sym (good-size t e y n c lo hi l h _ k (sized d) f g))
      (λ v S z. let s = records_inv t e n c k ((k + 7) / 8) k (items b W m p.next) (omega arith) (sym (good-size t e y n c lo hi l h _ k (sized d) f g) ∙ z) in rw (a, s.0)) both
