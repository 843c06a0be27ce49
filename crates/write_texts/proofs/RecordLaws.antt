-- Characters are got from records just where these are what the characters show.
use mathlib.Core.Path.{◌≡◌, refl, ap, ◌∙◌}
use mathlib.Core.List.{List, [], ◌∷◌, ◌++◌}
use Prim.Native.Nat.{ℕ, zero, suc, ◌+◌, ◌-◌, ◌*◌, ◌≤◌, ◌<◌, min}
use native.Mathlib.Omega.{arith}
use lib.ListN.{length, take, drop, length-append, length-drop, take-append-drop}
use borrow.Author.Tests.{eq-eqb}
use Rattle.x691.specs.Range.{All}
use Rattle.atn.specs.Reading.{octets, coded}
use Rattle.atn.proofs.Texts.{drop-coded}
use Rattle.record_lists.specs.Items.{Item, plain}
use Rattle.record_lists.specs.Shown.{packed}
use Rattle.record_lists.specs.Parse.{value_in, value_of, same, got, peel, feed, turn}
use Rattle.write_texts.specs.Letters.{in_record, in_records}
use Rattle.record_lists.proofs.Forth.{feed_inv, turn_inv}
use Rattle.write_texts.proofs.GotLaws.{peel_one}
use Rattle.write_texts.proofs.WordLaws.{word_inv, word_go}

---------------------------------------------------------------- the first eight characters, and the others

all_join : (n : ℕ) (us vs : List ℕ) → All (λ u. u < n) us → All (λ u. u < n) vs → All (λ u. u < n) (us ++ vs)
all_join n [] vs a b = b
all_join n (u ∷ us) vs a b = (a.0, all_join n us vs a.1 b)

all_drop : (n k : ℕ) (us : List ℕ) → All (λ u. u < n) us → All (λ u. u < n) (drop k us)
all_drop n zero us a = a
all_drop n (suc k) [] a = a
all_drop n (suc k) (u ∷ us) a = all_drop n k us a.1

-- us are the first k characters, or all
module _ (c : ℕ) (vs : List ℕ) where
  octets-front : (k : ℕ) (us : List ℕ) → length us ≡ min k (length us + length vs) → octets k (coded c (us ++ vs)) ≡ octets k (coded c us)
  unfolding octets coded
  octets-front zero us h = refl
  octets-front (suc k) [] h = go vs (omega arith)
    where
      go : (l : List ℕ) → length l ≡ 0 → octets (suc k) (coded c l) ≡ 0
      go [] e = refl
      go (x ∷ l) e = absurd (omega arith)
  octets-front (suc k) (u ∷ us) h = rw (octets-front k us (omega arith))

  drop-front : (k : ℕ) (us : List ℕ) → length us ≡ min k (length us + length vs) → drop k (coded c (us ++ vs)) ≡ coded c vs
  unfolding coded
  drop-front zero [] h = refl
  drop-front zero (u ∷ us) h = absurd (omega arith)
  drop-front (suc k) [] h = go vs (omega arith)
    where
      go : (l : List ℕ) → length l ≡ 0 → drop (suc k) (coded c l) ≡ coded c l
      go [] e = refl
      go (x ∷ l) e = absurd (omega arith)
  drop-front (suc k) (u ∷ us) h = drop-front k us (omega arith)

---------------------------------------------------------------- records

module _ (t e n c s : ℕ) where
  record_inv : (j : ℕ) (R : List Item) {v : List ℕ} {S : List Item} → in_record t e n c s j R ≡ got v S → (length v ≡ j) × All (λ u. u < n) v × (R ≡ plain t e (octets 8 (coded c v)) s ∷ S)
  unfolding in_record
  record_inv j R h =
      let a = feed_inv (peel (plain t e (value_of R) s ∷ []) zero R) _ h in
      let x = peel_one (plain t e (value_of R) s) zero R a.2 in
      let y = word_inv n c j 8 (value_of R) a.1 a.3 in
      let f = y.0 in
      let g = y.3 in
      (y.1, y.2, cc)

  record_go : (v : List ℕ) (R : List Item) → c + n ≤ 256 → All (λ u. u < n) v → in_record t e n c s (min 8 (length v)) (plain t e (octets 8 (coded c v)) s ∷ R) ≡ got (take 8 v) R
  unfolding in_record peel feed value_of value_in same
  record_go v R h a =
      rw (eq-eqb t t refl, eq-eqb e e refl, eq-eqb s s refl, eq-eqb (octets 8 (coded c v)) (octets 8 (coded c v)) refl)
      (word_go n c (min 8 (length v)) 8 v R h a refl)

  pub records_inv : (i k : ℕ) (R : List Item) {v : List ℕ} {S : List Item} → k ≤ i * 8 → in_records t e n c s i k R ≡ got v S → (length v ≡ k) × All (λ u. u < n) v × (R ≡ packed t e s i (coded c v) ++ S)
  unfolding in_records packed
  records_inv zero k R {v} l h = let z : v ≡ [] = cc in rw z (omega arith, tt, cc)
  records_inv (suc i) k R {v} {S} l h =
      let a = feed_inv (in_record t e n c s (min 8 k) R) _ h in
      let x = record_inv (min 8 k) R a.2 in
      let b = turn_inv _ (in_records t e n c s i (k - 8) a.1) a.3 in
      let y = records_inv i (k - 8) a.1 (omega arith) b.1 in
      let f : length a.0 ≡ min 8 (length a.0 + length b.0) = omega (arith, x.0, y.0) in
      rw b.2 (
        length-append a.0 b.0 ∙ omega (arith, x.0, y.0),
        all_join n a.0 b.0 x.1 y.1,
        x.2 ∙ rw (octets-front c b.0 8 a.0 f, drop-front c b.0 8 a.0 f) (ap (λ (T : List Item). plain t e (octets 8 (coded c a.0)) s ∷ T) y.2),
      )

  pub records_go : (i : ℕ) (v : List ℕ) (S : List Item) → c + n ≤ 256 → All (λ u. u < n) v → length v ≤ i * 8 → in_records t e n c s i (length v) (packed t e s i (coded c v) ++ S) ≡ got v S
  unfolding in_records packed feed turn
  records_go zero [] S h a l = refl
  records_go zero (u ∷ v) S h a l = absurd (omega arith)
  records_go (suc i) v S h a l =
      let d = length-drop 8 v in
      rw (record_go v (packed t e s i (drop 8 (coded c v)) ++ S) h a, drop-coded 8 c v, ← (length-drop 8 v), records_go i (drop 8 v) S h (all_drop n 8 v a) (omega (arith, d)))
      (ap (λ (z : List ℕ). got z S) (take-append-drop 8 v))
