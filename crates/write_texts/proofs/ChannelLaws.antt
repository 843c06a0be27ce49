-- What a satellite channel gets from a list: its characters from the first text, if the second says the same.
use mathlib.Core.Path.{◌≡◌, refl, sym, ap, ◌∙◌}
use mathlib.Core.Bool.{Bool, true, false, cond}
use mathlib.Core.List.{List, [], ◌∷◌, ◌++◌, append_assoc}
use Prim.Native.Nat.{ℕ, zero, suc, ◌+◌, ◌*◌, ◌<◌}
use native.Mathlib.Omega.{arith}
use lib.ListN.{length, drop, get_or}
use lib.Dec.{ltb}
use borrow.Author.Tests.{ltb-true, ltb-false}
use Rattle.x691.specs.Bits.{stretch}
use Rattle.x691.specs.Range.{All}
use Rattle.atn.specs.Format.{text, first, numeric}
use Rattle.atn.specs.Reading.{octets, coded, spaced}
use Rattle.atn.proofs.Texts.{length-coded, length-spaced, drop-coded, drop-spaced}
use Rattle.record_lists.specs.Items.{Item, plain, bits}
use Rattle.record_lists.specs.Kinds.{span_tag}
use Rattle.record_lists.specs.Clear.{clear}
use Rattle.record_lists.specs.Shown.{packed, spelt, shown}
use Rattle.record_lists.specs.Parse.{Got, no, got, peel, feed, turn, parse}
use Rattle.record_lists.proofs.Forth.{forth, nothing, peel_inv}
use Rattle.record_lists.proofs.Back.{back, peel_go}
use Rattle.pens.specs.Rest.{items}
use Rattle.pens.proofs.RestLaws.{item_of, items-end, items-cons}
use Rattle.numeric_strings.specs.Spacing.{spaced_octets}
use Rattle.numeric_strings.proofs.SpacingLaws.{octets-spaced}
use Rattle.write_texts.proofs.TextLaws.{tags, follows}

-- twelve characters are two items
two : (t e : ℕ) (cs : List ℕ) → length cs ≡ 12 → spelt t e cs ≡ plain t e (octets 8 cs) 12 ∷ plain t e (octets 8 (drop 8 cs)) 12 ∷ []
unfolding spelt packed
two t e cs h = rw h

---------------------------------------------------------------- the list

module _ (t u e y : ℕ) where
  -- as the source has them
  abbrev digits : List ℕ → List Item
  digits v = spelt t e (coded 48 v)

  -- as X.680 has them
  abbrev numerals : List ℕ → List Item
  numerals v = spelt u e (spaced v)

  abbrev one : List Item → Got (List ℕ)
  one R = parse (text t 11 (first 48) 12 12) (e, y) R

  abbrev both : List Item → Got (List ℕ)
  both R = parse (text t 11 (numeric u) 12 12) (e, y) R

  one_got : (v : List ℕ) (S : List Item) → length v ≡ 12 → All (λ c. c < 11) v → one (digits v ++ S) ≡ got v S
  unfolding shown clear
  one_got v S l a = back (text t 11 (first 48) 12 12) v (e, y) (λ _. false) (tags S) S refl (omega (arith, l), omega (arith, l), a) tt (follows S)

  both_got : (v : List ℕ) (S : List Item) → length v ≡ 12 → All (λ c. c < 11) v → both ((digits v ++ numerals v) ++ S) ≡ got v S
  unfolding shown clear
  both_got v S l a = back (text t 11 (numeric u) 12 12) v (e, y) (λ _. false) (tags S) S refl (omega (arith, l), omega (arith, l), a) tt (follows S)

  one_inv : (R : List Item) {v : List ℕ} {S : List Item} → one R ≡ got v S → (length v ≡ 12) × All (λ c. c < 11) v × (R ≡ digits v ++ S)
  unfolding shown
  one_inv R q = let f = forth (text t 11 (first 48) 12 12) (e, y) R q in (omega (arith, f.0.0, f.0.1), f.0.2, f.1)

  both_inv : (R : List Item) {v : List ℕ} {S : List Item} → both R ≡ got v S → (length v ≡ 12) × All (λ c. c < 11) v × (R ≡ (digits v ++ numerals v) ++ S)
  unfolding shown
  both_inv R q = let f = forth (text t 11 (numeric u) 12 12) (e, y) R q in (omega (arith, f.0.0, f.0.1), f.0.2, f.1)

  -- the words of X.680's text as the code works them out from those of the other; whatever they are where there is no text
  module _ (R : List Item) (w x : ℕ) (linked : (v : List ℕ) (S : List Item) → length v ≡ 12 → All (λ c. c < 11) v → R ≡ digits v ++ S → (w ≡ octets 8 (spaced v)) × (x ≡ octets 8 (drop 8 (spaced v)))) where
    abbrev front : Item
    front = plain u e w 12

    abbrev rear : Item
    rear = plain u e x 12

    numerals_are : (v : List ℕ) (S : List Item) → length v ≡ 12 → All (λ c. c < 11) v → R ≡ digits v ++ S → numerals v ≡ front ∷ rear ∷ []
    numerals_are v S l a q = let z = linked v S l a q in rw (z.0, z.1) (two u e (spaced v) (length-spaced v ∙ l))

    -- the first text, then two records
    abbrev steps : List Item → Got (List ℕ)
    steps Q = feed (feed (one Q) λ v S. turn (λ _. v) (peel (front ∷ []) zero S)) λ v S. turn (λ _. v) (peel (rear ∷ []) zero S)

    pub channel_steps : steps R ≡ both R
    unfolding feed turn
    channel_steps = go (both R) refl
      where
        yes : (v : List ℕ) (S : List Item) → both R ≡ got v S → steps R ≡ got v S
        yes v S q =
            let f = both_inv R q in
            let r : R ≡ digits v ++ (numerals v ++ S) = f.2 ∙ append_assoc (digits v) (numerals v) S in
            let n = numerals_are v (numerals v ++ S) f.0 f.1 r in
            let o : one R ≡ got v (front ∷ rear ∷ S) = ap one r ∙ one_got v (numerals v ++ S) f.0 f.1 ∙ ap (λ (P : List Item). got v (P ++ S)) n in
            let a : peel (front ∷ []) zero (front ∷ rear ∷ S) ≡ got zero (rear ∷ S) = peel_go (front ∷ []) zero (rear ∷ S) in
            let b : peel (rear ∷ []) zero (rear ∷ S) ≡ got zero S = peel_go (rear ∷ []) zero S in
            rw (o, a, b)

        last : (v : List ℕ) (S U : List Item) → one R ≡ got v S → peel (front ∷ []) zero S ≡ got zero U → both R ≡ no → (k : Got ℕ) → peel (rear ∷ []) zero U ≡ k → turn (λ _. v) k ≡ no
        last v S U o a q no b = refl
        last v S U o a q (got c D) b =
            let f = one_inv R o in
            let n = numerals_are v S f.0 f.1 f.2 in
            let s : S ≡ front ∷ U = (peel_inv (front ∷ []) zero S a).1 in
            let z : U ≡ rear ∷ D = (peel_inv (rear ∷ []) zero U b).1 in
            let r : R ≡ (digits v ++ numerals v) ++ D = f.2 ∙ ap (λ (Q : List Item). digits v ++ Q) (s ∙ ap (λ (Q : List Item). front ∷ Q) z ∙ ap (λ (Q : List Item). Q ++ D) (sym n)) ∙ sym (append_assoc (digits v) (numerals v) D) in
            nothing (sym q ∙ ap both r ∙ both_got v D f.0 f.1)

        first_of : (v : List ℕ) (S : List Item) → one R ≡ got v S → both R ≡ no → (k : Got ℕ) → peel (front ∷ []) zero S ≡ k → feed (turn (λ _. v) k) (λ v S. turn (λ _. v) (peel (rear ∷ []) zero S)) ≡ no
        first_of v S o q no a = refl
        first_of v S o q (got c U) a =
            let c0 : c ≡ zero = (peel_inv (front ∷ []) zero S a).0 in
            last v S U o (a ∙ ap (λ (j : ℕ). got j U) c0) q (peel (rear ∷ []) zero U) refl

        not : (k : Got (List ℕ)) → one R ≡ k → both R ≡ no → feed (feed k λ v S. turn (λ _. v) (peel (front ∷ []) zero S)) (λ v S. turn (λ _. v) (peel (rear ∷ []) zero S)) ≡ no
        not no o q = refl
        not (got v S) o q = first_of v S o q (peel (front ∷ []) zero S) refl

        go : (k : Got (List ℕ)) → both R ≡ k → steps R ≡ k
        go no q = not (one R) refl q
        go (got v S) q = yes v S q

---------------------------------------------------------------- the words

value_of : (b : ℕ → ℕ) (u f w r t e x k : ℕ) → item_of b u f w r ≡ plain t e x k → w ≡ x
value_of b u f w r t e x k h = go (span_tag u) h
  where
    go : (a : Bool) → cond a (bits u f (stretch b w r)) (plain u f w r) ≡ plain t e x k → w ≡ x
    go true q = let z : ◌≡◌ {A = ℕ} 0 1 = cc in absurd (omega arith)
    go false q = cc

-- the record at the front of a list that begins with an item
front-value : (b : ℕ → ℕ) (W : List ℕ) (m i t e x k : ℕ) (S : List Item) → items b W m i ≡ plain t e x k ∷ S → (i < m) × (get_or W (i * 5 + 2) 0 ≡ x) × (items b W m (suc i) ≡ S)
front-value b W m i t e x k S h = go (ltb i m) refl
  where
    go : (a : Bool) → ltb i m ≡ a → (i < m) × (get_or W (i * 5 + 2) 0 ≡ x) × (items b W m (suc i) ≡ S)
    go true q =
        let l : i < m = ltb-true i m q in
        let z = sym (items-cons b W m i l) ∙ h in
        (l, value_of b (get_or W (i * 5) 0) (get_or W (i * 5 + 1) 0) (get_or W (i * 5 + 2) 0) (get_or W (i * 5 + 3) 0) t e x k (cc), cc)
    go false q = let z = sym (items-end b W m i (ltb-false i m q)) ∙ h in let y : ◌≡◌ {A = ℕ} 0 1 = cc in absurd (omega arith)

all_drop : (k : ℕ) (us : List ℕ) → All (λ c. c < 11) us → All (λ c. c < 11) (drop k us)
all_drop zero us a = a
all_drop (suc k) [] a = a
all_drop (suc k) (u ∷ us) a = all_drop k us a.1

few : (us : List ℕ) → All (λ c. c < 11) us → All (λ c. c < 16) us
few [] a = tt
few (u ∷ us) a = (omega (arith, a.0), few us a.1)

module _ (b : ℕ → ℕ) (W : List ℕ) (m i t e w x : ℕ) (p : i + 0 < m → w ≡ get_or W ((i + 0) * 5 + 2) 0) (q : i + 1 < m → x ≡ get_or W ((i + 1) * 5 + 2) 0) where
  pub linked : (v : List ℕ) (S : List Item) → length v ≡ 12 → All (λ c. c < 11) v → items b W m i ≡ spelt t e (coded 48 v) ++ S → (spaced_octets 8 w ≡ octets 8 (spaced v)) × (spaced_octets 8 x ≡ octets 8 (drop 8 (spaced v)))
  linked v S l a h =
      let z : items b W m i ≡ plain t e (octets 8 (coded 48 v)) 12 ∷ plain t e (octets 8 (drop 8 (coded 48 v))) 12 ∷ S = h ∙ ap (λ (P : List Item). P ++ S) (two t e (coded 48 v) (length-coded 48 v ∙ l)) in
      let f = front-value b W m i t e _ _ _ z in
      let n : suc i ≡ i + 1 = omega arith in
      let g = rw n at (front-value b W m (suc i) t e _ _ _ f.2) in
      let o : i + 0 ≡ i = omega arith in
      let w0 : w ≡ octets 8 (coded 48 v) = (rw o at p) f.0 ∙ f.1 in
      let x0 : x ≡ octets 8 (coded 48 (drop 8 v)) = q g.0 ∙ g.1 ∙ ap (octets 8) (drop-coded 8 48 v) in
      (rw w0 (octets-spaced 8 v (few v a)), rw (x0, drop-spaced 8 v) (octets-spaced 8 (drop 8 v) (few (drop 8 v) (all_drop 8 v a))))
