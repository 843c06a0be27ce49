-- The text that a format gets from a list is that of its records, where the size is one that the format has.
use mathlib.Core.Path.{◌≡◌, refl, sym, ap, ◌∙◌}
use mathlib.Core.Bool.{false}
use mathlib.Core.List.{List, [], ◌∷◌, ◌++◌}
use Prim.Native.Nat.{ℕ, ◌+◌, ◌/◌, ◌≤◌, ◌<◌}
use native.Mathlib.Omega.{arith}
use lib.ListN.{length}
use borrow.Author.Tests.{eq-eqb, le-leb}
use Rattle.x691.specs.Range.{All, member}
use Rattle.atn.specs.Format.{text, first}
use Rattle.atn.specs.Reading.{coded}
use Rattle.atn.proofs.Texts.{length-coded}
use Rattle.record_lists.specs.Items.{Item, tag_of}
use Rattle.record_lists.specs.Clear.{clear}
use Rattle.record_lists.specs.Shown.{packed, spelt, shown}
use Rattle.record_lists.specs.Parse.{Got, no, got, parse}
use Rattle.record_lists.proofs.First.{Follows}
use Rattle.record_lists.proofs.Forth.{forth, nothing}
use Rattle.record_lists.proofs.Back.{back}
use Rattle.write_texts.specs.Letters.{in_records}
use Rattle.write_texts.proofs.RecordLaws.{records_inv, records_go}

-- a list follows the tag of its first item
pub tags : List Item → List ℕ
tags [] = []
tags (i ∷ R) = tag_of i ∷ []

pub follows : (R : List Item) → Follows (tags R) R
unfolding tags member
follows [] = tt
follows (i ∷ R) = rw (eq-eqb (tag_of i) (tag_of i) refl)

module _ (t e y n c lo hi : ℕ) (l : 1 ≤ lo) (h : c + n ≤ 256) where
  text_got : (v : List ℕ) (S : List Item) → lo ≤ length v → length v ≤ hi → All (λ u. u < n) v → parse (text t n (first c) lo hi) (e, y) (spelt t e (coded c v) ++ S) ≡ got v S
  unfolding shown clear
  text_got v S a b g = back (text t n (first c) lo hi) v (e, y) (λ _. false) (tags S) S (rw (le-leb 1 lo l, le-leb (c + n) 256 h)) (a, b, g) tt (follows S)

  -- k is the size of the text that R shows, if it shows one
  module _ (R : List Item) (k : ℕ) (sized : (v : List ℕ) (S : List Item) → 1 ≤ length v → R ≡ spelt t e (coded c v) ++ S → length v ≡ k) where
    pub other_size : ((lo ≤ k) × (k ≤ hi) → ⊥) → parse (text t n (first c) lo hi) (e, y) R ≡ no
    unfolding shown
    other_size z = go (parse (text t n (first c) lo hi) (e, y) R) refl
      where
        go : (g : Got (List ℕ)) → parse (text t n (first c) lo hi) (e, y) R ≡ g → g ≡ no
        go no q = refl
        go (got v S) q =
            let f = forth (text t n (first c) lo hi) (e, y) R q in
            let d = sized v S (omega (arith, l, f.0.0)) f.1 in
            absurd (z (omega (arith, d, f.0.0), omega (arith, d, f.0.1)))

    pub good-size : lo ≤ k → k ≤ hi → parse (text t n (first c) lo hi) (e, y) R ≡ in_records t e n c k ((k + 7) / 8) k R
    unfolding shown spelt
    good-size a b = go (in_records t e n c k ((k + 7) / 8) k R) refl
      where
        none : (g : Got (List ℕ)) → parse (text t n (first c) lo hi) (e, y) R ≡ g → in_records t e n c k ((k + 7) / 8) k R ≡ no → g ≡ no
        none no q z = refl
        none (got v S) q z =
            let f = forth (text t n (first c) lo hi) (e, y) R q in
            let d = sized v S (omega (arith, l, f.0.0)) f.1 in
            let r : R ≡ packed t e k ((k + 7) / 8) (coded c v) ++ S = f.1 ∙ rw (length-coded c v, d) in
            let g = records_go t e n c k ((k + 7) / 8) v S h f.0.2 (omega (arith, d)) in
            nothing (sym z ∙ ap (λ (j : ℕ). in_records t e n c k ((k + 7) / 8) j R) (sym d) ∙ ap (λ (Q : List Item). in_records t e n c k ((k + 7) / 8) (length v) Q) r ∙ g)

        go : (g : Got (List ℕ)) → in_records t e n c k ((k + 7) / 8) k R ≡ g → parse (text t n (first c) lo hi) (e, y) R ≡ g
        go no q = none (parse (text t n (first c) lo hi) (e, y) R) refl q
        go (got v S) q =
            let i = records_inv t e n c k ((k + 7) / 8) k R (omega arith) q in
            let r : R ≡ spelt t e (coded c v) ++ S = i.2 ∙ rw (length-coded c v, i.0) in
            rw r (text_got v S (omega (arith, i.0)) (omega (arith, i.0)) i.1)
