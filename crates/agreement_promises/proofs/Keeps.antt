-- Where each index has the kind of argument that K says, the list agrees with itself.
use mathlib.Core.Path.{◌≡◌, refl, sym}
use mathlib.Core.Bool.{Bool, true, false, cond, ◌&&◌, ◌||◌}
use mathlib.Core.List.{List, [], ◌∷◌}
use Prim.Native.Nat.{ℕ}
use lib.Dec.{eqb}
use borrow.Author.Tests.{eqb-true}
use Rattle.atn.specs.Reading.{Rec}
use Rattle.atn.specs.Tags as tags
use Rattle.atn.proofs.Inverse.{both}
use Rattle.record_views.specs.View.{fetched}
use Rattle.screen_records.specs.Fields.{tag}
use Rattle.element_kinds.specs.Kinds.{kind_of}
use Rattle.element_kinds.specs.Agreed.{is_last, kind_agrees, one_agrees, later_agree, element_agrees, agreed}
use Rattle.agreement_promises.specs.Kept.{ended, fits, keeps_one, keeps}

last_first : (R : List Rec) → ended R ≡ true → is_last (tag R 0) ≡ true
unfolding ended tag is_last
last_first [] h = refl
last_first (x ∷ R) h = (both (is_last (fetched x).tag) (ended R) h).0

no_index : (t : ℕ) → is_last t ≡ true → eqb t tags.element_index ≡ false
unfolding is_last
no_index t h = go (eqb t tags.element_index) h
  where
    go : (u : Bool) → cond u false (cond (eqb t tags.clearance) false true) ≡ true → u ≡ false
    go true q = sym q
    go false q = refl

ended-later : (i k : ℕ) (R : List Rec) → ended R ≡ true → later_agree i k R ≡ true
unfolding ended later_agree one_agrees
ended-later i k [] h = refl
ended-later i k (x ∷ R) h = let z = both (is_last (fetched x).tag) (ended R) h in rw (no_index (fetched x).tag z.0, ended-later i k R z.1) refl

fits_agrees : (k : ℕ) (R : List Rec) → fits k (kind_of R) (ended R) ≡ true → kind_agrees k (kind_of R) (tag R 0) ≡ true
unfolding fits kind_agrees
fits_agrees k R h = go (eqb (kind_of R) k) h
  where
    go : (u : Bool) → u || (eqb (kind_of R) 0 && ended R) ≡ true → cond u true (cond (eqb (kind_of R) 0) (is_last (tag R 0)) false) ≡ true
    go true q = refl
    go false q = let z = both (eqb (kind_of R) 0) (ended R) q in rw (z.0, last_first R z.1) refl

module _ (K : ℕ → ℕ) where
  keeps-later : (i : ℕ) (R : List Rec) → keeps K R ≡ true → later_agree i (K i) R ≡ true
  unfolding keeps keeps_one later_agree one_agrees
  keeps-later i [] h = refl
  keeps-later i (x ∷ R) h = let z = both (keeps_one K x R) (keeps K R) h in rw (keeps-later i R z.1, here (eqb (fetched x).tag tags.element_index) z.0) refl
    where
      same : (u : Bool) → eqb (fetched x).value i ≡ u → fits (K (fetched x).value) (kind_of R) (ended R) ≡ true → cond u (kind_agrees (K i) (kind_of R) (tag R 0)) true ≡ true
      same true q g = rw (← eqb-true (fetched x).value i q) (fits_agrees (K (fetched x).value) R g)
      same false q g = refl

      here : (u : Bool) → cond u (fits (K (fetched x).value) (kind_of R) (ended R)) true ≡ true → cond u (cond (eqb (fetched x).value i) (kind_agrees (K i) (kind_of R) (tag R 0)) true) true ≡ true
      here true g = same (eqb (fetched x).value i) refl g
      here false g = refl

  pub keeps-agreed : (R : List Rec) → keeps K R ≡ true → agreed R ≡ true
  unfolding keeps keeps_one agreed element_agrees fits
  keeps-agreed [] h = refl
  keeps-agreed (x ∷ R) h = let z = both (keeps_one K x R) (keeps K R) h in rw (keeps-agreed R z.1, here (eqb (fetched x).tag tags.element_index) z.0 z.1) refl
    where
      kind : (u : Bool) → eqb (kind_of R) (K (fetched x).value) ≡ u → u || (eqb (kind_of R) 0 && ended R) ≡ true → keeps K R ≡ true → later_agree (fetched x).value (kind_of R) R ≡ true
      kind true q g l = rw (eqb-true (kind_of R) (K (fetched x).value) q) (keeps-later (fetched x).value R l)
      kind false q g l = ended-later (fetched x).value (kind_of R) R (both (eqb (kind_of R) 0) (ended R) g).1

      here : (u : Bool) → cond u (fits (K (fetched x).value) (kind_of R) (ended R)) true ≡ true → keeps K R ≡ true → cond u (later_agree (fetched x).value (kind_of R) R) true ≡ true
      here true g l = kind (eqb (kind_of R) (K (fetched x).value)) refl g l
      here false g l = refl
